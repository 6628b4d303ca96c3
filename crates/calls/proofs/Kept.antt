-- If a place and its store stand as the calls before say, then after any call more they do so too, and the answer is the one that is due.
use Rattle.std.proofs.Common.{◌≡◌, ℕ, zero, suc, ◌+◌, ◌≤◌, Bool, true, false, T, cond, eqb, leb, ltb, List, [], ◌∷◌, length, get_or, set, nat_lt, slice_index, slice_set, Some, None, Ok, Err, Option, Result, sym, refl, ap, ◌∙◌, subst, arith}
use Rattle.std.proofs.lemmas.Bool.{eqb-true, leb-false, ltb-false}
use Rattle.std.proofs.lemmas.List.{length-set}
use Rattle.std.proofs.lemmas.Option.{slice_get-get_or}
use Rattle.std.specs.List.{slice_get}
use Rattle.kinds.specs.Arithmetic.{Arithmetic, Laws}
use Rattle.text.specs.declared.refusals.Refusal.{Refusal}
use Rattle.lines.specs.declared.records.Line.{Line}
use Rattle.script.specs.Apart.{globals_of}
use Rattle.script.specs.IsScript.{IsScript}
use Rattle.rule.specs.Rewriting.{Ending, stopped}
use Rattle.rule.specs.Machine.{Item}
use Rattle.rule.specs.Closing.{Closing, first_items, program_of}
use Rattle.rule.specs.Lawful.{LawfulBelow, LawfulWord}
use Rattle.rule.specs.Handed.{handed, handed_room}
use Rattle.rule.specs.Resume.{Reached, going, ended, machine_step}
use Rattle.rule.proofs.Count.{closing}
use Rattle.rule.proofs.Lawful.{words_get}
use Rattle.calls.specs.declared.asked.Call.{Call}
use Rattle.calls.specs.declared.asked.Call.TheVariants.{Open, Post, Reading, Begin, Grant, Close}
use Rattle.calls.specs.declared.asked.GlobalCell.{GlobalCell}
use Rattle.calls.specs.declared.causes.SessionCause.{SessionCause}
use Rattle.calls.specs.declared.causes.SessionCause.TheVariants.{StoreFails}
use Rattle.calls.specs.Globals.{cell_of}
use Rattle.calls.specs.History.{Event, refused, posted, read, granted, closed, Place, empty, between, in_run, Run, Ledger, after, more, put_into}
use Rattle.calls.specs.Answers.{largest}
use Rattle.calls.specs.Openings.{Opens}
use Rattle.calls.proofs.Due.{begin_event, close_event, close_in, event_of, grant_event, grant_in, next_run, open_event, over, post_event, reading_event, the_closing}
use Rattle.calls.specs.Standing.{Phase, away, rest, running, over as past, Ran, Resting, Stands, run}
use Rattle.calls.proofs.Model.{Step, at, opens_to, word_event, reached, posts, reads, begins, goes_on, is_past, grants, ends_so, closes, answer_of}
use Rattle.calls.proofs.Named.{cell_taken}
use Rattle.calls.proofs.Opening.{has_room, opened_lawful, opening, opens_so}
use Rattle.calls.proofs.Running.{Ends, closing_is, done, ends, lawful_is, long_is, over_is, store_of, went_on}

-- ## Words

is_true : (b : Bool) → T b → b ≡ true
is_true true h = refl
is_true false h = absurd h

set_lawful : (K : Arithmetic) (u : ℕ) (σ : List ℕ) (c w : ℕ) → K.lawful w ≡ true → LawfulBelow K u σ → LawfulBelow K u (set σ c w)
set_lawful K zero σ c w q h = tt
set_lawful K (suc u) [] c w q h = tt
set_lawful K (suc u) (x ∷ xs) zero w q h = (subst T (sym q) tt, h.1)
set_lawful K (suc u) (x ∷ xs) (suc c) w q h = (h.0, set_lawful K u xs c w q h.1)

-- ## A place, by the calls so far

module _ (K : Arithmetic) (L : Laws K) (ls : List Line) (s : IsScript K.least K.most ls) (few : length ls ≤ 2048) (size : ℕ) where
  abbrev On : Ledger → Phase → ℕ → List ℕ → Type 0
  On = Stands K ls s.text size

  abbrev Rests : Place → ℕ → List ℕ → Type 0
  Rests = Resting K ls s.text size

  -- before any call
  pub stands_first : (σ : List ℕ) → length σ ≡ size → On (record { words = σ; place = empty }) away 0 σ
  stands_first σ h = record { words = refl; small = omega arith; long = h; matches = refl }

  module _ (l : Ledger) where
    abbrev pub due_event : Call → Event
    due_event q = event_of K ls s.text size l q

    -- a call gave the event that is due, and the state stands after it
    pub record Kept (e : Event) (x : Step) : Type 0 where
      pub is : x.1 ≡ e
      pub stands : On (after ls x.1 l) x.0.phase x.0.runs x.0.words

    -- ## An opening

    opens_kept : (σ : List ℕ) → length σ ≡ size → l.words ≡ σ → (r : Result (Unit {0}) (Refusal SessionCause)) → Opens K ls σ r → Kept (open_event r) (opens_to r σ)
    opens_kept σ h e (Ok u) o = record {
      is = refl;
      stands = record {
        words = e;
        small = omega arith;
        long = h;
        matches = record { is = refl; room = let q = has_room K ls σ o in omega (arith, q, h); lawful = opened_lawful K K.least K.most ls s σ o };
      };
    }
    opens_kept σ h e (Err r) o = record { is = refl; stands = record { words = e; small = omega arith; long = h; matches = refl } }

    open_kept : (p : Phase) (n : ℕ) (σ : List ℕ) → On l p n σ → Kept (open_event (opening K ls l.words)) (opens_to (opening K ls σ) σ)
    open_kept p n σ f =
        subst (λ τ. Kept (open_event (opening K ls τ)) (opens_to (opening K ls σ) σ)) (sym f.words)
        (opens_kept σ f.long f.words (opening K ls σ) (opens_so K ls σ))

    -- ## Post and reading

    post_at_rest : (g : GlobalCell) (w c n : ℕ) (σ : List ℕ) (i : Bool) → nat_lt c (length σ) ≡ i → cell_of ls g ≡ Some c → K.lawful w ≡ true → On l rest n σ
        → Kept (posted g w) (cond i (at rest n (slice_set σ c w), posted g w) (at rest n σ, refused (Post g w) StoreFails))
    post_at_rest g w c n σ true e q b f =
        let m = f.matches in record {
          is = refl;
          stands = record {
            words = λ j. put_into (q j) w (f.words j);
            small = f.small;
            long = length-set σ c w ∙ f.long;
            matches = record { is = m.is; room = m.room; lawful = set_lawful K (globals_of ls).taken σ c w b m.lawful };
          };
        }
    post_at_rest g w c n σ false e q b f =
        let h = cell_taken ls g c q in
        let k = ltb-false c (length σ) e in
        let d = f.long in
        let room = f.matches.room in
        absurd (omega (arith, h, k, d, room))

    post_kept : (g : GlobalCell) (w : ℕ) (p : Phase) (c : Option ℕ) (b : Bool) (n : ℕ) (σ : List ℕ) → cell_of ls g ≡ c → K.lawful w ≡ b → On l p n σ
        → Kept (post_event l.place c b g w) (posts K ls s.text size p c b n σ g w)
    post_kept g w away c b n σ q h f = record { is = ap (λ (x : Place). post_event x c b g w) (sym f.matches); stands = f }
    post_kept g w rest None b n σ q h f = record { is = ap (λ (x : Place). post_event x None b g w) (sym f.matches.is); stands = f }
    post_kept g w rest (Some c) false n σ q h f = record { is = ap (λ (x : Place). post_event x (Some c) false g w) (sym f.matches.is); stands = f }
    post_kept g w rest (Some c) true n σ q h f =
        let k = post_at_rest g w c n σ (nat_lt c (length σ)) refl q h f in
        record { is = k.is ∙ ap (λ (x : Place). post_event x (Some c) true g w) (sym f.matches.is); stands = k.stands }
    post_kept g w (running ps k) c b n σ q h f = record { is = ap (λ (x : Place). post_event x c b g w) (sym f.matches.is); stands = f }
    post_kept g w (past e k) c b n σ q h f = record { is = ap (λ (x : Place). post_event x c b g w) (sym f.matches.is); stands = f }

    -- the word that is read is there, lawful, and the store's
    word_read : (g : GlobalCell) (c n : ℕ) (σ : List ℕ) → cell_of ls g ≡ Some c → On l rest n σ → word_event K (slice_get σ c) g ≡ read g (slice_index l.words c)
    word_read g c n σ q f =
        let m = f.matches in
        let room = m.room in
        let h = cell_taken ls g c q in
        let d = f.long in
        let lawful = words_get (LawfulWord K) (globals_of ls).taken c 0 σ h (omega (arith, d, room)) m.lawful in
        ap (λ o. word_event K o g) (slice_get-get_or σ c 0 (omega (arith, h, d, room)))
        ∙ ap (λ b. cond b (read g (get_or σ c 0)) (refused (Reading g) StoreFails)) (is_true (K.lawful (get_or σ c 0)) lawful)
        ∙ ap (λ τ. read g (slice_index τ c)) (sym f.words)

    reading_kept : (g : GlobalCell) (p : Phase) (c : Option ℕ) (n : ℕ) (σ : List ℕ) → cell_of ls g ≡ c → On l p n σ
        → Kept (reading_event l.place c l.words g) (reads K ls s.text size p c n σ g)
    reading_kept g away c n σ q f = record { is = ap (λ (x : Place). reading_event x c l.words g) (sym f.matches); stands = f }
    reading_kept g rest None n σ q f = record { is = ap (λ (x : Place). reading_event x None l.words g) (sym f.matches.is); stands = f }
    reading_kept g rest (Some c) n σ q f =
        let e = word_read g c n σ q f in record {
          is = e ∙ ap (λ (x : Place). reading_event x (Some c) l.words g) (sym f.matches.is);
          stands = subst (λ x. On (after ls x l) rest n σ) (sym e) f;
        }
    reading_kept g (running ps k) c n σ q f = record { is = ap (λ (x : Place). reading_event x c l.words g) (sym f.matches.is); stands = f }
    reading_kept g (past e k) c n σ q f = record { is = ap (λ (x : Place). reading_event x c l.words g) (sym f.matches.is); stands = f }

    -- ## Begin

    at_rest_kept : (b : Bool) (n : ℕ) (σ : List ℕ) → leb largest n ≡ b → On l rest n σ → Kept (next_run b n) (begins K ls s.text size rest b n σ)
    at_rest_kept true n σ q f = record { is = refl; stands = f }
    at_rest_kept false n σ q f =
        let h = leb-false largest n q in record {
          is = refl;
          stands = record {
            words = f.words;
            small = omega (arith, h);
            long = f.long;
            matches = record {
              open_run = record { number = n + 1; granted = 0; from = l.words };
              is = refl;
              number = refl;
              count = refl;
              small = omega arith;
              ran = record {
                long = ap (λ τ. length τ) f.words ∙ f.long;
                room = f.matches.room;
                lawful = subst (LawfulBelow K (globals_of ls).taken) (sym f.words) f.matches.lawful;
                came = ap (λ τ. going (first_items (program_of ls s.text)) τ) f.words;
              };
            };
          };
        }

    begin_kept : (p : Phase) (n : ℕ) (σ : List ℕ) → On l p n σ → Kept (begin_event l.place) (begins K ls s.text size p (leb largest n) n σ)
    begin_kept away n σ f = record { is = ap begin_event (sym f.matches); stands = f }
    begin_kept rest n σ f =
        let k = at_rest_kept (leb largest n) n σ refl f in
        record { is = k.is ∙ ap begin_event (sym f.matches.is); stands = k.stands }
    begin_kept (running ps k) n σ f = record { is = ap begin_event (sym f.matches.is); stands = f }
    begin_kept (past e k) n σ f = record { is = ap begin_event (sym f.matches.is); stands = f }

    -- ## A grant

    -- what it comes to
    reached_stands : (ps : List Item) (k n i : ℕ) (σ : List ℕ) (m : ℕ) (b : Bool) (f : On l (running ps k) n σ) → k + m ≤ largest
        → (x : Reached Item (List ℕ)) → Ends m x → Ran K ls s.text size f.matches.open_run.from (f.matches.open_run.granted + m) x
        → On (after ls (granted i m b (store_of x)) l) (reached n k m x).phase (reached n k m x).runs (reached n k m x).words
    reached_stands ps k n i σ m b f h (going qs τ) d w =
        let o = f.matches.open_run in record {
          words = refl;
          small = f.small;
          long = long_is K L ls s few size o.from (o.granted + m) (going qs τ) w;
          matches = record {
            open_run = record { number = o.number; granted = o.granted + m; from = o.from };
            is = ap (more m) f.matches.is;
            number = f.matches.number;
            count = ap (λ c. c + m) f.matches.count;
            small = h;
            ran = w;
          };
        }
    reached_stands ps k n i σ m b f h (ended e j τ) d w =
        let o = f.matches.open_run in
        let c = f.matches.count in
        let q : j ≤ m = d.1 in record {
          words = refl;
          small = f.small;
          long = long_is K L ls s few size o.from (o.granted + m) (ended e j τ) w;
          matches = record {
            open_run = record { number = o.number; granted = o.granted + m; from = o.from };
            is = ap (more m) f.matches.is;
            number = f.matches.number;
            left = j;
            count = omega (arith, c, q);
            small = omega (arith, h, q);
            ran = w;
          };
        }

    -- the store that the rule leaves is the one that the machine came to
    left_there : (σ : List ℕ) (n : ℕ) (x : Reached Item (List ℕ)) → Ran K ls s.text size σ n x → (closing K (program_of ls s.text) size σ n).store ≡ store_of x
    left_there σ n (going ps τ) w = ap (λ (c : Closing). c.store) (closing_is K L ls s few size σ n (going ps τ) w)
    left_there σ n (ended e k τ) w = ap (λ (c : Closing). c.store) (closing_is K L ls s few size σ n (ended e k τ) w)

    grant_running : (ps : List Item) (k n : ℕ) (σ : List ℕ) (i m : ℕ) (a z y : Bool) → eqb n i ≡ a → eqb m 0 ≡ z → ltb largest (k + m) ≡ y → (f : On l (running ps k) n σ)
        → grant_event a false z y (done (run K ls s.text size m ps σ)) i m (store_of (run K ls s.text size m ps σ)) ≡ grant_in K ls s.text size l.place i m
    grant_running ps k n σ i m a z y ea ez ey f =
        let o = f.matches.open_run in
        let x = run K ls s.text size m ps σ in
        let w = went_on K L ls s few size o.from o.granted m ps σ f.matches.ran in
        let fa : eqb o.number i ≡ a = ap (λ x. eqb x i) f.matches.number ∙ ea in
        let fy : ltb largest (o.granted + m) ≡ y = ap (λ x. ltb largest (x + m)) f.matches.count ∙ ey in
        let fo = over_is K L ls s few size o.from o.granted (going ps σ) f.matches.ran in
        let fe = over_is K L ls s few size o.from (o.granted + m) x w in
        let fs = left_there o.from (o.granted + m) x w in
        sym (ap (λ (x : Place). grant_in K ls s.text size x i m) f.matches.is ∙ (λ j. grant_event (fa j) (fo j) (ez j) (fy j) (fe j) i m (fs j)))

    goes_on_kept : (ps : List Item) (k n : ℕ) (σ : List ℕ) (i m : ℕ) (a z y : Bool) → eqb n i ≡ a → eqb m 0 ≡ z → ltb largest (k + m) ≡ y → On l (running ps k) n σ
        → Kept (grant_in K ls s.text size l.place i m) (goes_on K ls s.text size a z y ps k n σ i m)
    goes_on_kept ps k n σ i m false z y ea ez ey f = record { is = grant_running ps k n σ i m false z y ea ez ey f; stands = f }
    goes_on_kept ps k n σ i m true true y ea ez ey f = record { is = grant_running ps k n σ i m true true y ea ez ey f; stands = f }
    goes_on_kept ps k n σ i m true false true ea ez ey f = record { is = grant_running ps k n σ i m true false true ea ez ey f; stands = f }
    goes_on_kept ps k n σ i m true false false ea ez ey f =
        let o = f.matches.open_run in record {
          is = grant_running ps k n σ i m true false false ea ez ey f;
          stands = reached_stands ps k n i σ m (done (run K ls s.text size m ps σ)) f (ltb-false largest (k + m) ey) (run K ls s.text size m ps σ)
              (ends (machine_step K size (handed K) handed_room (globals_of ls).names) m ps σ)
              (went_on K L ls s few size o.from o.granted m ps σ f.matches.ran);
        }

    grant_past : (e : Ending) (k n : ℕ) (σ : List ℕ) (i m : ℕ) (a : Bool) → eqb n i ≡ a → (f : On l (past e k) n σ)
        → grant_event a true (eqb m 0) (ltb largest (f.matches.open_run.granted + m)) (over K ls s.text size f.matches.open_run (f.matches.open_run.granted + m)) i m
        (the_closing K ls s.text size f.matches.open_run (f.matches.open_run.granted + m)).store
        ≡ grant_in K ls s.text size l.place i m
    grant_past e k n σ i m a ea f =
        let o = f.matches.open_run in
        let fa : eqb o.number i ≡ a = ap (λ x. eqb x i) f.matches.number ∙ ea in
        let fo = over_is K L ls s few size o.from o.granted (ended e f.matches.left σ) f.matches.ran in
        sym (ap (λ (x : Place). grant_in K ls s.text size x i m) f.matches.is
        ∙ (λ j. grant_event (fa j) (fo j) (eqb m 0) (ltb largest (o.granted + m)) (over K ls s.text size o (o.granted + m)) i m (the_closing K ls s.text size o (o.granted + m)).store))

    is_past_kept : (e : Ending) (k n : ℕ) (σ : List ℕ) (i m : ℕ) (a : Bool) → eqb n i ≡ a → On l (past e k) n σ
        → Kept (grant_in K ls s.text size l.place i m) (is_past K ls s.text size a e k n σ i m)
    is_past_kept e k n σ i m false ea f = record { is = grant_past e k n σ i m false ea f; stands = f }
    is_past_kept e k n σ i m true ea f = record { is = grant_past e k n σ i m true ea f; stands = f }

    grant_kept : (i m : ℕ) (p : Phase) (n : ℕ) (σ : List ℕ) → On l p n σ → Kept (grant_in K ls s.text size l.place i m) (grants K ls s.text size p n σ i m)
    grant_kept i m away n σ f = record { is = ap (λ (x : Place). grant_in K ls s.text size x i m) (sym f.matches); stands = f }
    grant_kept i m rest n σ f = record { is = ap (λ (x : Place). grant_in K ls s.text size x i m) (sym f.matches.is); stands = f }
    grant_kept i m (running ps k) n σ f = goes_on_kept ps k n σ i m _ _ _ refl refl refl f
    grant_kept i m (past e k) n σ f = is_past_kept e k n σ i m _ refl f

    -- ## A close

    ends_kept : (a : Bool) (p : Phase) (e : Ending) (k n : ℕ) (σ : List ℕ) (i : ℕ) → eqb n i ≡ a → On l p n σ → (globals_of ls).taken ≤ size
        → LawfulBelow K (globals_of ls).taken σ
        → close_event a (record { ending = e; count = k; store = σ }) i ≡ close_in K ls s.text size l.place i
        → Kept (close_in K ls s.text size l.place i) (ends_so K ls s.text size a p e k n σ i)
    ends_kept false p e k n σ i ea f q w c = record { is = c; stands = f }
    ends_kept true p e k n σ i ea f q w c = record {
      is = c;
      stands = record { words = refl; small = f.small; long = f.long; matches = record { is = ap between (sym (eqb-true n i ea)); room = q; lawful = w } };
    }

    closed_so : (o : Run) → l.place ≡ in_run o → (n i : ℕ) → o.number ≡ n → (c : Closing) → closing K (program_of ls s.text) size o.from o.granted ≡ c
        → close_event (eqb n i) c i ≡ close_in K ls s.text size l.place i
    closed_so o p n i q c d = sym (ap (λ (x : Place). close_in K ls s.text size x i) p ∙ (λ j. close_event (eqb (q j) i) (d j) i))

    close_kept : (i : ℕ) (p : Phase) (n : ℕ) (σ : List ℕ) → On l p n σ → Kept (close_in K ls s.text size l.place i) (closes K ls s.text size p n σ i)
    close_kept i away n σ f = record { is = ap (λ (x : Place). close_in K ls s.text size x i) (sym f.matches); stands = f }
    close_kept i rest n σ f = record { is = ap (λ (x : Place). close_in K ls s.text size x i) (sym f.matches.is); stands = f }
    close_kept i (running ps k) n σ f =
        let o = f.matches.open_run in
        let w = f.matches.ran in
        let c = f.matches.count in
        ends_kept (eqb n i) (running ps k) stopped k n σ i refl f w.room (lawful_is K L ls s few size o.from o.granted (going ps σ) w)
        (closed_so o f.matches.is n i f.matches.number _
        (closing_is K L ls s few size o.from o.granted (going ps σ) w
        ∙ ap {B = Closing} (λ x. record { ending = stopped; count = x; store = σ }) (omega (arith, c))))
    close_kept i (past e k) n σ f =
        let o = f.matches.open_run in
        let w = f.matches.ran in
        ends_kept (eqb n i) (past e k) e k n σ i refl f w.room (lawful_is K L ls s few size o.from o.granted (ended e f.matches.left σ) w)
        (closed_so o f.matches.is n i f.matches.number _
        (closing_is K L ls s few size o.from o.granted (ended e f.matches.left σ) w
        ∙ ap {B = Closing} (λ x. record { ending = e; count = x; store = σ }) f.matches.count))

    -- ## Any call

    pub kept : (p : Phase) (n : ℕ) (σ : List ℕ) → On l p n σ → (q : Call) → Kept (due_event q) (answer_of K ls s.text size (at p n σ) q)
    kept p n σ f Open = open_kept p n σ f
    kept p n σ f (Post g w) = post_kept g w p _ _ n σ refl refl f
    kept p n σ f (Reading g) = reading_kept g p _ n σ refl f
    kept p n σ f Begin = begin_kept p n σ f
    kept p n σ f (Grant i m) = grant_kept i m p n σ f
    kept p n σ f (Close i) = close_kept i p n σ f
