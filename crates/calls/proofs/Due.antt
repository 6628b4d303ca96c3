-- Every call has exactly one event that is due: it is computed here, by the tests that decide the copy rule's words.
use Rattle.std.proofs.Common.{◌≡◌, ℕ, ◌+◌, ◌<◌, ◌≤◌, Bool, true, false, eqb, ltb, leb, List, slice_index, Some, None, Ok, Err, Option, Result, sym, refl, ap, ◌∙◌, subst, arith}
use Rattle.std.proofs.lemmas.Bool.{eqb-true, eqb-false, eq-eqb, ne_eqb, leb-true, leb-false, le-leb, lt-leb, ltb-true, ltb-false, lt-ltb, le-ltb}
use Rattle.kinds.specs.Arithmetic.{Arithmetic}
use Rattle.text.specs.declared.refusals.Refusal.{Refusal}
use Rattle.lines.specs.declared.records.Line.{Line}
use Rattle.script.specs.Script.{Statement}
use Rattle.rule.specs.Closing.{Closing, program_of}
use Rattle.rule.proofs.Count.{closing, closes, closes_so, is_over, over_true, true_over, over_false, false_over}
use Rattle.calls.specs.declared.asked.Call.{Call}
use Rattle.calls.specs.declared.asked.Call.TheVariants.{Open, Post, Reading, Begin, Grant, Close}
use Rattle.calls.specs.declared.asked.GlobalCell.{GlobalCell}
use Rattle.calls.specs.declared.causes.SessionCause.{SessionCause}
use Rattle.calls.specs.declared.causes.SessionCause.TheVariants.{NotAtRest, NoSuchGlobal, UnlawfulWord, NoSuchRun, WrongGrant, RunIsOver, NoRunLeft}
use Rattle.calls.specs.Globals.{cell_of}
use Rattle.calls.specs.Openings.{Opens}
use Rattle.calls.specs.History.{Event, opened, not_opened, refused, posted, read, began, granted, closed, Run, Place, empty, between, in_run, Ledger, call_of}
use Rattle.calls.specs.Laws.{Determined}
use Rattle.calls.specs.Answers.{largest, Leaves, NoneAtRest, NoRun, Due, open_refused, open_done, post_not_at_rest, post_nowhere, post_unlawful, post_done, reading_not_at_rest, reading_nowhere, reading_done, begin_not_at_rest, begin_spent, begin_done, grant_no_run, grant_after_end, grant_of_nothing, grant_too_much, grant_goes_on, grant_ends, close_no_run, close_done}
use Rattle.calls.proofs.Opening.{one_opening, opening, opens_so}

-- ## What is due, computed

abbrev pub open_event : Result (Unit {0}) (Refusal SessionCause) → Event
open_event (Ok u) = opened
open_event (Err r) = not_opened r

abbrev pub post_event : Place → Option ℕ → Bool → GlobalCell → ℕ → Event
post_event empty c b g w = refused (Post g w) NotAtRest
post_event (in_run r) c b g w = refused (Post g w) NotAtRest
post_event (between m) None b g w = refused (Post g w) NoSuchGlobal
post_event (between m) (Some c) false g w = refused (Post g w) UnlawfulWord
post_event (between m) (Some c) true g w = posted g w

abbrev pub reading_event : Place → Option ℕ → List ℕ → GlobalCell → Event
reading_event empty c words g = refused (Reading g) NotAtRest
reading_event (in_run r) c words g = refused (Reading g) NotAtRest
reading_event (between m) None words g = refused (Reading g) NoSuchGlobal
reading_event (between m) (Some c) words g = read g (slice_index words c)

-- whether no run is left
abbrev pub next_run : Bool → ℕ → Event
next_run true n = refused Begin NoRunLeft
next_run false n = began (n + 1)

abbrev pub begin_event : Place → Event
begin_event empty = refused Begin NotAtRest
begin_event (in_run r) = refused Begin NotAtRest
begin_event (between m) = next_run (leb largest m) m

-- whether the ticket is the open run's, the run is over, the grant is of nothing or of too much, and the run is over then
abbrev pub grant_event : (own over nothing much ends : Bool) → ℕ → ℕ → List ℕ → Event
grant_event false o z m e k n σ = refused (Grant k n) NoSuchRun
grant_event true true z m e k n σ = refused (Grant k n) RunIsOver
grant_event true false true m e k n σ = refused (Grant k n) WrongGrant
grant_event true false false true e k n σ = refused (Grant k n) WrongGrant
grant_event true false false false e k n σ = granted k n e σ

abbrev pub close_event : Bool → Closing → ℕ → Event
close_event false c k = refused (Close k) NoSuchRun
close_event true c k = closed k c

module _ (K : Arithmetic) (ls : List Line) (t : Statement) (size : ℕ) where
  -- the test for a run that is over, and the one closing
  abbrev pub over : Run → ℕ → Bool
  over r n = is_over K (program_of ls t) size r.from n

  abbrev pub the_closing : Run → ℕ → Closing
  the_closing r n = closing K (program_of ls t) size r.from n

  abbrev pub grant_in : Place → ℕ → ℕ → Event
  grant_in empty k n = refused (Grant k n) NoSuchRun
  grant_in (between m) k n = refused (Grant k n) NoSuchRun
  grant_in (in_run r) k n =
      grant_event (eqb r.number k) (over r r.granted) (eqb n 0) (ltb largest (r.granted + n)) (over r (r.granted + n)) k n (the_closing r (r.granted + n)).store

  abbrev pub close_in : Place → ℕ → Event
  close_in empty k = refused (Close k) NoSuchRun
  close_in (between m) k = refused (Close k) NoSuchRun
  close_in (in_run r) k = close_event (eqb r.number k) (the_closing r r.granted) k

  abbrev pub event_of : Ledger → Call → Event
  event_of s Open = open_event (opening K ls s.words)
  event_of s (Post g w) = post_event s.place (cell_of ls g) (K.lawful w) g w
  event_of s (Reading g) = reading_event s.place (cell_of ls g) s.words g
  event_of s Begin = begin_event s.place
  event_of s (Grant k n) = grant_in s.place k n
  event_of s (Close k) = close_in s.place k

  -- ## It is due

  module _ (s : Ledger) where
    abbrev Right : Event → Type 0
    Right = Due K ls t size s

    empty_rests : s.place ≡ empty → NoneAtRest K ls t size s
    empty_rests p n q = let z : ◌≡◌ {A = ℕ} 0 1 = (let y : empty ≡ between n = sym p ∙ q in cc) in omega arith

    run_rests : (r : Run) → s.place ≡ in_run r → NoneAtRest K ls t size s
    run_rests r p n q = let z : ◌≡◌ {A = ℕ} 0 1 = (let y : in_run r ≡ between n = sym p ∙ q in cc) in omega arith

    right_open : (r : Result (Unit {0}) (Refusal SessionCause)) → Opens K ls s.words r → Right (open_event r)
    right_open (Ok u) o = open_done o
    right_open (Err r) o = open_refused o

    right_post : (g : GlobalCell) (w : ℕ) (x : Place) (c : Option ℕ) (b : Bool) → s.place ≡ x → cell_of ls g ≡ c → K.lawful w ≡ b → Right (post_event x c b g w)
    right_post g w empty c b p q l = post_not_at_rest (empty_rests p)
    right_post g w (in_run r) c b p q l = post_not_at_rest (run_rests r p)
    right_post g w (between m) None b p q l = post_nowhere p q
    right_post g w (between m) (Some c) false p q l = post_unlawful p q l
    right_post g w (between m) (Some c) true p q l = post_done p q l

    right_reading : (g : GlobalCell) (x : Place) (c : Option ℕ) → s.place ≡ x → cell_of ls g ≡ c → Right (reading_event x c s.words g)
    right_reading g empty c p q = reading_not_at_rest (empty_rests p)
    right_reading g (in_run r) c p q = reading_not_at_rest (run_rests r p)
    right_reading g (between m) None p q = reading_nowhere p q
    right_reading g (between m) (Some c) p q = reading_done p q refl

    right_next : (m : ℕ) (b : Bool) → s.place ≡ between m → leb largest m ≡ b → Right (next_run b m)
    right_next m true p l = begin_spent p (leb-true largest m l)
    right_next m false p l = begin_done p (leb-false largest m l) refl

    right_begin : (x : Place) → s.place ≡ x → Right (begin_event x)
    right_begin empty p = begin_not_at_rest (empty_rests p)
    right_begin (in_run r) p = begin_not_at_rest (run_rests r p)
    right_begin (between m) p = right_next m _ p refl

    none_empty : s.place ≡ empty → (k : ℕ) → NoRun K ls t size s k
    none_empty p k r q = let z : ◌≡◌ {A = ℕ} 0 1 = (let y : empty ≡ in_run r = sym p ∙ q.0 in cc) in omega arith

    none_between : (m : ℕ) → s.place ≡ between m → (k : ℕ) → NoRun K ls t size s k
    none_between m p k r q = let z : ◌≡◌ {A = ℕ} 0 1 = (let y : between m ≡ in_run r = sym p ∙ q.0 in cc) in omega arith

    other_open : (r : Run) → s.place ≡ in_run r → (k : ℕ) → ¬ (r.number ≡ k) → NoRun K ls t size s k
    other_open r p k h v q = h (ap (λ (x : Run). x.number) (let y : in_run r ≡ in_run v = sym p ∙ q.0 in let z : r ≡ v = cc in z) ∙ q.1)

    left_so : (r : Run) (n : ℕ) → Leaves K ls t size r n (the_closing r n).store
    left_so r n = (the_closing r n, closes K (program_of ls t) size r.from n, refl)

    right_grant_in : (r : Run) → s.place ≡ in_run r → (k n : ℕ) (a o z m e : Bool) → eqb r.number k ≡ a → over r r.granted ≡ o
        → eqb n 0 ≡ z → ltb largest (r.granted + n) ≡ m → over r (r.granted + n) ≡ e → Right (grant_event a o z m e k n (the_closing r (r.granted + n)).store)
    right_grant_in r p k n false o z m e ea eo ez em ee = grant_no_run (other_open r p k (eqb-false r.number k ea))
    right_grant_in r p k n true true z m e ea eo ez em ee =
        grant_after_end (p, eqb-true r.number k ea) (true_over K (program_of ls t) size r.from r.granted eo)
    right_grant_in r p k n true false true m e ea eo ez em ee =
        subst (λ i. Right (refused (Grant k i) WrongGrant)) (sym (eqb-true n 0 ez))
        (grant_of_nothing ((p, eqb-true r.number k ea), false_over K (program_of ls t) size r.from r.granted eo))
    right_grant_in r p k n true false false true e ea eo ez em ee =
        grant_too_much ((p, eqb-true r.number k ea), false_over K (program_of ls t) size r.from r.granted eo) (ltb-true largest (r.granted + n) em)
    right_grant_in r p k n true false false false true ea eo ez em ee =
        grant_ends ((p, eqb-true r.number k ea), false_over K (program_of ls t) size r.from r.granted eo) (let h = eqb-false n 0 ez in omega (arith, h))
        (ltb-false largest (r.granted + n) em) (true_over K (program_of ls t) size r.from (r.granted + n) ee) (left_so r (r.granted + n))
    right_grant_in r p k n true false false false false ea eo ez em ee =
        grant_goes_on ((p, eqb-true r.number k ea), false_over K (program_of ls t) size r.from r.granted eo) (let h = eqb-false n 0 ez in omega (arith, h))
        (ltb-false largest (r.granted + n) em) (false_over K (program_of ls t) size r.from (r.granted + n) ee) (left_so r (r.granted + n))

    right_grant : (k n : ℕ) (x : Place) → s.place ≡ x → Right (grant_in x k n)
    right_grant k n empty p = grant_no_run (none_empty p k)
    right_grant k n (between m) p = grant_no_run (none_between m p k)
    right_grant k n (in_run r) p = right_grant_in r p k n _ _ _ _ _ refl refl refl refl refl

    right_close_in : (r : Run) → s.place ≡ in_run r → (k : ℕ) (a : Bool) → eqb r.number k ≡ a → Right (close_event a (the_closing r r.granted) k)
    right_close_in r p k false ea = close_no_run (other_open r p k (eqb-false r.number k ea))
    right_close_in r p k true ea = close_done (p, eqb-true r.number k ea) (closes K (program_of ls t) size r.from r.granted)

    right_close : (k : ℕ) (x : Place) → s.place ≡ x → Right (close_in x k)
    right_close k empty p = close_no_run (none_empty p k)
    right_close k (between m) p = close_no_run (none_between m p k)
    right_close k (in_run r) p = right_close_in r p k _ refl

    pub right : (q : Call) → Right (event_of s q)
    right Open = right_open (opening K ls s.words) (opens_so K ls s.words)
    right (Post g w) = right_post g w _ _ _ refl refl refl
    right (Reading g) = right_reading g _ _ refl refl
    right Begin = right_begin _ refl
    right (Grant k n) = right_grant k n _ refl
    right (Close k) = right_close k _ refl

    -- ## And nothing else is

    own_number : (r : Run) (k : ℕ) → r.number ≡ k → eqb r.number k ≡ true
    own_number r k e = eq-eqb r.number k e

    only_post : (g : GlobalCell) (w : ℕ) (c : Option ℕ) (b : Bool) → NoneAtRest K ls t size s → (x : Place) → s.place ≡ x → refused (Post g w) NotAtRest ≡ post_event x c b g w
    only_post g w c b h empty p = refl
    only_post g w c b h (in_run r) p = refl
    only_post g w c b h (between m) p = absurd (h m p)

    only_reading : (g : GlobalCell) (c : Option ℕ) → NoneAtRest K ls t size s → (x : Place) → s.place ≡ x → refused (Reading g) NotAtRest ≡ reading_event x c s.words g
    only_reading g c h empty p = refl
    only_reading g c h (in_run r) p = refl
    only_reading g c h (between m) p = absurd (h m p)

    only_begin : NoneAtRest K ls t size s → (x : Place) → s.place ≡ x → refused Begin NotAtRest ≡ begin_event x
    only_begin h empty p = refl
    only_begin h (in_run r) p = refl
    only_begin h (between m) p = absurd (h m p)

    only_grant_none : (k n : ℕ) → NoRun K ls t size s k → (x : Place) → s.place ≡ x → refused (Grant k n) NoSuchRun ≡ grant_in x k n
    only_grant_none k n h empty p = refl
    only_grant_none k n h (between m) p = refl
    only_grant_none k n h (in_run r) p =
        sym (ap (λ b. grant_event b (over r r.granted) (eqb n 0) (ltb largest (r.granted + n)) (over r (r.granted + n)) k n (the_closing r (r.granted + n)).store)
        (ne_eqb r.number k (λ e. h r (p, e))))

    only_close_none : (k : ℕ) → NoRun K ls t size s k → (x : Place) → s.place ≡ x → refused (Close k) NoSuchRun ≡ close_in x k
    only_close_none k h empty p = refl
    only_close_none k h (between m) p = refl
    only_close_none k h (in_run r) p = sym (ap (λ b. close_event b (the_closing r r.granted) k) (ne_eqb r.number k (λ e. h r (p, e))))

    only_grant : (r : Run) → s.place ≡ in_run r → (k n : ℕ) → r.number ≡ k → (o z m e : Bool) (σ : List ℕ) → over r r.granted ≡ o
        → eqb n 0 ≡ z → ltb largest (r.granted + n) ≡ m → over r (r.granted + n) ≡ e → (the_closing r (r.granted + n)).store ≡ σ
        → grant_event true o z m e k n σ ≡ grant_in s.place k n
    only_grant r p k n a o z m e σ eo ez em ee ev =
        sym (ap (λ (x : Place). grant_in x k n) p ∙ (λ j. grant_event (own_number r k a j) (eo j) (ez j) (em j) (ee j) k n (ev j)))

    only_too_much : (r : Run) → s.place ≡ in_run r → (k n : ℕ) → r.number ≡ k → over r r.granted ≡ false → largest < r.granted + n → (z : Bool) → eqb n 0 ≡ z
        → refused (Grant k n) WrongGrant ≡ grant_in s.place k n
    only_too_much r p k n a o m true ez = only_grant r p k n a false true _ _ _ o ez refl refl refl
    only_too_much r p k n a o m false ez = only_grant r p k n a false false true _ _ o ez (lt-ltb largest (r.granted + n) m) refl refl

    only_left : (r : Run) (n : ℕ) (σ : List ℕ) → Leaves K ls t size r n σ → (the_closing r n).store ≡ σ
    only_left r n σ l = sym (ap (λ (c : Closing). c.store) (closes_so K (program_of ls t) size r.from n l.0 l.1)) ∙ l.2

    pub only : (e : Event) → Right e → e ≡ event_of s (call_of e)
    only _ (open_refused {r} o) = ap open_event (one_opening K ls s.words (opening K ls s.words) (Err r) (opens_so K ls s.words) o)
    only _ (open_done o) = ap open_event (one_opening K ls s.words (opening K ls s.words) (Ok tt) (opens_so K ls s.words) o)
    only _ (post_not_at_rest {g} {w} h) = only_post g w (cell_of ls g) (K.lawful w) h s.place refl
    only _ (post_nowhere {g} {w} p q) = λ j. post_event (sym p j) (sym q j) (K.lawful w) g w
    only _ (post_unlawful {g} {w} p q l) = λ j. post_event (sym p j) (sym q j) (sym l j) g w
    only _ (post_done {g} {w} p q l) = λ j. post_event (sym p j) (sym q j) (sym l j) g w
    only _ (reading_not_at_rest {g} h) = only_reading g (cell_of ls g) h s.place refl
    only _ (reading_nowhere {g} p q) = λ j. reading_event (sym p j) (sym q j) s.words g
    only _ (reading_done {g} p q e) = ap (read g) e ∙ (λ j. reading_event (sym p j) (sym q j) s.words g)
    only _ (begin_not_at_rest h) = only_begin h s.place refl
    only _ (begin_spent {m} p l) = ap (λ b. next_run b m) (sym (le-leb largest m l)) ∙ ap begin_event (sym p)
    only _ (begin_done {k} {m} p l e) = ap began e ∙ (ap (λ b. next_run b m) (sym (lt-leb largest m l)) ∙ ap begin_event (sym p))
    only _ (grant_no_run {k} {n} h) = only_grant_none k n h s.place refl
    only _ (grant_after_end {k} {n} {r} p o) = only_grant r p.0 k n p.1 true _ _ _ _ (over_true K (program_of ls t) size r.from r.granted o) refl refl refl refl
    only _ (grant_of_nothing {k} {r} p) = only_grant r p.0.0 k 0 p.0.1 false true _ _ _ (over_false K (program_of ls t) size r.from r.granted p.1) refl refl refl refl
    only _ (grant_too_much {k} {n} {r} p m) = only_too_much r p.0.0 k n p.0.1 (over_false K (program_of ls t) size r.from r.granted p.1) m _ refl
    only _ (grant_goes_on {k} {n} {r} {σ} p z m e l) =
        only_grant r p.0.0 k n p.0.1 false false false false σ (over_false K (program_of ls t) size r.from r.granted p.1) (ne_eqb n 0 (λ h. omega (arith, h, z)))
        (le-ltb largest (r.granted + n) m) (over_false K (program_of ls t) size r.from (r.granted + n) e) (only_left r (r.granted + n) σ l)
    only _ (grant_ends {k} {n} {r} {σ} p z m e l) =
        only_grant r p.0.0 k n p.0.1 false false false true σ (over_false K (program_of ls t) size r.from r.granted p.1) (ne_eqb n 0 (λ h. omega (arith, h, z)))
        (le-ltb largest (r.granted + n) m) (over_true K (program_of ls t) size r.from (r.granted + n) e) (only_left r (r.granted + n) σ l)
    only _ (close_no_run {k} h) = only_close_none k h s.place refl
    only _ (close_done {k} {r} {c} p d) =
        ap (closed k) (closes_so K (program_of ls t) size r.from r.granted c d)
        ∙ sym (ap (λ (x : Place). close_in x k) p.0 ∙ ap (λ (b : Bool). close_event b (the_closing r r.granted) k) (own_number r k p.1))

-- ## It is an event of that call

module _ (K : Arithmetic) (ls : List Line) (t : Statement) (size : ℕ) (s : Ledger) where
  open_called : (r : Result (Unit {0}) (Refusal SessionCause)) → call_of (open_event r) ≡ Open
  open_called (Ok u) = refl
  open_called (Err r) = refl

  post_called : (g : GlobalCell) (w : ℕ) (x : Place) (c : Option ℕ) (b : Bool) → call_of (post_event x c b g w) ≡ Post g w
  post_called g w empty c b = refl
  post_called g w (in_run r) c b = refl
  post_called g w (between m) None b = refl
  post_called g w (between m) (Some c) false = refl
  post_called g w (between m) (Some c) true = refl

  reading_called : (g : GlobalCell) (words : List ℕ) (x : Place) (c : Option ℕ) → call_of (reading_event x c words g) ≡ Reading g
  reading_called g words empty c = refl
  reading_called g words (in_run r) c = refl
  reading_called g words (between m) None = refl
  reading_called g words (between m) (Some c) = refl

  next_called : (b : Bool) (n : ℕ) → call_of (next_run b n) ≡ Begin
  next_called true n = refl
  next_called false n = refl

  begin_called : (x : Place) → call_of (begin_event x) ≡ Begin
  begin_called empty = refl
  begin_called (in_run r) = refl
  begin_called (between m) = next_called (leb largest m) m

  grant_called : (a o z m e : Bool) (k n : ℕ) (σ : List ℕ) → call_of (grant_event a o z m e k n σ) ≡ Grant k n
  grant_called false o z m e k n σ = refl
  grant_called true true z m e k n σ = refl
  grant_called true false true m e k n σ = refl
  grant_called true false false true e k n σ = refl
  grant_called true false false false e k n σ = refl

  grant_in_called : (x : Place) (k n : ℕ) → call_of (grant_in K ls t size x k n) ≡ Grant k n
  grant_in_called empty k n = refl
  grant_in_called (between m) k n = refl
  grant_in_called (in_run r) k n =
      grant_called (eqb r.number k) (over K ls t size r r.granted) (eqb n 0) (ltb largest (r.granted + n)) (over K ls t size r (r.granted + n)) k n
      (the_closing K ls t size r (r.granted + n)).store

  close_called : (b : Bool) (c : Closing) (k : ℕ) → call_of (close_event b c k) ≡ Close k
  close_called false c k = refl
  close_called true c k = refl

  close_in_called : (x : Place) (k : ℕ) → call_of (close_in K ls t size x k) ≡ Close k
  close_in_called empty k = refl
  close_in_called (between m) k = refl
  close_in_called (in_run r) k = close_called (eqb r.number k) (the_closing K ls t size r r.granted) k

  pub called : (q : Call) → call_of (event_of K ls t size s q) ≡ q
  called Open = open_called (opening K ls s.words)
  called (Post g w) = post_called g w s.place (cell_of ls g) (K.lawful w)
  called (Reading g) = reading_called g s.words s.place (cell_of ls g)
  called Begin = begin_called s.place
  called (Grant k n) = grant_in_called s.place k n
  called (Close k) = close_in_called s.place k

pub determined : Determined
determined K ls t size s = (
  (λ q. (event_of K ls t size s q, right K ls t size s q, called K ls t size s q)),
  (λ e e' d d' h. only K ls t size s e d ∙ ap (event_of K ls t size s) h ∙ sym (only K ls t size s e' d')),
)
