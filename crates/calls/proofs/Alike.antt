-- Two sessions of a script, over stores of equal size, reply alike exactly where the words of their globals are the same.
use Rattle.std.proofs.Common.{◌≡◌, ℕ, zero, suc, ◌+◌, ◌<◌, ◌≤◌, Bool, true, false, eqb, leb, ltb, List, [], ◌∷◌, All, length, get_or, map, reverse, take, set, slice_index, Some, None, Ok, Err, Option, Result, ℤ, sym, refl, ap, ◌∙◌, subst, arith}
use Rattle.std.proofs.lemmas.List.{ext_get_or, get_or-take, length-set, length-take-le}
use Rattle.std.proofs.Math.Seq.{take-set-lt}
use Rattle.kinds.specs.Arithmetic.{Arithmetic}
use Rattle.text.specs.declared.refusals.Refusal.{Refusal}
use Rattle.lines.specs.declared.records.Line.{Line}
use Rattle.script.specs.Apart.{globals_of, own}
use Rattle.script.specs.IsScript.{IsScript}
use Rattle.script.specs.Script.{Statement}
use Rattle.rule.specs.Closing.{Closing, program_of}
use Rattle.rule.specs.Local.{Agree, SameClosing}
use Rattle.rule.proofs.Count.{closes}
use Rattle.rule.proofs.Inner.{closes_alike, over_alike}
use Rattle.rule.proofs.Local.{globals_sit}
use Rattle.faults.specs.Endings.{ending_of}
use Rattle.calls.specs.declared.asked.Answer.TheVariants.{Closed, Opened, Word}
use Rattle.calls.specs.declared.asked.Call.{Call}
use Rattle.calls.specs.declared.asked.Call.TheVariants.{Open, Post, Reading, Begin, Grant, Close}
use Rattle.calls.specs.declared.asked.GlobalCell.{GlobalCell}
use Rattle.calls.specs.declared.causes.SessionCause.{SessionCause}
use Rattle.calls.specs.Globals.{Unlawful, cell_of}
use Rattle.calls.specs.History.{Event, opened, read, Ledger, Place, Reply, empty, between, in_run, after, ledger, more, put_into, reply_of}
use Rattle.calls.specs.Answers.{Answered, largest, open_done, reading_done}
use Rattle.calls.specs.Laws.{IsReading, TwoSessions, global_store}
use Rattle.calls.specs.Openings.{Opens, opens, too_small, unlawful}
use Rattle.calls.proofs.Due.{begin_event, close_event, close_in, event_of, grant_event, grant_in, next_run, open_event, over, post_event, reading_event, the_closing}
use Rattle.calls.proofs.Named.{cell_taken, has_below, named}
use Rattle.calls.proofs.Opening.{has_room, one_opening, opening, opens_so}
use Rattle.calls.proofs.Replies.{made, replied_so}

-- ## Stores that agree on the globals' cells

module _ (ls : List Line) where
  abbrev Same : List ℕ → List ℕ → Type 0
  Same = Agree (globals_of ls).taken

  same_back : (σ τ : List ℕ) → Same σ τ → Same τ σ
  same_back σ τ a = record { front = sym a.front; long = sym a.long }

  same_word : (σ τ : List ℕ) → Same σ τ → (c : ℕ) → c < (globals_of ls).taken → slice_index σ c ≡ slice_index τ c
  same_word σ τ a c h =
      sym (get_or-take (globals_of ls).taken σ c 0 h) ∙ ap (λ xs. get_or xs c 0) a.front ∙ get_or-take (globals_of ls).taken τ c 0 h

  same_put : (σ τ : List ℕ) → Same σ τ → (c w : ℕ) → c < (globals_of ls).taken → Same (set σ c w) (set τ c w)
  same_put σ τ a c w h = record {
    front =
        take-set-lt (globals_of ls).taken σ c w h ∙ ap (λ xs. set xs c w) a.front ∙ sym (take-set-lt (globals_of ls).taken τ c w h);
    long = length-set σ c w ∙ a.long ∙ sym (length-set τ c w);
  }

  module _ (K : Arithmetic) where
    unlawful_there : (σ τ : List ℕ) → Same σ τ → (n : ℕ) → Unlawful K ls σ n → Unlawful K ls τ n
    unlawful_there σ τ a n u =
        let e = same_word σ τ a u.0 (has_below (globals_of ls).taken ((globals_of ls).names (own n)) u.0 (globals_sit ls (own n)) u.1) in
        (u.0, u.1, subst (λ w. K.lawful w ≡ false) e u.2)

    opens_there : (σ τ : List ℕ) → Same σ τ → (r : Result (Unit {0}) (Refusal SessionCause)) → Opens K ls σ r → Opens K ls τ r
    opens_there σ τ a _ (too_small q) = too_small (let e = a.long in omega (arith, e, q))
    opens_there σ τ a _ (unlawful {n} q f) =
        unlawful (let e = a.long in omega (arith, e, q)) (unlawful_there σ τ a n f.0, λ m h u. f.1 m h (unlawful_there τ σ (same_back σ τ a) m u))
    opens_there σ τ a _ (opens q f) = opens (let e = a.long in omega (arith, e, q)) (λ n u. f n (unlawful_there τ σ (same_back σ τ a) n u))

    same_opening : (σ τ : List ℕ) → Same σ τ → opening K ls σ ≡ opening K ls τ
    same_opening σ τ a = one_opening K ls τ (opening K ls τ) (opening K ls σ) (opens_so K ls τ) (opens_there σ τ a (opening K ls σ) (opens_so K ls σ))

-- ## One call

module _ (K : Arithmetic) (low high : ℤ) (ls : List Line) (few : length ls ≤ 2048) (script : IsScript low high ls) (size : ℕ) where
  abbrev t : Statement
  t = script.text

  -- places that differ in the words at the begin of an open run, and there only where the rule does not look
  data SamePlace : Place → Place → Type 0 where
    both_empty : SamePlace empty empty
    both_between : {m : ℕ} → SamePlace (between m) (between m)
    both_in_run : {k n : ℕ} {σ τ : List ℕ} → Same ls σ τ
        → SamePlace (in_run (record { number = k; granted = n; from = σ })) (in_run (record { number = k; granted = n; from = τ }))

  record Like (x y : Ledger) : Type 0 where
    words : Same ls x.words y.words
    place : SamePlace x.place y.place

  same_more : (n : ℕ) (x y : Place) → SamePlace x y → SamePlace (more n x) (more n y)
  same_more n _ _ both_empty = both_empty
  same_more n _ _ both_between = both_between
  same_more n _ _ (both_in_run a) = both_in_run a

  module _ (x y : Ledger) (like : Like x y) where
    -- events that are told alike, and leave ledgers that are alike
    record Both (e f : Event) : Type 0 where
      told : reply_of e ≡ reply_of f
      left : Like (after ls e x) (after ls f y)

    open_both : (r : Result (Unit {0}) (Refusal SessionCause)) → Both (open_event r) (open_event r)
    open_both (Ok u) = record { told = refl; left = record { words = like.words; place = both_between } }
    open_both (Err r) = record { told = refl; left = record { words = like.words; place = both_empty } }

    put_both : (w : ℕ) (c : Option ℕ) → ((d : ℕ) → c ≡ Some d → d < (globals_of ls).taken) → Same ls (put_into c w x.words) (put_into c w y.words)
    put_both w None h = like.words
    put_both w (Some c) h = same_put ls x.words y.words like.words c w (h c refl)

    post_both : (g : GlobalCell) (w : ℕ) (c : Option ℕ) (b : Bool) (p q : Place) → SamePlace p q → Both (post_event p c b g w) (post_event q c b g w)
    post_both g w c b _ _ both_empty = record { told = refl; left = like }
    post_both g w c b _ _ (both_in_run a) = record { told = refl; left = like }
    post_both g w None b _ _ both_between = record { told = refl; left = like }
    post_both g w (Some c) false _ _ both_between = record { told = refl; left = like }
    post_both g w (Some c) true _ _ both_between =
        record { told = refl; left = record { words = put_both w (cell_of ls g) (cell_taken ls g); place = like.place } }

    reading_both : (g : GlobalCell) (c : Option ℕ) → cell_of ls g ≡ c → (p q : Place) → SamePlace p q
        → Both (reading_event p c x.words g) (reading_event q c y.words g)
    reading_both g c e _ _ both_empty = record { told = refl; left = like }
    reading_both g c e _ _ (both_in_run a) = record { told = refl; left = like }
    reading_both g None e _ _ both_between = record { told = refl; left = like }
    reading_both g (Some c) e _ _ both_between =
        record { told = ap {B = Reply} (λ w. Ok (Word w)) (same_word ls x.words y.words like.words c (cell_taken ls g c e)); left = like }

    next_both : (b : Bool) (m : ℕ) → Both (next_run b m) (next_run b m)
    next_both true m = record { told = refl; left = like }
    next_both false m = record { told = refl; left = record { words = like.words; place = both_in_run like.words } }

    begin_both : (p q : Place) → SamePlace p q → Both (begin_event p) (begin_event q)
    begin_both _ _ both_empty = record { told = refl; left = like }
    begin_both _ _ (both_between {m}) = next_both (leb largest m) m
    begin_both _ _ (both_in_run a) = record { told = refl; left = like }

    granted_both : (a o z m e : Bool) (k n : ℕ) (σ τ : List ℕ) → Same ls σ τ → Both (grant_event a o z m e k n σ) (grant_event a o z m e k n τ)
    granted_both false o z m e k n σ τ s = record { told = refl; left = like }
    granted_both true true z m e k n σ τ s = record { told = refl; left = like }
    granted_both true false true m e k n σ τ s = record { told = refl; left = like }
    granted_both true false false true e k n σ τ s = record { told = refl; left = like }
    granted_both true false false false true k n σ τ s = record { told = refl; left = record { words = s; place = same_more n x.place y.place like.place } }
    granted_both true false false false false k n σ τ s = record { told = refl; left = record { words = s; place = same_more n x.place y.place like.place } }

    abbrev over_at : ℕ → List ℕ → ℕ → Bool
    over_at k σ n = over K ls t size (record { number = k; granted = n; from = σ }) n

    abbrev closing_at : ℕ → List ℕ → ℕ → Closing
    closing_at k σ n = the_closing K ls t size (record { number = k; granted = n; from = σ }) n

    same_over : (k : ℕ) (σ τ : List ℕ) → Same ls σ τ → (n : ℕ) → over_at k σ n ≡ over_at k τ n
    same_over k σ τ s n = over_alike K size low high ls few script n σ τ s

    same_closing : (k : ℕ) (σ τ : List ℕ) → Same ls σ τ → (n : ℕ) → SameClosing (globals_of ls).taken (closing_at k σ n) (closing_at k τ n)
    same_closing k σ τ s n =
        closes_alike K size low high ls few script n σ τ s (closing_at k σ n) (closing_at k τ n)
        (closes K (program_of ls t) size σ n) (closes K (program_of ls t) size τ n)

    grant_both : (i m : ℕ) (p q : Place) → SamePlace p q → Both (grant_in K ls t size p i m) (grant_in K ls t size q i m)
    grant_both i m _ _ both_empty = record { told = refl; left = like }
    grant_both i m _ _ both_between = record { told = refl; left = like }
    grant_both i m _ _ (both_in_run {k} {n} {σ} {τ} s) =
        let o = same_over k σ τ s n in
        let e = same_over k σ τ s (n + m) in
        let before : Event = grant_event (eqb k i) (over_at k σ n) (eqb m 0) (ltb largest (n + m)) (over_at k σ (n + m)) i m (closing_at k σ (n + m)).store in
        subst (λ (b : Bool). Both before (grant_event (eqb k i) b (eqb m 0) (ltb largest (n + m)) (over_at k τ (n + m)) i m (closing_at k τ (n + m)).store)) o
        (subst (λ (b : Bool). Both before (grant_event (eqb k i) (over_at k σ n) (eqb m 0) (ltb largest (n + m)) b i m (closing_at k τ (n + m)).store)) e
        (granted_both (eqb k i) (over_at k σ n) (eqb m 0) (ltb largest (n + m)) (over_at k σ (n + m)) i m (closing_at k σ (n + m)).store (closing_at k τ (n + m)).store
        (same_closing k σ τ s (n + m)).store))

    closed_both : (a : Bool) (c d : Closing) (k : ℕ) → SameClosing (globals_of ls).taken c d → Both (close_event a c k) (close_event a d k)
    closed_both false c d k s = record { told = refl; left = like }
    closed_both true c d k s = record {
      told = λ j. Ok (Closed (ending_of (s.ending j)) (s.count j));
      left = record { words = s.store; place = both_between };
    }

    close_both : (i : ℕ) (p q : Place) → SamePlace p q → Both (close_in K ls t size p i) (close_in K ls t size q i)
    close_both i _ _ both_empty = record { told = refl; left = like }
    close_both i _ _ both_between = record { told = refl; left = like }
    close_both i _ _ (both_in_run {k} {n} {σ} {τ} s) = closed_both (eqb k i) (closing_at k σ n) (closing_at k τ n) i (same_closing k σ τ s n)

    both : (q : Call) → Both (event_of K ls t size x q) (event_of K ls t size y q)
    both Open =
        subst (λ (r : Result (Unit {0}) (Refusal SessionCause)). Both (open_event (opening K ls x.words)) (open_event r)) (same_opening ls K x.words y.words like.words)
        (open_both (opening K ls x.words))
    both (Post g w) = post_both g w (cell_of ls g) (K.lawful w) x.place y.place like.place
    both (Reading g) = reading_both g (cell_of ls g) refl x.place y.place like.place
    both Begin = begin_both x.place y.place like.place
    both (Grant i m) = grant_both i m x.place y.place like.place
    both (Close i) = close_both i x.place y.place like.place

  -- ## All calls

  module _ (σ τ : List ℕ) (same : Same ls σ τ) where
    abbrev at_first : List ℕ → List Call → Ledger
    at_first first qs = ledger ls first (made K ls t size first qs)

    like_after : (qs : List Call) → Like (at_first σ qs) (at_first τ qs)
    like_after [] = record { words = same; place = both_empty }
    like_after (q ∷ qs) = (both (at_first σ qs) (at_first τ qs) (like_after qs) q).left

    told_after : (qs : List Call) → map reply_of (made K ls t size σ qs) ≡ map reply_of (made K ls t size τ qs)
    told_after [] = refl
    told_after (q ∷ qs) = λ j. (both (at_first σ qs) (at_first τ qs) (like_after qs) q).told j ∷ told_after qs j

    pub alike_told : (calls : List Call) (p q : List Reply) → Answered K ls t size σ calls p → Answered K ls t size τ calls q → p ≡ q
    alike_told calls p q a b =
        replied_so K ls t size σ calls p a ∙ ap reverse (told_after (reverse calls)) ∙ sym (replied_so K ls t size τ calls q b)

-- ## And readings tell the words of the globals

one_reading : (g : GlobalCell) → All IsReading (Reading g ∷ [])
one_reading g zero d h = (g, refl)
one_reading g (suc k) d h = absurd (omega (arith, h))

module _ (K : Arithmetic) (ls : List Line) (t : Statement) (size : ℕ) where
  reads : (first : List ℕ) → Opens K ls first (Ok tt) → (g : GlobalCell) (c : ℕ) → cell_of ls g ≡ Some c
      → Answered K ls t size first (Open ∷ Reading g ∷ []) (Ok Opened ∷ Ok (Word (slice_index first c)) ∷ [])
  reads first o g c e = record {
    history = read g (slice_index first c) ∷ opened ∷ [];
    talk = ((tt, open_done o), reading_done refl e refl);
    asked = refl;
    told = refl;
  }

  same_second : (r : Reply) (v w : ℕ) → ◌≡◌ {A = List Reply} (r ∷ Ok (Word v) ∷ []) (r ∷ Ok (Word w) ∷ []) → v ≡ w
  same_second r v w e = cc

  module _ (low high : ℤ) (s : IsScript low high ls) (σ τ : List ℕ) (o : Opens K ls σ (Ok tt)) (p : Opens K ls τ (Ok tt))
      (same : (calls : List Call) → All IsReading calls → (a b : List Reply) → Answered K ls t size σ (Open ∷ calls) a → Answered K ls t size τ (Open ∷ calls) b → a ≡ b) where
    word_told : (g : GlobalCell) (c : ℕ) → cell_of ls g ≡ Some c → slice_index σ c ≡ slice_index τ c
    word_told g c e =
        same_second (Ok Opened) (slice_index σ c) (slice_index τ c) (same (Reading g ∷ []) (one_reading g) _ _ (reads σ o g c e) (reads τ p g c e))

    abbrev taken : ℕ
    taken = (globals_of ls).taken

    in_front : (first : List ℕ) → (c : ℕ) → c < taken → get_or (take taken first) c 0 ≡ slice_index first c
    in_front first c h = get_or-take taken first c 0 h

    pub globals_told : global_store ls σ ≡ global_store ls τ
    globals_told =
        let m = length-take-le taken σ (has_room K ls σ o) in
        let n = length-take-le taken τ (has_room K ls τ p) in
        ext_get_or 0 (global_store ls σ) (global_store ls τ) (m ∙ sym n) (λ c h.
        let k : c < taken = omega (arith, h, m) in
        let g = named low high ls s c k in
        in_front σ c k ∙ word_told g.0 c g.1 ∙ sym (in_front τ c k))

pub two_sessions : TwoSessions
two_sessions K low high ls few s σ τ long = record {
  replies_equal = λ e. alike_told K low high ls few s (length σ) σ τ (record { front = e; long = long });
  globals_equal = λ o p same. globals_told K ls s.text (length σ) low high s σ τ o p same;
}
