-- The copy rule's own count: a run that is not stopped stays as it is with more allowance.
use Rattle.std.proofs.Common.{◌≡◌, ℕ, zero, suc, ◌+◌, ◌-◌, ◌<◌, ◌≤◌, Bool, true, false, not, List, [], ◌∷◌, ◌++◌, sym, refl, ap, ◌∙◌, subst, le_refl, suc-add, arith}
use native.Mathlib.Decide.{dec_lt}
use Rattle.kinds.specs.Arithmetic.{Arithmetic}
use Rattle.rule.specs.Work.{Work}
use Rattle.rule.specs.Rewriting.{Pending, Situation, Begun, goes, fails, begins, Ending, finished, stopped, fault, Halt, rewrite}
use Rattle.rule.specs.CopyRule.{Outcome, through, halts}
use Rattle.rule.specs.Laws.{halt_of}
use Rattle.rule.specs.Closing.{Program, Closing, own_fetch, start, situation, closing_of, Closes, Stopped, OwnCount, IsOver}
use Rattle.rule.specs.Count.{Counted, Stays}
use Rattle.rule.proofs.Agree.{agrees, halts_so}

module _ (K : Arithmetic) (size : ℕ) (fetch : List ℕ → ℕ → Work ℕ) where
  abbrev on : ℕ → List Pending → Situation → Begun → Halt
  on n ps s (goes qs s') = rewrite K size fetch n (qs ++ ps) s'
  on n ps s (fails f l) = record { ending = fault f l; left = n; store = s.store }

  stepped : (n : ℕ) (p : Pending) (ps : List Pending) (s : Situation) → rewrite K size fetch (suc n) (p ∷ ps) s ≡ on n ps s (begins K size fetch p s)
  stepped n p ps s = go (begins K size fetch p s)
    where
      go : (b : Begun) → elim b [ goes qs s' ↦ rewrite K size fetch n (qs ++ ps) s' | fails f l ↦ record { ending = fault f l; left = n; store = s.store } ] ≡ on n ps s b
      go (goes qs s') = refl
      go (fails f l) = refl

  -- what more allowance makes of a run that is not stopped
  abbrev later : ℕ → Halt → Halt
  later m h = record { ending = h.ending; left = h.left + m; store = h.store }

  nothing_left : (n : ℕ) (s : Situation) → rewrite K size fetch n [] s ≡ record { ending = finished; left = n; store = s.store }
  nothing_left zero s = refl
  nothing_left (suc n) s = refl

  pub goes_on : (n m : ℕ) (ps : List Pending) (s : Situation) → ¬ ((rewrite K size fetch n ps s).ending ≡ stopped)
      → rewrite K size fetch (n + m) ps s ≡ later m (rewrite K size fetch n ps s)
  goes_on zero m [] s h = nothing_left (0 + m) s
  goes_on zero m (p ∷ ps) s h = absurd (h refl)
  goes_on (suc n) m [] s h = nothing_left (suc n + m) s
  goes_on (suc n) m (p ∷ ps) s h =
      ap (λ (k : ℕ). rewrite K size fetch k (p ∷ ps) s) (suc-add n m) ∙ stepped (n + m) p ps s
      ∙ go (begins K size fetch p s) (λ qs s'. goes_on n m (qs ++ ps) s') (λ e. h (ap (λ (x : Halt). x.ending) (stepped n p ps s) ∙ e))
      ∙ sym (ap (later m) (stepped n p ps s))
    where
      go : (b : Begun) → ((qs : List Pending) (s' : Situation) → ¬ ((rewrite K size fetch n (qs ++ ps) s').ending ≡ stopped)
          → rewrite K size fetch (n + m) (qs ++ ps) s' ≡ later m (rewrite K size fetch n (qs ++ ps) s'))
          → ¬ ((on n ps s b).ending ≡ stopped) → on (n + m) ps s b ≡ later m (on n ps s b)
      go (goes qs s') ih k = ih qs s' k
      go (fails f l) ih k = refl

abbrev pub is_stopped : Ending → Bool
is_stopped finished = false
is_stopped stopped = true
is_stopped (fault f l) = false

abbrev Truth : Bool → Type 0
Truth true = Unit {0}
Truth false = ⊥

pub stopped_is : (e : Ending) → is_stopped e ≡ true → e ≡ stopped
stopped_is finished h = absurd (subst Truth (sym h) tt)
stopped_is stopped h = refl
stopped_is (fault f l) h = absurd (subst Truth (sym h) tt)

pub stopped_not : (e : Ending) → is_stopped e ≡ false → ¬ (e ≡ stopped)
stopped_not e h k = subst Truth (sym (ap is_stopped k) ∙ h) tt

pub true_not_false : {A : Type 0} {b : Bool} → b ≡ true → b ≡ false → A
true_not_false p q = absurd (subst Truth (sym p ∙ q) tt)

abbrev pub closing_from : ℕ → Halt → Closing
closing_from n h = record { ending = h.ending; count = n - h.left; store = h.store }

of_outcome : (n : ℕ) (o : Outcome) → closing_of n o ≡ closing_from n (halt_of o)
of_outcome n (through m s) = refl
of_outcome n (halts e m σ) = refl

module _ (K : Arithmetic) (P : Program) (size : ℕ) (σ : List ℕ) where
  abbrev pub halt_at : ℕ → Halt
  halt_at n = rewrite K size own_fetch n (start P) (situation K P size σ)

  -- the one closing
  abbrev pub closing : ℕ → Closing
  closing n = closing_from n (halt_at n)

  pub closes : (n : ℕ) → Closes K P size σ n (closing n)
  closes n =
      let a = agrees K size own_fetch (start P) n (situation K P size σ) in
      (a.0, a.1, of_outcome n a.0 ∙ ap (closing_from n) (sym a.3))

  -- a closing that the rewriting computes
  pub closes_by : (n : ℕ) (c : Closing) → closing n ≡ c → Closes K P size σ n c
  closes_by n c e = subst (Closes K P size σ n) e (closes n)

  pub closes_so : (n : ℕ) (c : Closing) → Closes K P size σ n c → c ≡ closing n
  closes_so n c d =
      sym d.2 ∙ of_outcome n d.0 ∙ ap (closing_from n) (halts_so K size own_fetch (start P) n (situation K P size σ) d.0 d.1)

  pub stopped_at : (n : ℕ) → (halt_at n).ending ≡ stopped → Stopped K P size σ n
  stopped_at n e = (closing n, closes n, e)

  pub at_stopped : (n : ℕ) → Stopped K P size σ n → (halt_at n).ending ≡ stopped
  at_stopped n s = ap (λ (c : Closing). c.ending) (sym (closes_so n s.0 s.1)) ∙ s.2

  abbrev Over : ℕ → Type 0
  Over n = ¬ ((halt_at n).ending ≡ stopped)

  pub over_later : (n m : ℕ) → n ≤ m → Over n → Over m
  over_later n m h o e =
      let k : n + (m - n) ≡ m = omega arith in
      o (ap (λ (x : Halt). x.ending) (sym (goes_on K size own_fetch n (m - n) (start P) (situation K P size σ) o))
      ∙ ap (λ (j : ℕ). (halt_at j).ending) k ∙ e)

  decided : (n : ℕ) → Dec ((halt_at n).ending ≡ stopped)
  decided n = go (halt_at n).ending
    where
      go : (e : Ending) → Dec (e ≡ stopped)
      go finished = no (stopped_not finished refl)
      go stopped = yes refl
      go (fault f l) = no (stopped_not (fault f l) refl)

  pub least : (n : ℕ) → Over n → IsOver K P size σ n
  least zero o = (0, ((λ s. o (at_stopped 0 s)), λ k h. absurd (omega arith)), le_refl 0)
  least (suc n) o = go (decided n) (least n)
    where
      go : Dec ((halt_at n).ending ≡ stopped) → (Over n → IsOver K P size σ n) → IsOver K P size σ (suc n)
      go (yes e) ih = (suc n, ((λ s. o (at_stopped (suc n) s)), λ k h. still k h (decided k)), le_refl (suc n))
        where
          still : (k : ℕ) → k < suc n → Dec ((halt_at k).ending ≡ stopped) → Stopped K P size σ k
          still k h (yes d) = stopped_at k d
          still k h (no d) = absurd (over_later k n (omega arith) d e)
      go (no e) ih = let i = ih e in (i.0, i.1, omega (arith, i.2))

  pub over_so : (n : ℕ) → IsOver K P size σ n → Over n
  over_so n i = over_later i.0 n i.2 (λ e. i.1.0 (stopped_at i.0 e))

  unique : (m n : ℕ) → OwnCount K P size σ m → OwnCount K P size σ n → m ≡ n
  unique m n a b = go (dec_lt m n) (dec_lt n m)
    where
      go : Dec (m < n) → Dec (n < m) → m ≡ n
      go (yes p) q = absurd (a.0 (b.1 m p))
      go (no p) (yes q) = absurd (b.0 (a.1 n q))
      go (no p) (no q) = omega arith

  pub is_decided : (n : ℕ) → Dec (Stopped K P size σ n)
  is_decided n = go (decided n)
    where
      go : Dec ((halt_at n).ending ≡ stopped) → Dec (Stopped K P size σ n)
      go (yes e) = yes (stopped_at n e)
      go (no e) = no (λ s. e (at_stopped n s))

  -- the test for a run that is over
  abbrev pub is_over : ℕ → Bool
  is_over n = not (is_stopped (halt_at n).ending)

  pub over_true : (n : ℕ) → IsOver K P size σ n → is_over n ≡ true
  over_true n i = go (halt_at n).ending (over_so n i)
    where
      go : (e : Ending) → ¬ (e ≡ stopped) → not (is_stopped e) ≡ true
      go finished h = refl
      go stopped h = absurd (h refl)
      go (fault f l) h = refl

  pub true_over : (n : ℕ) → is_over n ≡ true → IsOver K P size σ n
  true_over n h = least n (λ e. true_not_false h (ap (λ (x : Ending). not (is_stopped x)) e))

  pub over_false : (n : ℕ) → ¬ (IsOver K P size σ n) → is_over n ≡ false
  over_false n i = go (is_over n) refl
    where
      go : (b : Bool) → is_over n ≡ b → b ≡ false
      go true e = absurd (i (true_over n e))
      go false e = refl

  pub false_over : (n : ℕ) → is_over n ≡ false → ¬ (IsOver K P size σ n)
  false_over n h i = true_not_false (over_true n i) h

pub counted : Counted
counted K P size σ = (
  (λ n. ((λ i s. over_so K P size σ n i (at_stopped K P size σ n s)), (λ h. least K P size σ n (λ e. h (stopped_at K P size σ n e))), is_decided K P size σ n)),
  unique K P size σ,
)

pub stays : Stays
stays K P size σ n m c d h =
    let e = closes_so K P size σ n c d in
    let k : rewrite K size own_fetch (n + m) (start P) (situation K P size σ) ≡ later K size own_fetch m (rewrite K size own_fetch n (start P) (situation K P size σ)) =
    goes_on K size own_fetch n m (start P) (situation K P size σ) (λ q. h (ap (λ (x : Closing). x.ending) e ∙ q)) in
    let l = (rewrite K size own_fetch n (start P) (situation K P size σ)).left in
    let q : n + m - (l + m) ≡ n - l = omega arith in
    closes_by K P size σ (n + m) c (ap (closing_from (n + m)) k ∙ (ap (λ (i : ℕ). record { ending = (closing K P size σ n).ending; count = i; store = (closing K P size σ n).store }) q ∙ sym e))
