-- What a search over the numbers of lines finds.
use Rattle.std.proofs.Common.{◌≡◌, ℕ, zero, suc, ◌+◌, ◌<◌, ◌≤◌, Bool, true, false, ◌||◌, Some, None, Option, MatchOption, sym, refl, ap, ◌∙◌, ap₂, subst, inl, inr, arith}
use Rattle.std.specs.declared.ops.Range.{Range}
use Rattle.std.specs.List.{list_any, range_with_len}
use Rattle.std.proofs.lemmas.Bool.{cases_eq}
use Rattle.script.proofs.Passes.{or_swap}
use Rattle.script.specs.Tests.{any_below, lowest, or_here}

lowest_none : (t : ℕ → Bool) (k : ℕ) → ((j : ℕ) → 0 ≤ j → j < k → t j ≡ false) → lowest t k ≡ None
lowest_none t zero h = refl
lowest_none t (suc k) h = ap₂ (or_here k) (h k (omega arith) (omega arith)) (lowest_none t k (λ j p q. h j p (omega arith)))

lowest_at : (t : ℕ → Bool) (i k : ℕ) → i < k → t i ≡ true → lowest t i ≡ None → lowest t k ≡ Some i
lowest_at t i zero q e n = absurd (omega arith)
lowest_at t i (suc k) q e n = elim (cases_eq i k) [
  | inl w ↦ ap (λ j. or_here j (t j) (lowest t j)) (sym w) ∙ ap₂ (or_here i) e n
  | inr w ↦ ap (or_here k (t k)) (lowest_at t i k (omega arith) e n)
]

-- r is the first number from a on and below k at which t is true, if there is one
abbrev Finds : (ℕ → Bool) → ℕ → ℕ → Option ℕ → Type 0
Finds t a k r = MatchOption r ((j : ℕ) → a ≤ j → j < k → t j ≡ false) (λ i. (a ≤ i) × (i < k) × (t i ≡ true) × ((j : ℕ) → a ≤ j → j < i → t j ≡ false))

lowest_of : (t : ℕ → Bool) (k : ℕ) (r : Option ℕ) → Finds t 0 k r → r ≡ lowest t k
lowest_of t k None h = sym (lowest_none t k h)
lowest_of t k (Some i) h = sym (lowest_at t i k h.1 h.2 (lowest_none t i h.3))

-- what `find` gives over the numbers below k
pub lowest_by : (t : ℕ → Bool) (s : Range ℕ) (k : ℕ) (r : Option ℕ) → s ≡ record { start = 0; end = k } → Finds t s.start s.end r → r ≡ lowest t k
lowest_by t s k r e h = lowest_of t k r (subst (λ v. Finds t v.start v.end r) e h)

any_first : (t : ℕ → Bool) (a n : ℕ) → (t a || any_below (λ j. t (a + 1 + j)) n) ≡ any_below (λ j. t (a + j)) (suc n)
any_first t a zero = let e : a + 0 ≡ a = omega arith in rw e refl
any_first t a (suc n) =
    let e : a + 1 + n ≡ a + suc n = omega arith in
    or_swap (t a) (t (a + 1 + n)) (any_below (λ j. t (a + 1 + j)) n) ∙ ap₂ ◌||◌ (ap t e) (any_first t a n)

any_from : (t : ℕ → Bool) (a n : ℕ) → list_any t (range_with_len a n) ≡ any_below (λ j. t (a + j)) n
any_from t a zero = refl
any_from t a (suc n) = ap (λ b. t a || b) (any_from t (a + 1) n) ∙ any_first t a n

any_same : (t u : ℕ → Bool) (n : ℕ) → ((j : ℕ) → t j ≡ u j) → any_below t n ≡ any_below u n
any_same t u zero h = refl
any_same t u (suc n) h = ap₂ ◌||◌ (h n) (any_same t u n h)

-- what `any` gives over the numbers below n
pub any_upto : (t : ℕ → Bool) (n : ℕ) → list_any t (range_with_len 0 n) ≡ any_below t n
any_upto t n = any_from t 0 n ∙ any_same (λ j. t (0 + j)) t n (λ j. ap t (omega arith))
