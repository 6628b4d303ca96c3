-- The first refusal that tests find.
use Rattle.std.proofs.Common.{◌≡◌, ℕ, zero, suc, ◌<◌, Bool, true, false, ◌⊎◌, ◌↔◌, List, [], ◌∷◌, Some, None, Option, sym, refl, ap, ◌∙◌, subst, ap₂, inl, inr, arith}
use Rattle.std.proofs.lemmas.Bool.{both_ways, cases_eq, cases_order}
use Rattle.script.specs.Lists.{Each}
use Rattle.script.specs.Causes.{Reason, number_of}
use Rattle.script.specs.Tests.{first_refusal, lowest, or_here, or_later}

-- a test finds no line below k; line n is the lowest that it finds
abbrev pub NoneBelow : (ℕ → Bool) → ℕ → Type 0
NoneBelow t k = (m : ℕ) → m < k → t m ≡ false

abbrev pub Lowest : (ℕ → Bool) → ℕ → ℕ → Type 0
Lowest t k n = (n < k) × (t n ≡ true) × NoneBelow t n

none_some : {A : Type 0} (o : Option A) (a : A) → o ≡ None → o ≡ Some a → ⊥
none_some o a p q = let z : ◌≡◌ {A = ℕ} 0 1 = cc in omega arith

pub the_lowest : (t : ℕ → Bool) (k : ℕ) → ((lowest t k ≡ None) × NoneBelow t k) ⊎ ((n : ℕ) × (lowest t k ≡ Some n) × Lowest t k n)
the_lowest t zero = inl (refl, λ m q. absurd (omega arith))
the_lowest t (suc k) = go (t k) refl (the_lowest t k)
  where
    go : (b : Bool) → t k ≡ b → ((lowest t k ≡ None) × NoneBelow t k) ⊎ ((n : ℕ) × (lowest t k ≡ Some n) × Lowest t k n)
        → ((or_here k b (lowest t k) ≡ None) × NoneBelow t (suc k)) ⊎ ((n : ℕ) × (or_here k b (lowest t k) ≡ Some n) × Lowest t (suc k) n)
    go b e (inr h) = inr (h.0, ap (or_here k b) h.1, (omega arith, h.2.1, h.2.2))
    go true e (inl h) = inr (k, ap (or_here k true) h.0, (omega arith, e, h.1))
    go false e (inl h) = inl (ap (or_here k false) h.0, λ m q. elim (cases_eq m k) [ inl w ↦ ap t w ∙ e | inr w ↦ h.1 m (omega arith) ])

lowest_one : (t : ℕ → Bool) (k m n : ℕ) → Lowest t k m → Lowest t k n → m ≡ n
lowest_one t k m n p q = elim (cases_order m n) [
  | inl w ↦ w
  | inr w ↦ elim w [ inl v ↦ absurd (both_ways (t m) (q.2 m v) p.1) | inr v ↦ absurd (both_ways (t n) (p.2 n v) q.1) ]
]

none_and_lowest : (t : ℕ → Bool) (k n : ℕ) → NoneBelow t k → Lowest t k n → ⊥
none_and_lowest t k n h p = both_ways (t n) (h n p.0) p.1

module _ (t : Reason → ℕ → Bool) (k : ℕ) where
  -- line n is the lowest that the test of the cause numbered c finds, and no test of a cause before it finds any
  abbrev pub RefusedBy : List Reason → ℕ → ℕ → Type 0
  RefusedBy [] c n = ⊥
  RefusedBy (r ∷ rs) c n = ((c ≡ number_of r) × Lowest (t r) k n) ⊎ (NoneBelow (t r) k × RefusedBy rs c n)

  abbrev pub AllNone : List Reason → Type 0
  AllNone rs = Each (λ r. NoneBelow (t r) k) rs

  abbrev first : List Reason → Option (ℕ × ℕ)
  first rs = first_refusal t k rs

  -- what is found first, if anything
  abbrev Found : List Reason → Type 0
  Found rs = ((first rs ≡ None) × AllNone rs) ⊎ ((c n : ℕ) × (first rs ≡ Some (c, n)) × RefusedBy rs c n)

  pub the_refusal : (rs : List Reason) → Found rs
  the_refusal [] = inl (refl, tt)
  the_refusal (r ∷ rs) = go (the_lowest (t r) k) (the_refusal rs)
    where
      go : ((lowest (t r) k ≡ None) × NoneBelow (t r) k) ⊎ ((n : ℕ) × (lowest (t r) k ≡ Some n) × Lowest (t r) k n) → Found rs → Found (r ∷ rs)
      go (inr h) w = inr (number_of r, h.0, ap (λ o. or_later (number_of r) o (first rs)) h.1, inl (refl, h.2))
      go (inl h) (inl w) = inl (ap (λ o. or_later (number_of r) o (first rs)) h.0 ∙ w.0, (h.1, w.1))
      go (inl h) (inr w) = inr (w.0, w.1, ap (λ o. or_later (number_of r) o (first rs)) h.0 ∙ w.2, inr (h.1, w.3))

  pub refused_one : (rs : List Reason) (c n d m : ℕ) → RefusedBy rs c n → RefusedBy rs d m → (c ≡ d) × (n ≡ m)
  refused_one [] c n d m p q = absurd p
  refused_one (r ∷ rs) c n d m p q = elim p [
    | inl x ↦ elim q [
      | inl y ↦ (x.0 ∙ sym y.0, lowest_one (t r) k n m x.1 y.1)
      | inr y ↦ absurd (none_and_lowest (t r) k n y.0 x.1)
    ]
    | inr x ↦ elim q [
      | inl y ↦ absurd (none_and_lowest (t r) k m x.0 y.1)
      | inr y ↦ refused_one rs c n d m x.1 y.1
    ]
  ]

  pub none_and_refused : (rs : List Reason) (c n : ℕ) → AllNone rs → RefusedBy rs c n → ⊥
  none_and_refused [] c n h p = p
  none_and_refused (r ∷ rs) c n h p = elim p [ inl x ↦ none_and_lowest (t r) k n h.0 x.1 | inr x ↦ none_and_refused rs c n h.1 x.1 ]

  pub refusal_none : (rs : List Reason) → first rs ≡ None ↔ AllNone rs
  refusal_none rs = go (the_refusal rs)
    where
      go : Found rs → first rs ≡ None ↔ AllNone rs
      go (inl h) = ((λ e. h.1), (λ a. h.0))
      go (inr h) = ((λ e. absurd (none_some (first rs) (h.0, h.1) e h.2)), (λ a. absurd (none_and_refused rs h.0 h.1 a h.3)))

  pub refusal_some : (rs : List Reason) (c n : ℕ) → first rs ≡ Some (c, n) ↔ RefusedBy rs c n
  refusal_some rs c n = go (the_refusal rs)
    where
      go : Found rs → first rs ≡ Some (c, n) ↔ RefusedBy rs c n
      go (inl h) = ((λ e. absurd (none_some (first rs) (c, n) h.0 e)), (λ a. absurd (none_and_refused rs c n h.1 a)))
      go (inr h) = (
        (λ e. let p : ◌≡◌ {A = ℕ × ℕ} (h.0, h.1) (c, n) = cc in subst (λ r. RefusedBy rs r.0 r.1) p h.3),
        (λ a. let p = refused_one rs h.0 h.1 c n h.3 a in h.2 ∙ ap₂ (λ x y. Some (x, y)) p.0 p.1),
      )
