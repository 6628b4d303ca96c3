-- Sums over lines and over lists of lines.
use Rattle.std.proofs.Common.{◌≡◌, ℕ, zero, suc, ◌+◌, ◌*◌, ◌<◌, ◌≤◌, Bool, true, false, eqb, List, [], ◌∷◌, ◌++◌, sym, refl, ap, ◌∙◌, ap₂, inl, inr, add-mul, arith}
use Rattle.std.proofs.lemmas.Bool.{cases_eq, eq-eqb, ne_eqb}
use Rattle.script.specs.Lists.{Each, one, times}
use Rattle.script.proofs.Lists.{one_false, one_true}

abbrev pub sum_to : (ℕ → ℕ) → ℕ → ℕ
sum_to f zero = 0
sum_to f (suc k) = sum_to f k + f k

abbrev pub total : (ℕ → ℕ) → List ℕ → ℕ
total f [] = 0
total f (m ∷ ms) = f m + total f ms

pub total_append : (f : ℕ → ℕ) (us vs : List ℕ) → total f (us ++ vs) ≡ total f us + total f vs
total_append f [] vs = omega arith
total_append f (u ∷ us) vs = omega (arith, total_append f us vs)

pub total_each : (f g : ℕ → ℕ) (ms : List ℕ) → Each (λ m. f m ≡ g m) ms → total f ms ≡ total g ms
total_each f g [] e = refl
total_each f g (m ∷ ms) e = omega (arith, e.0, total_each f g ms e.1)

pub sum_le : (f g : ℕ → ℕ) (k : ℕ) → ((j : ℕ) → j < k → f j ≤ g j) → sum_to f k ≤ sum_to g k
sum_le f g zero h = omega arith
sum_le f g (suc k) h = omega (arith, h k (omega arith), sum_le f g k (λ j q. h j (omega arith)))

pub sum_add : (f g : ℕ → ℕ) (k : ℕ) → sum_to (λ j. f j + g j) k ≡ sum_to f k + sum_to g k
sum_add f g zero = refl
sum_add f g (suc k) = omega (arith, sum_add f g k)

sum_nothing : (f : ℕ → ℕ) (k : ℕ) → ((j : ℕ) → j < k → f j ≡ 0) → sum_to f k ≡ 0
sum_nothing f zero h = refl
sum_nothing f (suc k) h = omega (arith, h k (omega arith), sum_nothing f k (λ j q. h j (omega arith)))

-- a sum over one line alone
sum_alone : (f : ℕ → ℕ) (m k : ℕ) → m < k → ((j : ℕ) → (j ≡ m → ⊥) → f j ≡ 0) → sum_to f k ≡ f m
sum_alone f m zero q h = absurd (omega arith)
sum_alone f m (suc k) q h = elim (cases_eq m k) [
  | inl e ↦ omega (arith, sum_nothing f k (λ j r. h j (λ w. omega arith)), ap f e)
  | inr e ↦ omega (arith, sum_alone f m k (omega arith) h, h k (λ w. e (sym w)))
]

pub sum_here : (l k : ℕ) → l < k → sum_to (λ j. one (eqb j l)) k ≡ 1
sum_here l k q = sum_alone (λ j. one (eqb j l)) l k q (λ j r. one_false (eqb j l) (ne_eqb j l r)) ∙ one_true (eqb l l) (eq-eqb l l refl)

times_no : (b : Bool) (x : ℕ) → b ≡ false → one b * x ≡ 0
times_no b x e = ap (λ c. one c * x) e ∙ omega arith

times_yes : (b : Bool) (x : ℕ) → b ≡ true → one b * x ≡ x
times_yes b x e = ap (λ c. one c * x) e ∙ omega arith

pub sum_pick : (f : ℕ → ℕ) (m k : ℕ) → m < k → sum_to (λ j. one (eqb m j) * f j) k ≡ f m
sum_pick f m k q = sum_alone (λ j. one (eqb m j) * f j) m k q (λ j r. times_no (eqb m j) (f j) (ne_eqb m j (λ w. r (sym w)))) ∙ times_yes (eqb m m) (f m) (eq-eqb m m refl)

sum_same : (f g : ℕ → ℕ) (k : ℕ) → ((j : ℕ) → f j ≡ g j) → sum_to f k ≡ sum_to g k
sum_same f g zero h = refl
sum_same f g (suc k) h = omega (arith, sum_same f g k h, h k)

-- a sum over a list, by how often each line stands in it
pub total_by_times : (f : ℕ → ℕ) (k : ℕ) (ms : List ℕ) → Each (λ m. m < k) ms → total f ms ≡ sum_to (λ j. times j ms * f j) k
total_by_times f k [] e = sym (sum_nothing (λ j. 0 * f j) k (λ j q. omega arith))
total_by_times f k (m ∷ ms) e =
    ap₂ (λ x y. x + y) (sym (sum_pick f m k e.0)) (total_by_times f k ms e.1)
    ∙ sym (sum_add (λ j. one (eqb m j) * f j) (λ j. times j ms * f j) k)
    ∙ sum_same (λ j. one (eqb m j) * f j + times j ms * f j) (λ j. (one (eqb m j) + times j ms) * f j) k (λ j. sym (add-mul (one (eqb m j)) (times j ms) (f j)))
