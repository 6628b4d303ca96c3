-- Whole's quotient is the nearest whole number.
use Rattle.std.proofs.Common.{◌≡◌, ℕ, zero, suc, ◌+◌, ◌*◌, ◌/◌, ◌%◌, ◌<◌, ◌≤◌, Bool, true, false, cond, eqb, ℤ, pos, negsuc, nat_abs, Err, Result, sym, refl, ap, ◌∙◌, subst, subst₂, ⊎_elim, le_trans, mul-le-mul_right, suc-mul, mod-lt, div-add-mod', arith}
use lib.Ieee.{unlike}
use Rattle.std.proofs.lemmas.Int.{ints}
use Rattle.std.proofs.lemmas.Bool.{eq-eqb, ne_eqb, cond-true, cond-false, cases_lt}
use Rattle.std.proofs.lemmas.Bool.Decides.{nat_tests}
use Rattle.kinds.specs.declared.fault.ArithmeticFault.{ArithmeticFault}
use Rattle.kinds.specs.declared.fault.ArithmeticFault.TheVariants.{ZeroDivisor}
use Rattle.kinds.specs.Quotients.{nearest, rounded}
use Rattle.kinds.specs.Whole.{value, fitting}
use Rattle.kind_laws.specs.Dividing.{IsNearest, RoundedTo, QuotientsAreNearest}
use Rattle.kind_laws.specs.Distance.{distance}
use Rattle.kind_laws.specs.Exact.{signed}
use Rattle.kind_laws.proofs.Fittings.{fitting_gives}
use Rattle.kind_laws.proofs.Nearest.{apart}
use Rattle.kind_laws.proofs.Signs.{size_of, unlike_twice, same_error, any_error}

-- of the multiples of d: m * d is no nearer to n than k * d, and none after k * d is as near
abbrev Near : ℕ → ℕ → ℕ → ℕ → Type 0
Near n d k m = (apart (k * d) n ≤ apart (m * d) n) × (apart (m * d) n ≤ apart (k * d) n → m ≤ k)

-- so it is with h the half of d, where k * d and a rest r below d are n + h
module _ (n d h k r : ℕ) (low : h + h ≤ d) (high : d ≤ h + h + 1) (split : k * d + r ≡ n + h) (rest : r < d) where
  before : (m : ℕ) → m < k → Near n d k m
  before m l = let s : suc m * d ≤ k * d = mul-le-mul_right d l in let t : suc m * d ≡ m * d + d = suc-mul m d in
      let x = k * d in let y = m * d in (omega arith, λ e. omega arith)

  after : (m : ℕ) → k < m → Near n d k m
  after m l = let s : suc k * d ≤ m * d = mul-le-mul_right d l in let t : suc k * d ≡ k * d + d = suc-mul k d in
      let x = k * d in let y = m * d in (omega arith, λ e. omega arith)

  itself : Near n d k k
  itself = let x = k * d in (omega arith, λ e. omega arith)

  multiple_nearest : (m : ℕ) → Near n d k m
  multiple_nearest m = ⊎_elim (before m)
      (λ l. ⊎_elim (after m) (λ g. subst (Near n d k) (let e : k ≡ m = omega arith in e) itself) (cases_lt k m)) (cases_lt m k)

half_up : (n d : ℕ) → 0 < d → (m : ℕ) → Near n d (nearest n d) m
half_up n d D m = let e = div-add-mod' d 2 in let l : d % 2 < 2 = mod-lt d (omega arith) in
    multiple_nearest n d (d / 2) (nearest n d) ((n + d / 2) % d) (omega arith) (omega arith) (div-add-mod' (n + d / 2) d) (mod-lt (n + d / 2) D) m

-- by the signs s of what is divided and t of the divisor, and their sizes
module _ (s t : Bool) (n d : ℕ) (D : 0 < d) where
  abbrev q : ℤ
  q = signed (unlike s t) (nearest n d)

  abbrev from : ℤ → ℕ
  from p = distance (signed s n) (signed t d) p

  mine : from q ≡ apart (nearest n d * d) n
  mine = same_error (unlike s t) t s (nearest n d) n d (unlike_twice s t)

  no_nearer : (u : Bool) (m : ℕ) → from q ≤ from (signed u m)
  no_nearer u m = subst (λ x. x ≤ from (signed u m)) (sym mine) (le_trans (half_up n d D m).0 (any_error u t s m n d))

  no_further : (u : Bool) (m : ℕ) → from (signed u m) ≡ from q → nat_abs (signed u m) ≤ nat_abs q
  no_further u m e = subst₂ (λ x y. x ≤ y) (sym (size_of u m)) (sym (size_of (unlike s t) (nearest n d)))
      ((half_up n d D m).1 (subst (λ x. apart (m * d) n ≤ x) (e ∙ mine) (any_error u t s m n d)))

  is_nearest : IsNearest (signed s n) (signed t d) q
  is_nearest = record { no_nearer = by_no_nearer; no_further = by_no_further }
    where
      by_no_nearer : (p : ℤ) → from q ≤ from p
      by_no_nearer (pos m) = no_nearer false m
      by_no_nearer (negsuc m) = no_nearer true (suc m)

      by_no_further : (p : ℤ) → from p ≡ from q → nat_abs p ≤ nat_abs q
      by_no_further (pos m) = no_further false m
      by_no_further (negsuc m) = no_further true (suc m)

rounded_nearest : (a b : ℤ) → (b ≡ pos 0 → ⊥) → IsNearest a b (rounded a b)
rounded_nearest (pos a) (pos zero) h = absurd (h refl)
rounded_nearest (negsuc a) (pos zero) h = absurd (h refl)
rounded_nearest (pos a) (pos (suc b)) h = is_nearest false false a (suc b) (omega arith)
rounded_nearest (pos a) (negsuc b) h = is_nearest false true a (suc b) (omega arith)
rounded_nearest (negsuc a) (pos (suc b)) h = is_nearest true false (suc a) (suc b) (omega arith)
rounded_nearest (negsuc a) (negsuc b) h = is_nearest true true (suc a) (suc b) (omega arith)

rounded_to : (a b : ℤ) → (b ≡ pos 0 → ⊥) → RoundedTo a b (fitting (rounded a b))
rounded_to a b h = record { number = rounded a b; is_nearest = rounded_nearest a b h; gives = fitting_gives (rounded a b) }

value_zero : (b : ℕ) → b < 4294967296 → value b ≡ pos 0 → b ≡ 0
value_zero b l e = grind (arith, ints, nat_tests)

module _ (a b : ℕ) (l : b < 4294967296) where
  abbrev r : Result ℕ ArithmeticFault
  r = fitting (rounded (value a) (value b))

  at_zero : value b ≡ pos 0 → cond (eqb b 0) (Err ZeroDivisor) r ≡ Err ZeroDivisor
  at_zero e = cond-true (eqb b 0) (Err ZeroDivisor) r (eq-eqb b 0 (value_zero b l e))

  elsewhere : (value b ≡ pos 0 → ⊥) → cond (eqb b 0) (Err ZeroDivisor) r ≡ r
  elsewhere n = cond-false (eqb b 0) (Err ZeroDivisor) r (ne_eqb b 0 (λ e. n (ap value e)))

pub quotients : QuotientsAreNearest
quotients a b l = record {
  zero_divisor = at_zero a b l;
  otherwise = λ n. subst (RoundedTo (value a) (value b)) (sym (elsewhere a b l n)) (rounded_to (value a) (value b) n);
}
