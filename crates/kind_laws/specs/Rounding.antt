-- What it is to be rounded: to the nearest number, at a tie to the even word, and out of range where the nearest
-- would be 2 ^ 128 or more. An exact result is the fraction p / d, counted in units.
use Rattle.std.specs.Prelude.{◌≡◌, ℕ, zero, suc, ◌-◌, ◌*◌, ◌%◌, ◌^◌, ◌<◌, ◌≤◌, Bool, true, false, not, ◌&&◌, T, ℤ, pos, negsuc, ◌+ℤ◌, ◌-ℤ◌, ◌*ℤ◌, Ok, Err, Result, ◌≢◌, unsigned_abs}
use Rattle.std.specs.Float.Ieee.{unlike}
use Rattle.kinds.specs.declared.fault.ArithmeticFault.{ArithmeticFault}
use Rattle.kinds.specs.declared.fault.ArithmeticFault.TheVariants.{OutOfRange, ZeroDivisor}
use Rattle.kinds.specs.Single.{single, lawful}
use Rattle.kind_laws.specs.Distance.{distance}
use Rattle.kind_laws.specs.Exact.{negative, units, one}

-- how far the number of the word w lies from p / d, |d| times over
abbrev pub error : ℤ → ℤ → ℕ → ℕ
error p d w = distance p d (units w)

-- no lawful word is nearer, and where another number is as near, the last bit of this word is 0
pub record Nearest (p d : ℤ) (r : ℕ) : Type 0 where
  pub is_lawful : T (lawful r)
  pub nearest : (w : ℕ) → T (lawful w) → error p d r ≤ error p d w
  pub even : (w : ℕ) → T (lawful w) → error p d w ≡ error p d r → (units w ≢ units r) → r % 2 ≡ 0

-- Halfway from the largest number, 2 ^ 128 - 2 ^ 104, to 2 ^ 128, which would be even: 2 ^ 128 - 2 ^ 103, in units.
abbrev pub limit : ℕ
limit = 2 ^ 277 - 2 ^ 252

-- p / d is rounded to r, whose sign is s, which matters where r is a zero
abbrev pub Rounds : ℤ → ℤ → Bool → Result ℕ ArithmeticFault → Type 0
Rounds p d s (Ok r) = (unsigned_abs p < limit * unsigned_abs d) × Nearest p d r × (negative r ≡ s)
Rounds p d s (Err OutOfRange) = limit * unsigned_abs d ≤ unsigned_abs p
Rounds p d s (Err ZeroDivisor) = ⊥

-- the sign of a sum: its own, and where it is zero, minus only if both parts have it
abbrev pub sum_sign : ℤ → Bool → Bool → Bool
sum_sign (pos zero) s t = s && t
sum_sign (pos (suc n)) s t = false
sum_sign (negsuc n) s t = true

abbrev pub Sum : ℕ → ℕ → Result ℕ ArithmeticFault → Type 0
Sum a b r = Rounds (units a +ℤ units b) (pos 1) (sum_sign (units a +ℤ units b) (negative a) (negative b)) r

abbrev pub Difference : ℕ → ℕ → Result ℕ ArithmeticFault → Type 0
Difference a b r = Rounds (units a -ℤ units b) (pos 1) (sum_sign (units a -ℤ units b) (negative a) (not (negative b))) r

abbrev pub Product : ℕ → ℕ → Result ℕ ArithmeticFault → Type 0
Product a b r = Rounds (units a *ℤ units b) (pos one) (unlike (negative a) (negative b)) r

abbrev pub Quotient : ℕ → ℕ → Result ℕ ArithmeticFault → Type 0
Quotient a b r = (units b ≡ pos 0 → r ≡ Err ZeroDivisor)
    × ((units b ≢ pos 0) → Rounds (units a *ℤ pos one) (units b) (unlike (negative a) (negative b)) r)

-- each operation of Single is the rounding of the exact result
abbrev pub SumsRound : Type 0
SumsRound = (a b : ℕ) → T (lawful a) → T (lawful b) → Sum a b (single.sum a b)

abbrev pub DifferencesRound : Type 0
DifferencesRound = (a b : ℕ) → T (lawful a) → T (lawful b) → Difference a b (single.difference a b)

abbrev pub ProductsRound : Type 0
ProductsRound = (a b : ℕ) → T (lawful a) → T (lawful b) → Product a b (single.product a b)

abbrev pub QuotientsRound : Type 0
QuotientsRound = (a b : ℕ) → T (lawful a) → T (lawful b) → Quotient a b (single.quotient a b)
