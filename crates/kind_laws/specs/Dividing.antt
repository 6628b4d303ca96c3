-- Quotients of whole numbers, rounded to the nearest.
use Rattle.std.specs.Prelude.{◌≡◌, ◌≢◌, ℕ, ◌<◌, ◌≤◌, ℤ, pos, Err, Result, unsigned_abs}
use Rattle.kinds.specs.declared.fault.ArithmeticFault.{ArithmeticFault}
use Rattle.kinds.specs.declared.fault.ArithmeticFault.TheVariants.{ZeroDivisor}
use Rattle.kinds.specs.Whole.{whole, value}
use Rattle.kind_laws.specs.Distance.{distance}
use Rattle.kind_laws.specs.Fitting.{Gives}

-- no whole number is nearer to a / b than q, and none that is as near is further from zero
pub record IsNearest (a b q : ℤ) : Type 0 where
  pub no_nearer : (p : ℤ) → distance a b q ≤ distance a b p
  pub no_further : (p : ℤ) → distance a b p ≡ distance a b q → unsigned_abs p ≤ unsigned_abs q

-- a / b, rounded: the word of that q where it fits, and out of range exactly where it does not
pub record RoundedTo (a b : ℤ) (r : Result ℕ ArithmeticFault) : Type 0 where
  pub number : ℤ
  pub is_nearest : IsNearest a b number
  pub gives : Gives number r

-- a zero divisor has a fault of its own, whatever is divided; otherwise the quotient is rounded
pub record Divided (a b : ℤ) (r : Result ℕ ArithmeticFault) : Type 0 where
  pub zero_divisor : b ≡ pos 0 → r ≡ Err ZeroDivisor
  pub otherwise : (b ≢ pos 0) → RoundedTo a b r

-- Whole divides so
abbrev pub QuotientsAreNearest : Type 0
QuotientsAreNearest = (a b : ℕ) → b < 4294967296 → Divided (value a) (value b) (whole.quotient a b)
