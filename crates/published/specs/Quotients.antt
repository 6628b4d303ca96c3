-- Quotients of whole numbers, worked.
use Rattle.std.specs.Prelude.{◌≡◌, ℤ, pos, neg_ℤ, Ok, Err}
use Rattle.kinds.specs.declared.fault.ArithmeticFault.TheVariants.{ZeroDivisor}
use Rattle.kinds.specs.Whole.{whole, word}

-- a / b is q
abbrev pub Over : ℤ → ℤ → ℤ → Type 0
Over a b q = whole.quotient (word a) (word b) ≡ Ok (word q)

pub record QuotientsTold : Type 0 where
  -- the nearest
  pub third : Over (pos 1) (pos 3) (pos 0)
  pub two_thirds : Over (pos 2) (pos 3) (pos 1)
  pub seven_thirds : Over (pos 7) (pos 3) (pos 2)
  -- of two as near, the one further from zero
  pub half : Over (pos 1) (pos 2) (pos 1)
  pub minus_half : Over (neg_ℤ (pos 1)) (pos 2) (neg_ℤ (pos 1))
  pub half_by_minus : Over (pos 1) (neg_ℤ (pos 2)) (neg_ℤ (pos 1))
  pub half_of_both : Over (neg_ℤ (pos 1)) (neg_ℤ (pos 2)) (pos 1)
  -- zero divisors
  pub by_zero : whole.quotient (word (pos 5)) (word (pos 0)) ≡ Err ZeroDivisor
  pub zero_by_zero : whole.quotient (word (pos 0)) (word (pos 0)) ≡ Err ZeroDivisor
