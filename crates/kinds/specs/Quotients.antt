-- Quotients rounded to the nearest whole number; of two as near, to the one further from zero.
use Rattle.std.specs.Prelude.{ℕ, suc, ◌+◌, ◌/◌, ℤ, pos, negsuc, neg_ℤ}

-- of naturals: with half of the divisor added, the fraction is dropped
abbrev pub nearest : ℕ → ℕ → ℕ
nearest a b = (a + b / 2) / b

-- of integers: that of their sizes, negative where just one of the two is (`negsuc n` is -(n + 1))
abbrev pub rounded : ℤ → ℤ → ℤ
rounded (pos a) (pos b) = pos (nearest a b)
rounded (pos a) (negsuc b) = neg_ℤ (pos (nearest a (suc b)))
rounded (negsuc a) (pos b) = neg_ℤ (pos (nearest (suc a) b))
rounded (negsuc a) (negsuc b) = pos (nearest (suc a) (suc b))
