-- The exact number that a word of Single stands for. The smallest positive number is 2 ^ -149, and every other is a
-- whole multiple of it: so numbers are counted in it, and `units w` stands for units w * 2 ^ -149.
use Rattle.std.specs.Prelude.{ℕ, zero, suc, ◌+◌, ◌*◌, ◌%◌, ◌^◌, Bool, true, false, ℤ, pos, neg_ℤ, nat_le}
use Rattle.kinds.specs.Single.{exponent}

-- the sign's bit
abbrev pub negative : ℕ → Bool
negative w = nat_le 2147483648 w

-- the fraction's 23 bits
abbrev pub fraction : ℕ → ℕ
fraction w = w % 8388608

-- by the exponent's bits: at 0 the fraction alone, and from 1 on with a one before it, doubled at each further step
abbrev pub scaled : ℕ → ℕ → ℕ
scaled zero t = t
scaled (suc x) t = (8388608 + t) * 2 ^ x

abbrev pub magnitude : ℕ → ℕ
magnitude w = scaled (exponent w) (fraction w)

abbrev pub signed : Bool → ℕ → ℤ
signed false n = pos n
signed true n = neg_ℤ (pos n)

abbrev pub units : ℕ → ℤ
units w = signed (negative w) (magnitude w)

-- how many units the whole number 1 has
abbrev pub one : ℕ
one = 2 ^ 149
