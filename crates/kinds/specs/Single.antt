-- The finite numbers of IEEE 754's binary32, by their bits: a sign, eight bits of exponent, 23 of fraction.
-- `lib.Ieee` is the language's own account of these numbers: `add` and its like work a result out exactly and round it once.
use Rattle.std.specs.Prelude.{ℕ, ◌*◌, ◌/◌, ◌%◌, Bool, cond, not, ◌&&◌, ◌||◌, ℤ, pos, negsuc, Some, None, Ok, Err, Option, Result, ◌==◌, from_bits, nat_lt, to_bits, Float}
use Rattle.std.specs.Float.Ieee.{up, down, of_int, add, sub, mul, div, eq, lt}
use Rattle.std.specs.Float.{float_is_finite, nan, inf, fin, binary32}
use Rattle.kinds.specs.declared.fault.ArithmeticFault.{ArithmeticFault}
use Rattle.kinds.specs.declared.fault.ArithmeticFault.TheVariants.{OutOfRange, ZeroDivisor}
use Rattle.kinds.specs.Arithmetic.{Arithmetic}

-- the exponent's bits, 0 to 255
abbrev pub exponent : ℕ → ℕ
exponent w = w % 2147483648 / 8388608

-- not all of the exponent's bits are ones
abbrev pub lawful : ℕ → Bool
lawful w = nat_lt w 4294967296 && not (exponent w == 255)

-- -16777216: `negsuc n` is -(n + 1)
abbrev pub least : ℤ
least = negsuc 16777215

abbrev pub most : ℤ
most = pos 16777216

-- the number that a word stands for
abbrev pub number : ℕ → Float
number w = from_bits binary32 w

-- the word of a finite number; any other result is out of range
abbrev pub finite_word : Float → Result ℕ ArithmeticFault
finite_word x = cond (float_is_finite x) (Ok (to_bits binary32 x)) (Err OutOfRange)

-- zero and minus zero are both zero divisors
abbrev pub quotient : ℕ → ℕ → Result ℕ ArithmeticFault
quotient a b = cond (eq (number b) (number 0)) (Err ZeroDivisor) (finite_word (div binary32 (number a) (number b)))

abbrev pub equal : ℕ → ℕ → Bool
equal a b = eq (number a) (number b)

abbrev pub constant : ℤ → ℕ
constant z = to_bits binary32 (of_int binary32 z)

-- A finite number is m * 2 ^ e = m * up e / down e, negative where s is true. It is an index if it is whole, not
-- negative unless zero, and below 16777216.
unfoldable pub whole : Float → Option ℕ
whole nan = None
whole (inf s) = None
whole (fin s m e) =
    cond (m * up e % down e == 0 && (not s || m == 0) && nat_lt (m * up e / down e) 16777216) (Some (m * up e / down e)) None

abbrev pub index : ℕ → Option ℕ
index w = whole (number w)

abbrev pub single : Arithmetic
single = record {
  lawful = lawful;
  zero = 0;
  least = least;
  most = most;
  constant = constant;
  sum = λ a b. finite_word (add binary32 (number a) (number b));
  difference = λ a b. finite_word (sub binary32 (number a) (number b));
  product = λ a b. finite_word (mul binary32 (number a) (number b));
  quotient = quotient;
  equal = equal;
  less = λ a b. lt (number a) (number b);
  index = index;
}
