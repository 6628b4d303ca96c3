-- Whole numbers from -2147483648 to 2147483647, in two's complement.
use Rattle.std.specs.Prelude.{ℕ, ◌-◌, cond, ◌&&◌, ℤ, pos, negsuc, ◌+ℤ◌, ◌-ℤ◌, ◌*ℤ◌, Some, None, Ok, Err, Option, Result, ◌==◌, int_le, int_lt, nat_lt}
use Rattle.kinds.specs.declared.fault.ArithmeticFault.{ArithmeticFault}
use Rattle.kinds.specs.declared.fault.ArithmeticFault.TheVariants.{OutOfRange, ZeroDivisor}
use Rattle.kinds.specs.Arithmetic.{Arithmetic}
use Rattle.kinds.specs.Quotients.{rounded}

-- -2147483648: `negsuc n` is -(n + 1)
abbrev pub least : ℤ
least = negsuc 2147483647

abbrev pub most : ℤ
most = pos 2147483647

-- the number that a word stands for: the word itself below 2147483648, and from there on 4294967296 less
abbrev pub value : ℕ → ℤ
value w = cond (nat_lt w 2147483648) (pos w) (pos w -ℤ pos 4294967296)

-- the word of a number: the number itself, and of a negative one 4294967296 more
abbrev pub word : ℤ → ℕ
word (pos n) = n
word (negsuc n) = 4294967295 - n

-- the word of a number that fits, else out of range
abbrev pub fitting : ℤ → Result ℕ ArithmeticFault
fitting z = cond (int_le least z && int_le z most) (Ok (word z)) (Err OutOfRange)

-- the nearest whole number, at a tie away from zero; a zero divisor is looked at first
abbrev pub quotient : ℕ → ℕ → Result ℕ ArithmeticFault
quotient a b = cond (b == 0) (Err ZeroDivisor) (fitting (rounded (value a) (value b)))

-- a number that is not negative
abbrev pub natural : ℤ → Option ℕ
natural (pos n) = Some n
natural (negsuc n) = None

abbrev pub whole : Arithmetic
whole = record {
  lawful = λ w. nat_lt w 4294967296;
  zero = 0;
  least = least;
  most = most;
  constant = word;
  sum = λ a b. fitting (value a +ℤ value b);
  difference = λ a b. fitting (value a -ℤ value b);
  product = λ a b. fitting (value a *ℤ value b);
  quotient = quotient;
  equal = λ a b. (a == b);
  less = λ a b. int_lt (value a) (value b);
  index = λ w. natural (value w);
}
