-- The faults of arithmetic, by number and in words.
use Rattle.std.specs.Prelude.{ℕ, List, codes}
use Rattle.kinds.specs.declared.fault.ArithmeticFault.{ArithmeticFault}
use Rattle.kinds.specs.declared.fault.ArithmeticFault.TheVariants.{OutOfRange, ZeroDivisor}

abbrev pub numbered : ArithmeticFault → ℕ
numbered OutOfRange = 21
numbered ZeroDivisor = 22

abbrev pub in_words : ArithmeticFault → List ℕ
in_words OutOfRange = codes "outside the range of the kind"
in_words ZeroDivisor = codes "a zero divisor"
