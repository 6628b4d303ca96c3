-- The faults of a run: the number and the meaning of each.
use Rattle.std.specs.Prelude.{ℕ, List, codes, Ok, Err, Result}
use Rattle.kinds.specs.declared.fault.ArithmeticFault.{ArithmeticFault}
use Rattle.kinds.specs.declared.fault.ArithmeticFault.TheVariants as Arithmetic
use Rattle.rule.specs.Work.{Work, gives, faults}
use Rattle.faults.specs.declared.fault.Fault.{Fault}
use Rattle.faults.specs.declared.fault.Fault.TheVariants.{OutOfRange, ZeroDivisor, NoElement, TooDeep, NoCells, Refused}

abbrev pub number_of : Fault → ℕ
number_of OutOfRange = 21
number_of ZeroDivisor = 22
number_of NoElement = 23
number_of TooDeep = 24
number_of NoCells = 25
number_of Refused = 26

abbrev pub meaning_of : Fault → List ℕ
meaning_of OutOfRange = codes "a result outside the range of the number kind"
meaning_of ZeroDivisor = codes "a zero divisor"
meaning_of NoElement = codes "no such element of an array"
meaning_of TooDeep = codes "more than 512 levels"
meaning_of NoCells = codes "no cells left"
meaning_of Refused = codes "the store refuses a place or holds an unlawful word"

-- a fault of arithmetic is one of a run
abbrev pub of_arithmetic : ArithmeticFault → Fault
of_arithmetic Arithmetic.OutOfRange = OutOfRange
of_arithmetic Arithmetic.ZeroDivisor = ZeroDivisor

-- what the engine works out, as the machine tells it
abbrev pub told : {A : Type 0} → Result A Fault → Work A
told (Ok a) = gives a
told (Err f) = faults (number_of f)
