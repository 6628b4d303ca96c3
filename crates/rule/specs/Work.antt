-- What working an expression gives: a value, or the number of a fault.
use Rattle.std.specs.Prelude.{ℕ, Ok, Err, Result}
use Rattle.kinds.specs.declared.fault.ArithmeticFault.{ArithmeticFault}
use Rattle.kinds.specs.Faults.{numbered}

pub data Work (A : Type 0) : Type 0 where
  gives : A → Work A
  faults : ℕ → Work A

-- one work after another: a fault ends it
abbrev pub next : {A B : Type 0} → Work A → (A → Work B) → Work B
next (gives a) f = f a
next (faults n) f = faults n

-- what an operation of a number kind gives
abbrev pub of_kind : Result ℕ ArithmeticFault → Work ℕ
of_kind (Ok w) = gives w
of_kind (Err f) = faults (numbered f)
