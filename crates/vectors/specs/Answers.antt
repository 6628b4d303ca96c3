-- What a kind gives for an operation on two words.
use Rattle.std.specs.Prelude.{ℕ, Ok, Err, Result}
use Rattle.kinds.specs.Arithmetic.{Arithmetic}
use Rattle.kinds.specs.declared.fault.ArithmeticFault.{ArithmeticFault}
use Rattle.vectors.specs.declared.answer.Value.{Value}
use Rattle.vectors.specs.declared.answer.Value.TheVariants.{Word, Truth}
use Rattle.vectors.specs.declared.answer.Operation.{Operation}
use Rattle.vectors.specs.declared.answer.Operation.TheVariants.{Add, Subtract, Multiply, Divide, Equal, Less}

abbrev pub worked : Result ℕ ArithmeticFault → Result Value ArithmeticFault
worked (Ok w) = Ok (Word w)
worked (Err f) = Err f

abbrev pub answered : Arithmetic → Operation → ℕ → ℕ → Result Value ArithmeticFault
answered k Add a b = worked (k.sum a b)
answered k Subtract a b = worked (k.difference a b)
answered k Multiply a b = worked (k.product a b)
answered k Divide a b = worked (k.quotient a b)
answered k Equal a b = Ok (Truth (k.equal a b))
answered k Less a b = Ok (Truth (k.less a b))
