-- What a published result says of a kind without infinities.
use Rattle.std.specs.Prelude.{ℕ, Bool, true, false, cond, ◌&&◌, ◌||◌, Some, None, Ok, Err, Option, Result, ◌==◌}
use Rattle.kinds.specs.declared.fault.ArithmeticFault.{ArithmeticFault}
use Rattle.kinds.specs.declared.fault.ArithmeticFault.TheVariants.{OutOfRange, ZeroDivisor}
use Rattle.vectors.specs.declared.answer.Value.{Value}
use Rattle.vectors.specs.declared.answer.Value.TheVariants.{Word, Truth}
use Rattle.vectors.specs.declared.answer.Operation.{Operation}
use Rattle.vectors.specs.declared.answer.Operation.TheVariants.{Add, Subtract, Multiply, Divide, Equal, Less}
use Rattle.vectors.specs.declared.case.Case.{Case}

-- a comparison's result: 1 is true, 0 is false
abbrev pub truth : ℕ → Option Value
truth w = cond (w == 0) (Some (Truth false)) (cond (w == 1) (Some (Truth true)) None)

-- the words of the two infinities, and of the two zeros
abbrev pub infinite : ℕ → Bool
infinite w = w == 2139095040 || w == 4286578688

abbrev pub is_zero : ℕ → Bool
is_zero w = w == 0 || w == 2147483648

abbrev pub divides : Operation → Bool
divides Add = false
divides Subtract = false
divides Multiply = false
divides Divide = true
divides Equal = false
divides Less = false

-- an infinity is a zero divisor's fault where the divisor is zero, and else out of range
abbrev pub finitely : Operation → ℕ → Result Value ArithmeticFault → Result Value ArithmeticFault
finitely o b (Ok (Word w)) = cond (infinite w) (Err (cond (divides o && is_zero b) ZeroDivisor OutOfRange)) (Ok (Word w))
finitely o b (Ok (Truth t)) = Ok (Truth t)
finitely o b (Err f) = Err f

abbrev pub finite_answer : Case → Case
finite_answer c = record { operation = c.operation; a = c.a; b = c.b; wanted = finitely c.operation c.b c.wanted }
