-- The operations by name.
use Rattle.std.specs.Prelude.{◌≡◌, ◌≢◌, ℕ, List, Ok, Err, Result, codes}
use Rattle.vectors.specs.declared.unread.Unread.{Unread}
use Rattle.vectors.specs.declared.answer.Operation.{Operation}
use Rattle.vectors.specs.declared.answer.Operation.TheVariants.{Add, Subtract, Multiply, Divide, Equal, Less}

abbrev pub name_of : Operation → List ℕ
name_of Add = codes "add"
name_of Subtract = codes "sub"
name_of Multiply = codes "mul"
name_of Divide = codes "div"
name_of Equal = codes "eq"
name_of Less = codes "lt"

-- an operation is read from its name, and from no other text
abbrev pub IsNamed : List ℕ → Result Operation Unread → Type 0
IsNamed text (Ok operation) = text ≡ name_of operation
IsNamed text (Err _) = (operation : Operation) → text ≢ name_of operation
