-- The depths that the program counts: of the part at a line, where it is an expression or a condition, and no further than 255.
use Rattle.std.specs.Prelude.{ℕ, suc, min, max, Some, None, Option, cond, nat_lt}
use Rattle.lines.specs.Ranges.{given}
use Rattle.script.specs.Tree.{Part, condition, declarations, expression, other, place, statement}
use Rattle.script.specs.Depth.{condition_depth, expression_depth, place_depth}

-- the depth of a part as an expression, where it is one: a variable stands for the expression that its word is
abbrev pub as_expression_deep : Part → Option ℕ
as_expression_deep (place p) = Some (place_depth p)
as_expression_deep (expression e) = Some (expression_depth e)
as_expression_deep (condition c) = None
as_expression_deep (statement s) = None
as_expression_deep (declarations d) = None
as_expression_deep other = None

-- the depth of a part as a condition, where it is one
abbrev pub as_condition_deep : Part → Option ℕ
as_condition_deep (place p) = None
as_condition_deep (expression e) = None
as_condition_deep (condition c) = Some (condition_depth c)
as_condition_deep (statement s) = None
as_condition_deep (declarations d) = None
as_condition_deep other = None

-- counted up to 255
abbrev pub counted : Option ℕ → Option ℕ
counted o = given o (λ d. Some (min 255 d))

-- one more than a depth that is there
abbrev pub above : Option ℕ → Option ℕ
above o = given o (λ a. Some (min 255 (suc a)))

-- the greater of two depths, where both are there
abbrev pub deeper : Option ℕ → Option ℕ → Option ℕ
deeper o p = given o (λ a. given p (λ b. Some (max a b)))

-- what there is of line m, where m is below n
abbrev pub if_below : {A : Type 0} → ℕ → ℕ → Option A → Option A
if_below n m o = cond (nat_lt m n) o None
