-- How deep expressions and conditions are nested: 1 without parts, and else 1 more than the deepest part.
use Rattle.std.specs.Prelude.{ℕ, suc, max}
use Rattle.script.specs.Script.{Condition, Expression, Place, choose, compared, constant, element, fixed, implies, negated, simple, truth, word_of, work}
use Rattle.script.specs.Tree.{Part, condition, declarations, expression, other, place, statement}

abbrev mutual
  pub place_depth : Place → ℕ
  place_depth (simple x) = 1
  place_depth (element a i) = suc (expression_depth i)
  place_depth (fixed a i) = 1

  pub expression_depth : Expression → ℕ
  expression_depth (constant n) = 1
  expression_depth (word_of p) = place_depth p
  expression_depth (work o a b) = suc (max (expression_depth a) (expression_depth b))
  expression_depth (choose c a b) = suc (max (condition_depth c) (max (expression_depth a) (expression_depth b)))

  pub condition_depth : Condition → ℕ
  condition_depth (truth b) = 1
  condition_depth (compared r a b) = suc (max (expression_depth a) (expression_depth b))
  condition_depth (negated c) = suc (condition_depth c)
  condition_depth (implies c d) = suc (max (condition_depth c) (condition_depth d))

-- 0 of what is no expression and no condition
abbrev pub depth : Part → ℕ
depth (place p) = place_depth p
depth (expression e) = expression_depth e
depth (condition c) = condition_depth c
depth (statement s) = 0
depth (declarations d) = 0
depth other = 0

-- no expression and no condition of a script is deeper
abbrev pub deepest_allowed : ℕ
deepest_allowed = 64
