-- Which character stands for which sort of line: one table.
use Rattle.std.specs.Prelude.{ℕ, true, false, cond, List, [], ◌∷◌, Some, None, codes, Option, ◌==◌}
use Rattle.lines.specs.declared.sorts.Operator.{Operator}
use Rattle.lines.specs.declared.sorts.Operator.TheVariants.{Plus, Minus, Times, Over}
use Rattle.lines.specs.declared.sorts.Relation.{Relation}
use Rattle.lines.specs.declared.sorts.Relation.TheVariants.{Equal, Less}
use Rattle.lines.specs.declared.sorts.ExpressionSort.TheVariants.{Constant, Simple, Element, Operation, Choice}
use Rattle.lines.specs.declared.sorts.ConditionSort.TheVariants.{Truth, Comparison, Negation, Implication}
use Rattle.lines.specs.declared.sorts.StatementSort.TheVariants.{Assignment, Sequence, Branch, Call, NewSimple, NewArray, System}
use Rattle.lines.specs.declared.sorts.DeclarationSort.TheVariants.{Procedure, Join}
use Rattle.lines.specs.declared.sorts.Sort.{Sort}
use Rattle.lines.specs.declared.sorts.Sort.TheVariants.{Global, Expression, Condition, Statement, Declaration}

-- the characters
abbrev pub letters : List ℕ
letters = codes "gkxa+-*/?tf=<!>s;ipvred&"

-- the sorts, in the order of their characters
abbrev pub sorts : List Sort
sorts =
    Global
    ∷ Expression Constant ∷ Expression Simple ∷ Expression Element
    ∷ Expression (Operation Plus) ∷ Expression (Operation Minus) ∷ Expression (Operation Times) ∷ Expression (Operation Over)
    ∷ Expression Choice
    ∷ Condition (Truth true) ∷ Condition (Truth false) ∷ Condition (Comparison Equal) ∷ Condition (Comparison Less)
    ∷ Condition Negation ∷ Condition Implication
    ∷ Statement Assignment ∷ Statement Sequence ∷ Statement Branch ∷ Statement Call
    ∷ Statement NewSimple ∷ Statement NewArray ∷ Statement System
    ∷ Declaration Procedure ∷ Declaration Join ∷ []

-- what stands in the second list at the place of a number in the first
abbrev pub beside : {A : Type 0} → List ℕ → List A → ℕ → Option A
beside [] ys c = None
beside (x ∷ xs) [] c = None
beside (x ∷ xs) (y ∷ ys) c = cond (c == x) (Some y) (beside xs ys c)

-- the sort that a character stands for
abbrev pub sort_of : ℕ → Option Sort
sort_of c = beside letters sorts c

-- The other way, for the operators and the relations.

-- + - * /
abbrev pub operator_character : Operator → ℕ
operator_character Plus = 43
operator_character Minus = 45
operator_character Times = 42
operator_character Over = 47

-- = <
abbrev pub relation_character : Relation → ℕ
relation_character Equal = 61
relation_character Less = 60
