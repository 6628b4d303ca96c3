-- Which texts are well scoped: every name that is used is declared around its use.
use Rattle.std.specs.Prelude.{ℕ, true, false, List, [], ◌∷◌, ◌++◌, ◌==◌}
use Rattle.script.specs.Script.{Condition, Declarations, Expression, Place, Statement, assign, both, branch, call, choose, compared, constant, element, fixed, implies, joined, negated, new_array, new_simple, procedure, simple, system, truth, word_of, work}
use Rattle.script.specs.Apart.{Scope, own, own_value, own_variable, with_array, with_procs, with_simple}

-- the lines of a text that declare something: a new simple variable, a new array, a procedure
abbrev mutual
  pub declaring_lines : Statement → List ℕ
  declaring_lines (assign l p e) = []
  declaring_lines (both l a b) = declaring_lines a ++ declaring_lines b
  declaring_lines (branch l c a b) = declaring_lines a ++ declaring_lines b
  declaring_lines (call l q e p) = []
  declaring_lines (new_simple l x a) = l ∷ declaring_lines a
  declaring_lines (new_array l x n a) = l ∷ declaring_lines a
  declaring_lines (system l d a) = declaring_lines_of d ++ declaring_lines a

  pub declaring_lines_of : Declarations → List ℕ
  declaring_lines_of (procedure l q x y s) = l ∷ declaring_lines s
  declaring_lines_of (joined d e) = declaring_lines_of d ++ declaring_lines_of e

-- a name of the sheet that one of the declarations around has (each a name and its own, as in a scope)
abbrev pub Among : List (ℕ × ℕ) → ℕ → Type 0
Among [] n = ⊥
Among (p ∷ ps) n = elim (p.0 == n) [ true ↦ Unit {0} | false ↦ Among ps n ]

-- every name in the text is among those that its scope has: simple variables, arrays and procedures apart.
-- (Fixed elements stand in no script's text: calls make them.)
abbrev mutual
  pub ScopedPlace : Scope → Place → Type 0
  ScopedPlace s (simple x) = Among s.simples x
  ScopedPlace s (element a i) = Among s.arrays a × ScopedExpression s i
  ScopedPlace s (fixed a i) = ⊥

  pub ScopedExpression : Scope → Expression → Type 0
  ScopedExpression s (constant n) = Unit {0}
  ScopedExpression s (word_of p) = ScopedPlace s p
  ScopedExpression s (work o a b) = ScopedExpression s a × ScopedExpression s b
  ScopedExpression s (choose c a b) = ScopedCondition s c × ScopedExpression s a × ScopedExpression s b

  pub ScopedCondition : Scope → Condition → Type 0
  ScopedCondition s (truth b) = Unit {0}
  ScopedCondition s (compared r a b) = ScopedExpression s a × ScopedExpression s b
  ScopedCondition s (negated c) = ScopedCondition s c
  ScopedCondition s (implies c d) = ScopedCondition s c × ScopedCondition s d

-- a declaration adds its names to the scope of what it is for: a new variable's in its statement,
-- a system's in its procedures' bodies and its statement, a procedure's formals in its body
abbrev mutual
  pub Scoped : Scope → Statement → Type 0
  Scoped s (assign l p e) = ScopedPlace s p × ScopedExpression s e
  Scoped s (both l a b) = Scoped s a × Scoped s b
  Scoped s (branch l c a b) = ScopedCondition s c × Scoped s a × Scoped s b
  Scoped s (call l q e p) = Among s.procs q × ScopedExpression s e × ScopedPlace s p
  Scoped s (new_simple l x a) = Scoped (with_simple x (own l) s) a
  Scoped s (new_array l x n a) = Scoped (with_array x (own l) s) a
  Scoped s (system l d a) = ScopedDeclarations (with_procs d s) d × Scoped (with_procs d s) a

  pub ScopedDeclarations : Scope → Declarations → Type 0
  ScopedDeclarations s (procedure l q x y b) = Scoped (with_simple y (own_variable l) (with_simple x (own_value l) s)) b
  ScopedDeclarations s (joined d e) = ScopedDeclarations s d × ScopedDeclarations s e
