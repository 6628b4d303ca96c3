-- A script's declarations told apart: each declared name becomes one of its own, told by its declaring line.
use Rattle.std.specs.Prelude.{ℕ, zero, suc, ◌+◌, ◌*◌, true, false, List, [], ◌∷◌, length, Some, None, Option, ◌==◌}
use Rattle.lines.specs.declared.records.Line.{Line}
use Rattle.script.specs.Script.{Place, simple, element, fixed, Expression, constant, word_of, work, choose, Condition, truth, compared, negated, implies}
use Rattle.script.specs.Script.{Statement, assign, both, branch, call, new_simple, new_array, system, Declarations, procedure, joined, only}
use Rattle.script.specs.Names.{Names, nothing, cell, cells}

-- the names of a declaring line's own: what a g, v, r or d line declares, and a d line's two formals
abbrev pub own : ℕ → ℕ
own l = 4 * l

abbrev pub own_value : ℕ → ℕ
own_value l = 4 * l + 1

abbrev pub own_variable : ℕ → ℕ
own_variable l = 4 * l + 2

-- the first fresh name: it and those after it are above every line's own, on a sheet of at most 2,048 lines
abbrev pub first_fresh : ℕ
first_fresh = 4 * 2049

-- the declarations around a place of the text, the innermost first: a name of the sheet and the name of its own
pub record Scope : Type 0 where
  pub simples : List (ℕ × ℕ)
  pub arrays : List (ℕ × ℕ)
  pub procs : List (ℕ × ℕ)

-- the name of its own that a name of the sheet belongs to: that of the innermost declaration (0 where there is none)
abbrev pub found : List (ℕ × ℕ) → ℕ → ℕ
found [] n = 0
found (p ∷ ps) n = elim (p.0 == n) [ true ↦ p.1 | false ↦ found ps n ]

abbrev pub with_simple : ℕ → ℕ → Scope → Scope
with_simple x y s = record { simples = (x, y) ∷ s.simples; arrays = s.arrays; procs = s.procs }

abbrev pub with_array : ℕ → ℕ → Scope → Scope
with_array x y s = record { simples = s.simples; arrays = (x, y) ∷ s.arrays; procs = s.procs }

-- the procedures of a system are all known in its bodies and its statement
abbrev pub with_procs : Declarations → Scope → Scope
with_procs (procedure l q x y b) s = record { simples = s.simples; arrays = s.arrays; procs = (q, own l) ∷ s.procs }
with_procs (joined d e) s = with_procs e (with_procs d s)

abbrev mutual
  pub place_apart : Scope → Place → Place
  place_apart s (simple x) = simple (found s.simples x)
  place_apart s (element a i) = element (found s.arrays a) (expression_apart s i)
  place_apart s (fixed a i) = fixed (found s.arrays a) i

  pub expression_apart : Scope → Expression → Expression
  expression_apart s (constant n) = constant n
  expression_apart s (word_of p) = word_of (place_apart s p)
  expression_apart s (work o a b) = work o (expression_apart s a) (expression_apart s b)
  expression_apart s (choose c a b) = choose (condition_apart s c) (expression_apart s a) (expression_apart s b)

  pub condition_apart : Scope → Condition → Condition
  condition_apart s (truth b) = truth b
  condition_apart s (compared r a b) = compared r (expression_apart s a) (expression_apart s b)
  condition_apart s (negated c) = negated (condition_apart s c)
  condition_apart s (implies c d) = implies (condition_apart s c) (condition_apart s d)

abbrev mutual
  pub statement_apart : Scope → Statement → Statement
  statement_apart s (assign l p e) = assign l (place_apart s p) (expression_apart s e)
  statement_apart s (both l a b) = both l (statement_apart s a) (statement_apart s b)
  statement_apart s (branch l c a b) = branch l (condition_apart s c) (statement_apart s a) (statement_apart s b)
  statement_apart s (call l q e p) = call l (found s.procs q) (expression_apart s e) (place_apart s p)
  statement_apart s (new_simple l x a) = new_simple l (own l) (statement_apart (with_simple x (own l) s) a)
  statement_apart s (new_array l x n a) = new_array l (own l) n (statement_apart (with_array x (own l) s) a)
  statement_apart s (system l d a) = let t = with_procs d s in system l (declarations_apart t d) (statement_apart t a)

  pub declarations_apart : Scope → Declarations → Declarations
  declarations_apart s (procedure l q x y b) =
      procedure l (own l) (own_value l) (own_variable l) (statement_apart (with_simple y (own_variable l) (with_simple x (own_value l) s)) b)
  declarations_apart s (joined d e) = joined (declarations_apart s d) (declarations_apart s e)

-- the globals: their scope, what they stand for, and the cells that they take, from 0 in line order
pub record Globals : Type 0 where
  pub scope : Scope
  pub names : Names
  pub taken : ℕ

abbrev pub global_of : ℕ → ℕ → ℕ → Globals → Globals
global_of n a zero g = record { scope = with_simple a (own n) g.scope; names = only (own n) (cell g.taken) g.names; taken = g.taken + 1 }
global_of n a (suc k) g = record { scope = with_array a (own n) g.scope; names = only (own n) (cells g.taken (suc k)) g.names; taken = g.taken + suc k }

abbrev pub no_globals : Globals
no_globals = record { scope = record { simples = []; arrays = []; procs = [] }; names = λ x. nothing; taken = 0 }

-- the globals that a sheet begins with, each by its name and length (0: simple)
abbrev pub as_global : Line → Option (ℕ × ℕ)
as_global (Line.Global a b) = Some (a, b)
as_global (Line.Constant k) = None
as_global (Line.Simple a) = None
as_global (Line.Element a b) = None
as_global (Line.Operation o a b) = None
as_global (Line.Comparison r a b) = None
as_global (Line.Choice a b c) = None
as_global (Line.Truth b) = None
as_global (Line.Negation a) = None
as_global (Line.Implication a b) = None
as_global (Line.Assignment a b) = None
as_global (Line.Sequence a b) = None
as_global (Line.Branch a b c) = None
as_global (Line.Call a b c) = None
as_global (Line.NewSimple a b) = None
as_global (Line.NewArray a b c) = None
as_global (Line.System a b) = None
as_global (Line.Procedure a b c d) = None
as_global (Line.Join a b) = None

abbrev pub head_then : Option (ℕ × ℕ) → List (ℕ × ℕ) → List (ℕ × ℕ)
head_then None gs = []
head_then (Some g) gs = g ∷ gs

abbrev pub heads : List Line → List (ℕ × ℕ)
heads [] = []
heads (l ∷ ls) = head_then (as_global l) (heads ls)

-- the number of the first line after the globals
abbrev pub past_globals : List Line → ℕ
past_globals ls = suc (length (heads ls))

-- globals from line n on, added to those before
abbrev pub globals_from : ℕ → List (ℕ × ℕ) → Globals → Globals
globals_from n [] g = g
globals_from n (p ∷ ps) g = globals_from (suc n) ps (global_of n p.0 p.1 g)

abbrev pub globals_of : List Line → Globals
globals_of ls = globals_from 1 (heads ls) no_globals
