-- Small scripts that tell wrong rules apart. Each is a script for whole numbers, and closes so over 64 cells.
use Rattle.std.specs.Prelude.{ℕ, List, [], ◌∷◌, pos}
use Rattle.kinds.specs.Whole.{whole}
use Rattle.lines.specs.declared.sorts.Operator.TheVariants.{Plus, Minus, Times}
use Rattle.lines.specs.declared.sorts.Relation.TheVariants.{Equal}
use Rattle.lines.specs.declared.records.Line.{Line}
use Rattle.script.specs.IsScript.{IsScript}
use Rattle.rule.specs.Rewriting.{finished}
use Rattle.published.specs.Runs.{Run}

-- the lines are a script, and from these words of its globals it finishes, with this count and these words
pub record Finishes (ls : List Line) (first : List ℕ) (count : ℕ) (last : List ℕ) : Type 0 where
  pub is_script : IsScript whole.least whole.most ls
  pub closes : Run ls 64 first 1000 finished count last

-- a procedure assigns to a global through its variable formal
abbrev pub through_formal : List Line
through_formal =
    Line.Global 1 0 ∷ Line.Simple 12 ∷ Line.Simple 11 ∷ Line.Constant (pos 1)
    ∷ Line.Operation Plus 3 4 ∷ Line.Assignment 2 5 ∷ Line.Procedure 1 11 12 6 ∷ Line.Constant (pos 41)
    ∷ Line.Simple 1 ∷ Line.Call 1 8 9 ∷ Line.System 7 10 ∷ []

-- each activation of a recursion has a local of its own, with the name of a global
abbrev pub own_locals : List Line
own_locals =
    Line.Global 1 0 ∷ Line.Global 2 0 ∷ Line.Simple 1 ∷ Line.Simple 11
    ∷ Line.Assignment 3 4 ∷ Line.Simple 11 ∷ Line.Constant (pos 0) ∷ Line.Comparison Equal 6 7
    ∷ Line.Simple 12 ∷ Line.Simple 1 ∷ Line.Assignment 9 10 ∷ Line.Simple 11
    ∷ Line.Constant (pos 1) ∷ Line.Operation Minus 12 13 ∷ Line.Simple 12 ∷ Line.Call 1 14 15
    ∷ Line.Simple 12 ∷ Line.Simple 12 ∷ Line.Simple 1 ∷ Line.Operation Plus 18 19
    ∷ Line.Assignment 17 20 ∷ Line.Sequence 16 21 ∷ Line.Branch 8 11 22 ∷ Line.Sequence 5 23
    ∷ Line.NewSimple 1 24 ∷ Line.Procedure 1 11 12 25 ∷ Line.Constant (pos 3) ∷ Line.Simple 2
    ∷ Line.Call 1 27 28 ∷ Line.System 26 29 ∷ []

-- a procedure sees the global that its text stands under, and not its caller's variable of that name
abbrev pub static_scope : List Line
static_scope =
    Line.Global 1 0 ∷ Line.Global 2 0 ∷ Line.Simple 12 ∷ Line.Simple 1
    ∷ Line.Assignment 3 4 ∷ Line.Procedure 1 11 12 5 ∷ Line.Simple 1 ∷ Line.Constant (pos 5)
    ∷ Line.Assignment 7 8 ∷ Line.Constant (pos 0) ∷ Line.Simple 2 ∷ Line.Call 1 10 11
    ∷ Line.Sequence 9 12 ∷ Line.NewSimple 1 13 ∷ Line.System 6 14 ∷ []

-- an element passed for a variable formal stays the one that it was at the call
abbrev pub fixed_index : List Line
fixed_index =
    Line.Global 1 0 ∷ Line.Global 1 3 ∷ Line.Simple 1 ∷ Line.Constant (pos 2)
    ∷ Line.Assignment 3 4 ∷ Line.Simple 12 ∷ Line.Constant (pos 5) ∷ Line.Assignment 6 7
    ∷ Line.Sequence 5 8 ∷ Line.Procedure 1 11 12 9 ∷ Line.Constant (pos 0) ∷ Line.Simple 1
    ∷ Line.Element 1 12 ∷ Line.Call 1 11 13 ∷ Line.System 10 14 ∷ []

-- a variable formal and the global that it was called with are one cell
abbrev pub alias : List Line
alias =
    Line.Global 1 0 ∷ Line.Simple 12 ∷ Line.Simple 12 ∷ Line.Constant (pos 1)
    ∷ Line.Operation Plus 3 4 ∷ Line.Assignment 2 5 ∷ Line.Simple 1 ∷ Line.Simple 1
    ∷ Line.Constant (pos 2) ∷ Line.Operation Times 8 9 ∷ Line.Assignment 7 10 ∷ Line.Simple 12
    ∷ Line.Simple 12 ∷ Line.Simple 11 ∷ Line.Operation Plus 13 14 ∷ Line.Assignment 12 15
    ∷ Line.Sequence 11 16 ∷ Line.Sequence 6 17 ∷ Line.Procedure 1 11 12 18 ∷ Line.Constant (pos 3)
    ∷ Line.Simple 1 ∷ Line.Call 1 20 21 ∷ Line.System 19 22 ∷ []

-- an inner procedure hides an outer one of its name, and only in its own system
abbrev pub shadowed_procedure : List Line
shadowed_procedure =
    Line.Global 1 0 ∷ Line.Simple 12 ∷ Line.Simple 12 ∷ Line.Constant (pos 10)
    ∷ Line.Operation Times 3 4 ∷ Line.Constant (pos 1) ∷ Line.Operation Plus 5 6 ∷ Line.Assignment 2 7
    ∷ Line.Procedure 1 11 12 8 ∷ Line.Simple 12 ∷ Line.Simple 12 ∷ Line.Constant (pos 10)
    ∷ Line.Operation Times 11 12 ∷ Line.Constant (pos 2) ∷ Line.Operation Plus 13 14 ∷ Line.Assignment 10 15
    ∷ Line.Procedure 1 11 12 16 ∷ Line.Constant (pos 0) ∷ Line.Simple 1 ∷ Line.Call 1 18 19
    ∷ Line.System 17 20 ∷ Line.Constant (pos 0) ∷ Line.Simple 1 ∷ Line.Call 1 22 23
    ∷ Line.Sequence 21 24 ∷ Line.System 9 25 ∷ []

pub record ToldApart : Type 0 where
  pub case_through_formal : Finishes through_formal (9 ∷ []) 3 (42 ∷ [])
  pub case_own_locals : Finishes own_locals (9 ∷ 0 ∷ []) 28 (9 ∷ 6 ∷ [])
  pub case_static_scope : Finishes static_scope (7 ∷ 0 ∷ []) 6 (7 ∷ 7 ∷ [])
  pub case_fixed_index : Finishes fixed_index (0 ∷ 1 ∷ 1 ∷ 1 ∷ []) 5 (2 ∷ 5 ∷ 1 ∷ 1 ∷ [])
  pub case_alias : Finishes alias (4 ∷ []) 7 (13 ∷ [])
  pub case_shadowed_procedure : Finishes shadowed_procedure (0 ∷ []) 7 (21 ∷ [])
