-- A script that doubles a number, and sheets that differ from it in a line or two: what each is refused for.
use Rattle.std.specs.Prelude.{◌≡◌, ℕ, zero, suc, ◌+◌, true, List, [], ◌∷◌, ◌++◌, pos, negsuc, Some, None, Option, slice_set}
use Rattle.lines.specs.declared.sorts.Operator.TheVariants.{Minus, Plus}
use Rattle.lines.specs.declared.sorts.Relation.TheVariants.{Equal}
use Rattle.lines.specs.declared.records.Line.{Line}
use Rattle.script.specs.Tests.{refusal}

-- Globals 1 and 2, and the procedure 1 with the formals 3 and 4: if 3 is 0 then 4 becomes 0, and else the procedure is called
-- for 3 less 1 and 4, and 4 becomes 4 and 2. It is called for the globals.
abbrev pub double : List Line
double =
    Line.Global 1 0 ∷ Line.Global 2 0 ∷ Line.Simple 3 ∷ Line.Constant (pos 0) ∷ Line.Comparison Equal 3 4
    ∷ Line.Simple 4 ∷ Line.Constant (pos 0) ∷ Line.Assignment 6 7 ∷ Line.Simple 3 ∷ Line.Constant (pos 1)
    ∷ Line.Operation Minus 9 10 ∷ Line.Simple 4 ∷ Line.Call 1 11 12 ∷ Line.Simple 4 ∷ Line.Simple 4 ∷ Line.Constant (pos 2)
    ∷ Line.Operation Plus 15 16 ∷ Line.Assignment 14 17 ∷ Line.Sequence 13 18
    ∷ Line.Branch 5 8 19 ∷ Line.Procedure 1 3 4 20 ∷ Line.Simple 1 ∷ Line.Simple 2 ∷ Line.Call 1 22 23 ∷ Line.System 21 24 ∷ []

-- what a sheet is refused for where constants go from 0 to 255
abbrev pub of_bytes : List Line → Option (ℕ × ℕ)
of_bytes = refusal (pos 0) (pos 255)

-- the sheet with another line n + 1
abbrev pub but : ℕ → Line → List Line
but n l = slice_set double n l

-- a system of two procedures, named p and q, which the line `group` takes together
abbrev pub two : ℕ → ℕ → Line → List Line
two p q group =
    Line.Global 1 0 ∷ Line.Simple 4 ∷ Line.Simple 3 ∷ Line.Assignment 2 3 ∷ Line.Procedure p 3 4 4
    ∷ Line.Simple 4 ∷ Line.Simple 3 ∷ Line.Assignment 6 7 ∷ Line.Procedure q 3 4 8 ∷ group
    ∷ Line.Constant (pos 1) ∷ Line.Simple 1 ∷ Line.Call 1 11 12 ∷ Line.System 10 13 ∷ []

-- the same procedures, one system in the other's statement
abbrev pub nested : ℕ → ℕ → List Line
nested p q =
    Line.Global 1 0 ∷ Line.Simple 4 ∷ Line.Simple 3 ∷ Line.Assignment 2 3 ∷ Line.Procedure p 3 4 4
    ∷ Line.Simple 4 ∷ Line.Simple 3 ∷ Line.Assignment 6 7 ∷ Line.Procedure q 3 4 8
    ∷ Line.Constant (pos 1) ∷ Line.Simple 1 ∷ Line.Call 1 10 11 ∷ Line.System 9 12 ∷ Line.System 5 13 ∷ []

-- k negations, each of the line before it, the first of line n
abbrev pub negations : ℕ → ℕ → List Line → List Line
negations n zero ls = ls
negations n (suc k) ls = Line.Negation n ∷ negations (suc n) k ls

-- a branch whose condition is k + 1 deep
abbrev pub deep : ℕ → List Line
deep k =
    Line.Global 1 0 ∷ Line.Truth true ∷ negations 2 k
    (Line.Simple 1 ∷ Line.Constant (pos 0) ∷ Line.Assignment (k + 3) (k + 4) ∷ Line.Simple 1 ∷ Line.Constant (pos 1) ∷ Line.Assignment (k + 6) (k + 7)
    ∷ Line.Branch (k + 2) (k + 5) (k + 8) ∷ [])

abbrev pub RefusalCases : Type 0
RefusalCases =
    (of_bytes double ≡ None)
    × (of_bytes [] ≡ Some (6, 0))
    -- a field that names a later line, a line of another class, no line
    × (of_bytes (but 7 (Line.Assignment 6 20)) ≡ Some (6, 7))
    × (of_bytes (but 7 (Line.Assignment 7 6)) ≡ Some (6, 8))
    × (of_bytes (but 7 (Line.Assignment 0 7)) ≡ Some (6, 6))
    -- a line named twice
    × (of_bytes (but 16 (Line.Operation Plus 15 15)) ≡ Some (6, 16))
    × (of_bytes (but 17 (Line.Assignment 12 17)) ≡ Some (6, 14))
    × (of_bytes (but 22 (Line.Constant (pos 1))) ≡ Some (6, 24))
    -- a late global, a last line that is no statement
    × (of_bytes (but 24 (Line.Global 3 0)) ≡ Some (6, 21))
    × (of_bytes (double ++ (Line.Simple 1 ∷ [])) ≡ Some (6, 25))
    × (of_bytes (Line.Simple 1 ∷ []) ≡ Some (6, 1))
    -- names
    × (of_bytes (but 1 (Line.Global 1 0)) ≡ Some (8, 2))
    × (of_bytes (but 1 (Line.Global 1 5)) ≡ Some (7, 23))
    × (of_bytes (but 20 (Line.Procedure 1 3 3 20)) ≡ Some (8, 21))
    × (of_bytes (but 20 (Line.Procedure 2 3 4 20)) ≡ Some (7, 13))
    × (of_bytes (but 21 (Line.Simple 3)) ≡ Some (7, 22))
    -- constants
    × (of_bytes (but 15 (Line.Constant (pos 256))) ≡ Some (10, 16))
    × (of_bytes (but 3 (Line.Constant (negsuc 0))) ≡ Some (10, 4))
    -- two procedures of one name, in one system and in two; a name of the other system
    × (of_bytes (two 1 2 (Line.Join 5 9)) ≡ None)
    × (of_bytes (two 1 1 (Line.Join 5 9)) ≡ Some (8, 9))
    × (of_bytes (two 1 1 (Line.Join 9 5)) ≡ Some (8, 9))
    × (of_bytes (nested 1 1) ≡ None)
    × (of_bytes (nested 2 1) ≡ None)
    × (of_bytes (nested 2 3) ≡ Some (7, 12))
    -- depth
    × (of_bytes (deep 63) ≡ None)
    × (of_bytes (deep 64) ≡ Some (9, 66))
