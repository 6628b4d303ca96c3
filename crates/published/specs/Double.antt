-- The double sheet: global 2 becomes twice global 1, by recursion.
use Rattle.std.specs.Prelude.{ℕ, List, [], ◌∷◌, ◌++◌, pos, Some, None, codes}
use Prim.Native.String.{String}
use Rattle.lines.specs.declared.sorts.Operator.TheVariants.{Plus, Minus}
use Rattle.lines.specs.declared.sorts.Relation.TheVariants.{Equal}
use Rattle.lines.specs.declared.records.Line.{Line}
use Rattle.lines.specs.declared.records.Role.{Role}
use Rattle.lines.specs.declared.records.Role.TheVariants.{Declared, ValueFormal, VariableFormal, GlobalSimple}
use Rattle.lines.specs.declared.records.Record.{Record}

-- the bytes of a text of these lines, each closed by byte 10
abbrev pub text_of : List String → List ℕ
text_of [] = []
text_of (l ∷ ls) = codes l ++ 10 ∷ text_of ls

-- its text, as it stands on a card
abbrev pub double_text : List ℕ
double_text = text_of (
    "1,g,1,0,0,0" ∷ "2,g,2,0,0,0" ∷ "3,x,3,0,0,0" ∷ "4,k,0,0,0,0" ∷ "5,=,3,4,0,0"
    ∷ "6,x,4,0,0,0" ∷ "7,k,0,0,0,0" ∷ "8,s,6,7,0,0" ∷ "9,x,3,0,0,0" ∷ "10,k,1,0,0,0"
    ∷ "11,-,9,10,0,0" ∷ "12,x,4,0,0,0" ∷ "13,p,1,11,12,0" ∷ "14,x,4,0,0,0" ∷ "15,x,4,0,0,0"
    ∷ "16,k,2,0,0,0" ∷ "17,+,15,16,0,0" ∷ "18,s,14,17,0,0" ∷ "19,;,13,18,0,0" ∷ "20,i,5,8,19,0"
    ∷ "21,d,1,3,4,20" ∷ "22,x,1,0,0,0" ∷ "23,x,2,0,0,0" ∷ "24,p,1,22,23,0" ∷ "25,e,21,24,0,0" ∷ [])

-- its lines, as they are read
abbrev pub double : List Line
double =
    Line.Global 1 0 ∷ Line.Global 2 0 ∷ Line.Simple 3 ∷ Line.Constant (pos 0) ∷ Line.Comparison Equal 3 4
    ∷ Line.Simple 4 ∷ Line.Constant (pos 0) ∷ Line.Assignment 6 7 ∷ Line.Simple 3 ∷ Line.Constant (pos 1)
    ∷ Line.Operation Minus 9 10 ∷ Line.Simple 4 ∷ Line.Call 1 11 12 ∷ Line.Simple 4 ∷ Line.Simple 4
    ∷ Line.Constant (pos 2) ∷ Line.Operation Plus 15 16 ∷ Line.Assignment 14 17 ∷ Line.Sequence 13 18 ∷ Line.Branch 5 8 19
    ∷ Line.Procedure 1 3 4 20 ∷ Line.Simple 1 ∷ Line.Simple 2 ∷ Line.Call 1 22 23 ∷ Line.System 21 24 ∷ []

-- the record of a line that tells no declaration, and of one that tells that its name is declared on line n, in that role
abbrev pub silent : Line → Record
silent l = record { line = l; declaration = None }

abbrev pub tells : Line → ℕ → Role → Record
tells l n r = record { line = l; declaration = Some (record { line = n; role = r }) }

-- the procedure's formals, where they are used: its line, 21, declares them
abbrev pub value_formal : Record
value_formal = tells (Line.Simple 3) 21 ValueFormal

abbrev pub variable_formal : Record
variable_formal = tells (Line.Simple 4) 21 VariableFormal

-- its records once it is accepted; the procedure's own tells the line of its system
abbrev pub double_records : List Record
double_records =
    silent (Line.Global 1 0) ∷ silent (Line.Global 2 0) ∷ value_formal ∷ silent (Line.Constant (pos 0)) ∷ silent (Line.Comparison Equal 3 4)
    ∷ variable_formal ∷ silent (Line.Constant (pos 0)) ∷ silent (Line.Assignment 6 7) ∷ value_formal ∷ silent (Line.Constant (pos 1))
    ∷ silent (Line.Operation Minus 9 10) ∷ variable_formal ∷ tells (Line.Call 1 11 12) 21 Declared ∷ variable_formal ∷ variable_formal
    ∷ silent (Line.Constant (pos 2)) ∷ silent (Line.Operation Plus 15 16) ∷ silent (Line.Assignment 14 17)
    ∷ silent (Line.Sequence 13 18) ∷ silent (Line.Branch 5 8 19)
    ∷ tells (Line.Procedure 1 3 4 20) 25 Declared ∷ tells (Line.Simple 1) 1 (GlobalSimple 0) ∷ tells (Line.Simple 2) 2 (GlobalSimple 1)
    ∷ tells (Line.Call 1 22 23) 21 Declared ∷ silent (Line.System 21 24) ∷ []
