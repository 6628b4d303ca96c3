-- The records of an accepted sheet stand for its text.
use Rattle.std.specs.Prelude.{List, length, ℤ}
use Rattle.lines.specs.declared.records.Line.{Line}
use Rattle.lines.specs.declared.records.Record.{Record}
use Rattle.script.specs.Apart.{globals_of, statement_apart}
use Rattle.script.specs.IsScript.{IsScript}
use Rattle.standing.specs.Records.{Resolved}
use Rattle.standing.specs.Standing.{StandsStatement}

-- the records stand for the told-apart text of the script that the lines are
abbrev pub StandsFor : (low high : ℤ) (ls : List Line) → IsScript low high ls → List Record → Type 0
StandsFor low high ls s rs = StandsStatement (globals_of ls).names rs (statement_apart (globals_of ls).scope s.text) (length ls)

abbrev pub RecordsStand : Type 0
RecordsStand = (low high : ℤ) (ls : List Line) (s : IsScript low high ls) (rs : List Record) → Resolved ls rs → StandsFor low high ls s rs
