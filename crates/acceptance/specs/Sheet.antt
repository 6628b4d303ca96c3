-- The lines of a sheet, from the records that it was read into.
use Rattle.std.specs.Prelude.{List, map}
use Rattle.lines.specs.declared.records.Line.{Line}
use Rattle.lines.specs.declared.records.Record.{Record}

abbrev pub lines_of : List Record → List Line
lines_of rs = map (λ r. r.line) rs
