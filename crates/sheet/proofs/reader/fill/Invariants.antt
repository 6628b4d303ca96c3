use Rattle.std.proofs.Common.{List, ◌++◌, length, drop}
use Rattle.lines.specs.declared.records.Line.{Line}
use Rattle.sheet.proofs.Fills.{ReadSoFar}
use Rattle.sheet.proofs.reader.fill.Given as goal

abbrev pub invariant-loop-index : goal.invariant-loop-index
invariant-loop-index l = (ls : List Line) × ReadSoFar (length l.fn.records) l.index l.text l.rest (l.record-items ++ drop l.room l.fn.records) l.fn.records ls
