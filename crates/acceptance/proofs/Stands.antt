-- The records of an accepted script stand for its text, its declarations told apart.
use Rattle.std.proofs.Common.{List, ℤ}
use Rattle.lines.specs.declared.records.Record.{Record}
use Rattle.standing.specs.Laws.{StandsFor}
use Rattle.standing.proofs.Stand.{records_stand}
use Rattle.acceptance.specs.Sheet.{lines_of}
use Rattle.acceptance.specs.Scripts.{Accepted}

pub accepted_stands : (low high : ℤ) (rs : List Record) (a : Accepted low high rs) → StandsFor low high (lines_of rs) a.script rs
accepted_stands low high rs a = records_stand low high (lines_of rs) a.script rs a.resolved
