use Rattle.std.proofs.Common.{List}
use Rattle.lines.specs.declared.records.Record.{Record}
use Rattle.script.specs.Names.{Names}
use Rattle.rule.specs.Machine.{Item}
use Rattle.engine.specs.Levels.{Waiting}
use Rattle.engine.proofs.levels.Engine.next.Given as goal

-- the levels not yet looked at hold all the items
abbrev pub invariant-loop-level : goal.invariant-loop-level
invariant-loop-level l = (G : Names) (rs : List Record) (ps : List Item) → Waiting G rs l.self.frames l.self.height ps → Waiting G rs l.self.frames l.level ps
