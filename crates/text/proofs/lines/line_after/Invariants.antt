use Rattle.std.proofs.Common.{◌≡◌, ◌-◌}
use Rattle.std.specs.List.{slice_get}
use Rattle.text.specs.Lines.{rows, if_closed}
use Rattle.text.proofs.lines.line_after.Given as goal

abbrev pub invariant-loop-passed : goal.invariant-loop-passed
invariant-loop-passed l = if_closed (slice_get (rows l.text) l.others) ≡ if_closed (slice_get (rows l.rest) (l.others - l.passed))
