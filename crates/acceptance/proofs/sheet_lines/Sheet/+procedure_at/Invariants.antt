use Rattle.std.proofs.Common.{◌+◌, ◌*◌}
use Rattle.acceptance.proofs.sheet_lines.Sheet.+procedure_at.Given as goal

-- line d comes before what is below it, and that before the line that it is
abbrev pub decreases-procedure_at : goal.decreases-procedure_at
decreases-procedure_at l = 2 * l.d + 1

abbrev pub decreases-procedure_below : goal.decreases-procedure_below
decreases-procedure_below l = 2 * l.d
