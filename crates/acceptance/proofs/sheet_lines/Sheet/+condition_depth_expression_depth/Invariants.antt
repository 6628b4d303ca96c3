use Rattle.std.proofs.Common.{◌+◌, ◌*◌}
use Rattle.acceptance.proofs.sheet_lines.Sheet.+condition_depth_expression_depth.Given as goal

-- line n comes before what is below it, and that before the line that it is
abbrev pub decreases-condition_depth : goal.decreases-condition_depth
decreases-condition_depth l = 2 * l.n + 1

abbrev pub decreases-expression_depth : goal.decreases-expression_depth
decreases-expression_depth l = 2 * l.n + 1

abbrev pub decreases-condition_below : goal.decreases-condition_below
decreases-condition_below l = 2 * l.n

abbrev pub decreases-expression_below : goal.decreases-expression_below
decreases-expression_below l = 2 * l.n
