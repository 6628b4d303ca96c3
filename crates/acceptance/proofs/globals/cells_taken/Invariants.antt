use Rattle.std.proofs.Common.{◌≤◌, ◌*◌}
use Rattle.acceptance.proofs.Cells.{Counted}
use Rattle.acceptance.proofs.globals.cells_taken.Given as goal

abbrev pub invariant-loop-record : goal.invariant-loop-record
invariant-loop-record l = (l.taken ≤ 65535 * l.record-index) × Counted l.records l.record-index l.taken
