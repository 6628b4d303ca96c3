use Rattle.std.proofs.Common.{◌+◌}
use Rattle.session.proofs.Passing.{Lawful}
use Rattle.session.proofs.opening.unlawful_cell.Given as goal

abbrev pub invariant-loop-offset : goal.invariant-loop-offset
invariant-loop-offset g l = Lawful g.K.NumberKind.kind (g.S.Store.words l.store) l.first (l.first + l.offset)
