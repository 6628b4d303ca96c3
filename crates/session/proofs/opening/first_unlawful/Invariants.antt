use Rattle.session.proofs.Passing.{Passed}
use Rattle.session.proofs.opening.first_unlawful.Given as goal

abbrev pub invariant-loop-index : goal.invariant-loop-index
invariant-loop-index g l = Passed g.K.NumberKind.kind l.records (g.S.Store.words l.store) l.index l.first
