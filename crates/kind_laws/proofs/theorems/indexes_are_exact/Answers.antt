use Rattle.kind_laws.proofs.Comparisons.{indexes}
use Rattle.kind_laws.proofs.theorems.indexes_are_exact.Goals as goal

pub returns : goal.returns
returns c = indexes
