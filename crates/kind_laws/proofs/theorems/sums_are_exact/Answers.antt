use Rattle.kind_laws.proofs.Fittings.{sums}
use Rattle.kind_laws.proofs.theorems.sums_are_exact.Goals as goal

pub returns : goal.returns
returns c = sums
