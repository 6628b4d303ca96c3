use Rattle.kind_laws.proofs.Fittings.{differences}
use Rattle.kind_laws.proofs.theorems.differences_are_exact.Goals as goal

pub returns : goal.returns
returns c = differences
