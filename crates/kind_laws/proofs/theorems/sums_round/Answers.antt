use Rattle.kind_laws.proofs.Operations.{sum_rounds}
use Rattle.kind_laws.proofs.theorems.sums_round.Goals as goal

pub returns : goal.returns
returns c = sum_rounds
