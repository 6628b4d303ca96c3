use Rattle.kind_laws.proofs.Operations.{difference_rounds}
use Rattle.kind_laws.proofs.theorems.differences_round.Goals as goal

pub returns : goal.returns
returns c = difference_rounds
