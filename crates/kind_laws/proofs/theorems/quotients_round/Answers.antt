use Rattle.kind_laws.proofs.Operations.{quotient_rounds}
use Rattle.kind_laws.proofs.theorems.quotients_round.Goals as goal

pub returns : goal.returns
returns c = quotient_rounds
