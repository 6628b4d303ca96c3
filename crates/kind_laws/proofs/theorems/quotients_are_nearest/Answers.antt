use Rattle.kind_laws.proofs.Quotients.{quotients}
use Rattle.kind_laws.proofs.theorems.quotients_are_nearest.Goals as goal

pub returns : goal.returns
returns c = quotients
