use Rattle.kind_laws.proofs.Operations.{product_rounds}
use Rattle.kind_laws.proofs.theorems.products_round.Goals as goal

pub returns : goal.returns
returns c = product_rounds
