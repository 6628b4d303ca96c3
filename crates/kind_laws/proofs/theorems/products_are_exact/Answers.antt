use Rattle.kind_laws.proofs.Fittings.{products}
use Rattle.kind_laws.proofs.theorems.products_are_exact.Goals as goal

pub returns : goal.returns
returns c = products
