use Rattle.kind_laws.proofs.Comparisons.{order}
use Rattle.kind_laws.proofs.theorems.order_is_of_numbers.Goals as goal

pub returns : goal.returns
returns c = order
