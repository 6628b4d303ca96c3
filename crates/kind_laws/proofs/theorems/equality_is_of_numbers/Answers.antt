use Rattle.kind_laws.proofs.Comparisons.{equality}
use Rattle.kind_laws.proofs.theorems.equality_is_of_numbers.Goals as goal

pub returns : goal.returns
returns c = equality
