use Rattle.kind_laws.proofs.Comparisons.{zero_constant}
use Rattle.kind_laws.proofs.theorems.zero_is_constant.Goals as goal

pub returns : goal.returns
returns c = zero_constant
