use Rattle.kind_laws.proofs.Comparisons.{constants}
use Rattle.kind_laws.proofs.theorems.constants_are_exact.Goals as goal

pub returns : goal.returns
returns c = constants
