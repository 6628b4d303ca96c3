use Rattle.calls.proofs.Due.{determined}
use Rattle.calls.proofs.laws.determined.Goals as goal

pub returns : goal.returns
returns c = determined
