use Rattle.faults.proofs.Endings.{endings_told}
use Rattle.faults.proofs.laws.endings_told.Goals as goal

pub returns : goal.returns
returns c = endings_told
