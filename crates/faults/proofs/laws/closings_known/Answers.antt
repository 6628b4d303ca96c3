use Rattle.faults.proofs.Known.{closings_known}
use Rattle.faults.proofs.laws.closings_known.Goals as goal

pub returns : goal.returns
returns c = closings_known
