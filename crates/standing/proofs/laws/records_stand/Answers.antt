use Rattle.standing.proofs.Stand.{records_stand}
use Rattle.standing.proofs.laws.records_stand.Goals as goal

pub returns : goal.returns
returns c = records_stand
