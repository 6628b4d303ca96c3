use Rattle.rule.proofs.Local.{runs_locally}
use Rattle.rule.proofs.laws.runs_locally.Goals as goal

pub returns : goal.returns
returns c = runs_locally
