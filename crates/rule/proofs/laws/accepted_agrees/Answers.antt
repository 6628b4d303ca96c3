use Rattle.rule.proofs.Accepted.{accepted_agrees}
use Rattle.rule.proofs.laws.accepted_agrees.Goals as goal

pub returns : goal.returns
returns c = accepted_agrees
