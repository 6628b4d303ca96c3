use Rattle.rule.proofs.Agree.{agrees}
use Rattle.rule.proofs.laws.rule_agrees.Goals as goal

pub returns : goal.returns
returns c = agrees
