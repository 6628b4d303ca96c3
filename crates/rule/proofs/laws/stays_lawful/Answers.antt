use Rattle.rule.proofs.Lawful.{stays_lawful}
use Rattle.rule.proofs.laws.stays_lawful.Goals as goal

pub returns : goal.returns
returns c = stays_lawful
