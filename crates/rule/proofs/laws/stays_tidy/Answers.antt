use Rattle.rule.proofs.Tidy.{stays_tidy}
use Rattle.rule.proofs.laws.stays_tidy.Goals as goal

pub returns : goal.returns
returns c = stays_tidy
