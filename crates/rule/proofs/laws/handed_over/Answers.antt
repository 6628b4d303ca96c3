use Rattle.rule.proofs.Handed.{handed_over}
use Rattle.rule.proofs.laws.handed_over.Goals as goal

pub returns : goal.returns
returns c = handed_over
