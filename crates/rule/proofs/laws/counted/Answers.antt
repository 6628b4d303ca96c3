use Rattle.rule.proofs.Count.{counted}
use Rattle.rule.proofs.laws.counted.Goals as goal

pub returns : goal.returns
returns c = counted
