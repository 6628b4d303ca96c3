use Rattle.rule.proofs.Count.{stays}
use Rattle.rule.proofs.laws.more_allowance_changes_nothing.Goals as goal

pub returns : goal.returns
returns c = stays
