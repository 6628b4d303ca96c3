use Rattle.rule.proofs.Inner.{closings_alike}
use Rattle.rule.proofs.laws.closings_alike.Goals as goal

pub returns : goal.returns
returns c = closings_alike
