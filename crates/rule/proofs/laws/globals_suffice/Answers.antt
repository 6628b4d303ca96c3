use Rattle.rule.proofs.Inner.{globals_suffice}
use Rattle.rule.proofs.laws.globals_suffice.Goals as goal

pub returns : goal.returns
returns c = globals_suffice
