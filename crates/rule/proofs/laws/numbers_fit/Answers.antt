use Rattle.rule.proofs.Tidy.{numbers_fit}
use Rattle.rule.proofs.laws.numbers_fit.Goals as goal

pub returns : goal.returns
returns c = numbers_fit
