use Rattle.script.proofs.Verdict.{one_verdict}
use Rattle.script.proofs.laws.one_verdict.Goals as goal

pub returns : goal.returns
returns c = one_verdict
