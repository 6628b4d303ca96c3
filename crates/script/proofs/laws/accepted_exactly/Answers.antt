use Rattle.script.proofs.Verdict.{accepted_exactly}
use Rattle.script.proofs.laws.accepted_exactly.Goals as goal

pub returns : goal.returns
returns c = accepted_exactly
