use Rattle.calls.proofs.Counting.{begun_all}
use Rattle.calls.proofs.laws.begun_all.Goals as goal

pub returns : goal.returns
returns c = begun_all
