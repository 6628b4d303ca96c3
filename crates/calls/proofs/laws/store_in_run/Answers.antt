use Rattle.calls.proofs.Stored.{store_in_run}
use Rattle.calls.proofs.laws.store_in_run.Goals as goal

pub returns : goal.returns
returns c = store_in_run
