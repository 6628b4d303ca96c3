use Rattle.published.proofs.Computed.{told_apart}
use Rattle.published.proofs.table.scope_cases.Goals as goal

pub returns : goal.returns
returns c = told_apart
