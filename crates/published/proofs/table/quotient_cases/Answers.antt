use Rattle.published.proofs.Computed.{quotients_told}
use Rattle.published.proofs.table.quotient_cases.Goals as goal

pub returns : goal.returns
returns c = quotients_told
