use Rattle.published.proofs.Computed.{published}
use Rattle.published.proofs.table.published_cases.Goals as goal

pub returns : goal.returns
returns c = published
