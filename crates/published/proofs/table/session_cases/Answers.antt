use Rattle.published.proofs.Talked.{sessions_told}
use Rattle.published.proofs.table.session_cases.Goals as goal

pub returns : goal.returns
returns c = sessions_told
