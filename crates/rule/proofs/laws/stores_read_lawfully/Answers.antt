use Rattle.rule.proofs.Handed.{stores_read_lawfully}
use Rattle.rule.proofs.laws.stores_read_lawfully.Goals as goal

pub returns : goal.returns
returns c = stores_read_lawfully
