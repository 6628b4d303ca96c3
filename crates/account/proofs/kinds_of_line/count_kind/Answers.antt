use Rattle.std.proofs.Common.{rules}
use Rattle.account.proofs.kinds_of_line.count_kind.Goals as goal

pub returns : goal.returns
returns c = search rules
