use Rattle.rule.proofs.Accepted.{fresh_never_shows}
use Rattle.rule.proofs.laws.fresh_never_shows.Goals as goal

pub returns : goal.returns
returns c = fresh_never_shows
