use Rattle.calls.proofs.Alike.{two_sessions}
use Rattle.calls.proofs.laws.two_sessions.Goals as goal

pub returns : goal.returns
returns c = two_sessions
