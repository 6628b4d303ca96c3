use Rattle.calls.proofs.Replies.{one_reply}
use Rattle.calls.proofs.laws.one_reply.Goals as goal

pub returns : goal.returns
returns c = one_reply
