use Rattle.std.proofs.Common.{take}
use Rattle.std.proofs.lemmas.Result.{IfOk-weaker}
use Rattle.call_vectors.proofs.told.Goals as goal

pub returns : goal.returns
returns g c = IfOk-weaker c.lines_text.result _ _ (λ text spelled. record {
  calls = take c.play-made.result c.args.calls.now;
  replies = take c.play-made.result c.play-made.new.replies;
  spelled = spelled;
  given = λ a. c.play-made.ensures.promise a;
}) c.lines_text.ensures
