use Rattle.card_vectors.proofs.Further.{further}
use Rattle.card_vectors.proofs.cases.take_lines.Goals as goal

pub loop-preserved : goal.loop-preserved
loop-preserved c =
    further 10 c.in_ok-head.lines.now c.loop.invariant.0 c.loop.rest.now c.in_ok-rest.field-0-0.now c.in_ok-rest.field-0-1.now c.loop.invariant.1 c.in_ok-rest.ensures
