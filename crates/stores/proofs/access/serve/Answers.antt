use Rattle.std.proofs.Common.{ap, ◌∙◌, arith}
use Rattle.stores.specs.Accesses.{after, reply}
use Rattle.stores.specs.declared.access.Access.TheVariants.{Size}
use Rattle.stores.proofs.Accessing.{of_front, stands_more, written_more}
use Rattle.stores.proofs.access.serve.Goals as goal

pub loop-i-preserved : goal.loop-i-preserved
loop-i-preserved g c =
    let e = c.answer.ensures in
    let qs = c.args.requests.now in
    let i = c.loop-i.i in
    let front = of_front _ i qs Size c.loop-i-test.true in
    let below = front.0 in
    let at = front.2 in
    let most = c.min-count.ensures in (
      written_more _ _ qs c.args.replies.now _ i Size _ (omega arith) (omega arith) c.loop-i.invariant.1 c.loop-i.invariant.0 (e.reply ∙ ap (reply (g.S.Store.words c.loop-i.store)) at),
      stands_more _ _ _ qs i Size (omega arith) c.loop-i.invariant.1 (e.words ∙ ap (after (g.S.Store.words c.loop-i.store)) at),
      e.lent ∙ c.loop-i.invariant.2,
    )
