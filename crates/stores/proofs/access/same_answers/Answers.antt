use Rattle.std.proofs.Common.{◌∙◌, arith, rules}
use Rattle.stores.specs.declared.access.Access.TheVariants.{Size}
use Rattle.stores.proofs.Accessing.{stands_more, same_more}
use Rattle.stores.proofs.access.same_answers.Goals as goal

pub loop-request-preserved : goal.loop-request-preserved
loop-request-preserved g c =
    let inv = c.loop-request.invariant in
    let requests = c.args.requests.now in
    let i = c.loop-request.request-index in
    let e = c.answer-from_first.ensures in
    let f = c.answer-from_second.ensures in (
      same_more _ _ _ _ requests i Size _ _ _ _ (omega arith) inv.1 inv.3 e.reply f.reply inv.0 (search rules),
      stands_more _ _ _ requests i Size (omega arith) inv.1 e.words,
      e.lent ∙ inv.2,
      stands_more _ _ _ requests i Size (omega arith) inv.3 f.words,
      f.lent ∙ inv.4,
    )
