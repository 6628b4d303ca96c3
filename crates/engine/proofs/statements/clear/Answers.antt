use Rattle.std.proofs.Common.{◌+◌, length, ap, ◌∙◌, length-set}
use Rattle.engine.proofs.Clearing.{clear_more}
use Rattle.engine.proofs.statements.clear.Goals as goal

pub loop-i-preserved : goal.loop-i-preserved
loop-i-preserved g c =
    let a = c.args in
    let σ = g.S.Store.words c.loop-i.store in
    let i = c.loop-i.i in (
      clear_more a.count i a.first a.word σ (g.S.Store.words c.put.new.self) c.loop-i-test.true c.put.ensures.words ∙ c.loop-i.invariant.0,
      ap length c.put.ensures.words ∙ length-set σ (a.first + i) a.word ∙ c.loop-i.invariant.1,
      c.put.ensures.lent ∙ c.loop-i.invariant.2,
    )
