use Rattle.std.proofs.Common.{rules, length, ◌-◌}
use Rattle.field.proofs.Cards.{written_more}
use Rattle.field.proofs.card.write_report.Goals as goal

pub loop-written-preserved : goal.loop-written-preserved
loop-written-preserved g c =
    let w = c.loop-written.written in
    let report = c.args.report.now in record {
      within = search rules;
      taken = written_more _ _ _ w c.in_ok-count.count (length report - w) report c.in_ok-count.ensures.within c.loop-written.invariant.taken c.in_ok-count.ensures.taken;
    }
