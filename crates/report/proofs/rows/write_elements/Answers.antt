use Rattle.std.proofs.Common.{◌++◌, arith}
use Rattle.report.specs.Rows.{element_rows}
use Rattle.report.proofs.Globals.{element_more}
use Rattle.report.proofs.rows.write_elements.Goals as goal

pub loop-index-preserved : goal.loop-index-preserved
loop-index-preserved g c =
    let words = g.S.Store.words c.args.store.now in
    let inv = c.loop-index.invariant in
    record {
      len = omega (arith, inv.len, c.write_row.ensures.len);
      capacity = omega (arith, inv.capacity, c.write_row.ensures.capacity);
      items = element_more words c.args.name c.args.first c.loop-index.index c.args.length c.loop-index.lines.items
          (c.args.lines.now.items ++ element_rows words c.args.name 0 c.args.first c.args.length) inv.items
          c.write_row.new.lines.items c.word_at-word.result c.loop-index-test.true c.word_at-word.ensures c.write_row.ensures.items;
    }
