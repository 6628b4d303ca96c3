use Rattle.std.proofs.Common.{◌++◌, refl, arith}
use Rattle.script.specs.Apart.{heads}
use Rattle.acceptance.specs.Sheet.{lines_of}
use Rattle.acceptance.proofs.Cells.{counted_first}
use Rattle.report.specs.Rows.{rows_from}
use Rattle.report.proofs.Globals.{globals_stop}
use Rattle.report.proofs.rows.write_globals.Goals as goal

pub loop-record-init : goal.loop-record-init
loop-record-init g c = record { small = omega arith; counted = counted_first c.args.records.now; len = omega arith; capacity = omega arith; items = refl }

pub returns-in_default : goal.returns-in_default
returns-in_default g c =
    let words = g.S.Store.words c.args.store.now in
    globals_stop words c.args.records.now c.loop-record.record-index c.loop-record.first c.loop-record.lines.items
    (c.args.lines.now.items ++ rows_from words 0 (heads (lines_of c.args.records.now))) c.loop-record.invariant.items c.loop-record-test.true c.in_default.not-Global
