use Rattle.std.proofs.Common.{◌+◌, sym, subst, arith}
use Rattle.acceptance.proofs.Cells.{Counted, counted_end, counted_first, counted_stop, counted_turn}
use Rattle.acceptance.proofs.Listing.{blank}
use Rattle.acceptance.proofs.globals.cells_taken.Goals as goal

pub loop-record-init : goal.loop-record-init
loop-record-init c = (omega arith, counted_first c.args.records.now)

pub loop-record-preserved : goal.loop-record-preserved
loop-record-preserved c = (
  omega (arith, c.loop-record.invariant.0, c.cells_of-taken.ensures.few),
  subst (λ k. Counted c.args.records.now (c.loop-record.record-index + 1) (c.loop-record.taken + k)) (sym c.cells_of-taken.ensures.is)
      (counted_turn c.args.records.now c.loop-record.record-index c.loop-record.taken c.loop-record.invariant.1 blank c.loop-record-test.true c.in-Global.name c.in-Global.length c.in-Global.is),
)

pub returns-in_default : goal.returns-in_default
returns-in_default c =
    counted_stop c.args.records.now c.loop-record.record-index c.loop-record.taken c.loop-record.invariant.1 blank c.loop-record-test.true c.in_default.not-Global

pub returns : goal.returns
returns c = counted_end c.args.records.now c.loop-record.record-index c.loop-record.taken c.loop-record.invariant.1 c.loop-record-test.false
