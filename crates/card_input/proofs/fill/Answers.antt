use Rattle.std.proofs.Common.{rules}
use Rattle.std.proofs.KnownBytes.{Consumes-nil}
use Rattle.card_input.proofs.Filling.{given_more, given_none, lost, on_err}
use Rattle.card_input.proofs.fill.Goals as goal

pub loop-filled-init : goal.loop-filled-init
loop-filled-init g c = record { size = search rules; within = search rules; given = Consumes-nil _ }

pub returns-in_err-count-clause-failed : goal.returns-in_err-count-clause-failed
returns-in_err-count-clause-failed g c =
    let before = c.loop-filled.invariant in
    on_err c.from_residual.result (lost _ _ _ _ c.loop-filled.filled c.loop-filled.room before.within before.size before.given c.in_err-count.ensures.failed)

pub loop-filled-preserved : goal.loop-filled-preserved
loop-filled-preserved g c =
    let before = c.loop-filled.invariant in
    let read = c.in_ok-count.ensures in
    record {
      size = search rules;
      within = search rules;
      given = given_more _ _ _ c.loop-filled.filled c.in_ok-count.count c.loop-filled.room c.read_once.new.room before.within read.within.0 before.given read.given;
    }

pub returns-then-count-eq0-clause-given : goal.returns-then-count-eq0-clause-given
returns-then-count-eq0-clause-given g c =
    let before = c.loop-filled.invariant in
    let read = c.in_ok-count.ensures in
    given_none _ _ _ c.loop-filled.filled c.in_ok-count.count c.loop-filled.room c.read_once.new.room before.within read.within.0 c.if-count-eq0.true before.given read.given
