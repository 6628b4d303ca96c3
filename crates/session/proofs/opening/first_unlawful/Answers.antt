use Rattle.std.proofs.Common.{◌+◌, ◌<◌, ◌≤◌, sym, subst, arith}
use Rattle.std.proofs.lemmas.List.{at_drop_all}
use Rattle.script.specs.Apart.{heads}
use Rattle.acceptance.specs.Sheet.{lines_of}
use Rattle.acceptance.proofs.Listing.{blank}
use Rattle.session.proofs.Passing.{Lawful, Passed, nothing_more, passed_all, passed_first, passed_more, unlawful_here}
use Rattle.session.proofs.opening.first_unlawful.Goals as goal

pub loop-index-init : goal.loop-index-init
loop-index-init g c = passed_first g.K.NumberKind.kind c.args.records.now (g.S.Store.words c.args.store.now)

pub loop-index-preserved : goal.loop-index-preserved
loop-index-preserved g c =
    let K = g.K.NumberKind.kind in
    let words = g.S.Store.words c.args.store.now in
    let count = c.cells_of-count.ensures.is in
    subst (λ n. Passed K c.args.records.now words (c.loop-index.index + 1) (c.loop-index.first + n)) (sym count)
    (passed_more K c.args.records.now words c.loop-index.index c.loop-index.first c.loop-index.invariant blank c.loop-index-test.true
    c.in-Global.name c.in-Global.length c.in-Global.is (subst (λ n. n ≤ 65535) count c.cells_of-count.ensures.few)
    (subst (λ n. Lawful K words c.loop-index.first (c.loop-index.first + n)) count c.in-None.ensures))

pub returns-in_default-unlawful_cell : goal.returns-in_default-unlawful_cell
returns-in_default-unlawful_cell g c =
    let K = g.K.NumberKind.kind in
    let words = g.S.Store.words c.args.store.now in
    let p = c.loop-index.invariant in
    let found = c.in_default-unlawful_cell.ensures in (
      unlawful_here K c.args.records.now words c.loop-index.index c.loop-index.first p blank c.loop-index-test.true
          c.in-Global.name c.in-Global.length c.in-Global.is c.in_default-unlawful_cell.field-0 found.0
          (subst (λ n. c.in_default-unlawful_cell.field-0 < c.loop-index.first + n) c.cells_of-count.ensures.is found.1) found.2,
      λ m q. p.lawful m (omega (arith, q)),
    )

pub returns-in_default : goal.returns-in_default
returns-in_default g c =
    let p = c.loop-index.invariant in
    let K = g.K.NumberKind.kind in
    let words = g.S.Store.words c.args.store.now in
    passed_all K c.args.records.now words c.loop-index.index c.loop-index.first p
    (nothing_more K c.args.records.now words c.loop-index.index c.loop-index.first p blank c.loop-index-test.true c.in_default.not-Global)

pub returns : goal.returns
returns g c =
    passed_all g.K.NumberKind.kind c.args.records.now (g.S.Store.words c.args.store.now) c.loop-index.index c.loop-index.first c.loop-index.invariant
    (at_drop_all (λ us. heads (lines_of us)) c.args.records.now c.loop-index.index c.loop-index-test.false)
