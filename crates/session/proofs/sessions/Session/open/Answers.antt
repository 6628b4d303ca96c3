use Rattle.std.proofs.Common.{ℕ, Ok, Err, sym, ap, refl, subst, arith}
use Rattle.acceptance.specs.Sheet.{lines_of}
use Rattle.calls.specs.declared.asked.Call.TheVariants.{Open}
use Rattle.calls.specs.declared.causes.SessionCause.TheVariants.{UnlawfulGlobal}
use Rattle.calls.specs.Globals.{FirstUnlawful, Unlawful}
use Rattle.calls.specs.Openings.{Opens, too_small, unlawful, opens}
use Rattle.calls.proofs.Opening.{one_opening}
use Rattle.session.specs.Promise.{setting, to_open}
use Rattle.session.specs.Sessions.{at_rest, none}
use Rattle.session.proofs.Keeping.{keeps, open_models}
use Rattle.session.proofs.sessions.Session.open.Goals as goal

pub returns-then-size-cells-clause-answer : goal.returns-then-size-cells-clause-answer
returns-then-size-cells-clause-answer g c =
    let K = g.K.NumberKind.kind in
    let words = g.S.Store.words c.args.store.now in
    subst (λ r. Opens K (lines_of c.args.script.now) words (Err r)) (sym c.without_line.ensures)
    (too_small (omega (arith, c.if-size-cells.true, c.cells.ensures, c.size.ensures.size)))

pub returns-then-size-cells-clause-only : goal.returns-then-size-cells-clause-only
returns-then-size-cells-clause-only g c s h =
    one_opening g.K.NumberKind.kind (lines_of c.args.script.now) (g.S.Store.words c.args.store.now) (Err c.without_line.result) s
    (returns-then-size-cells-clause-answer g c) h

pub returns-then-size-cells-clause-promise : goal.returns-then-size-cells-clause-promise
returns-then-size-cells-clause-promise g c held =
    let K = g.K.NumberKind.kind in
    let rs = c.args.script.now in
    let words = g.S.Store.words c.args.store.now in
    keeps K rs g.met.K.NumberKind.laws Open held none words words (to_open (Err c.without_line.result))
    (open_models K rs held none words (Err c.without_line.result) (returns-then-size-cells-clause-answer g c) refl)

pub returns-in-Some-clause-answer : goal.returns-in-Some-clause-answer
returns-in-Some-clause-answer g c =
    unlawful (omega (arith, c.if-size-cells.false, c.cells.ensures, c.size.ensures.size))
    (subst (λ rs. FirstUnlawful g.K.NumberKind.kind (lines_of rs) (g.S.Store.words c.args.store.now) c.in-Some.line) c.records-records.ensures.is c.in-Some.ensures)

pub returns-in-Some-clause-only : goal.returns-in-Some-clause-only
returns-in-Some-clause-only g c s h =
    one_opening g.K.NumberKind.kind (lines_of c.args.script.now) (g.S.Store.words c.args.store.now) (Err (record { cause = UnlawfulGlobal; line = c.in-Some.line })) s
    (returns-in-Some-clause-answer g c) h

pub returns-in-Some-clause-promise : goal.returns-in-Some-clause-promise
returns-in-Some-clause-promise g c held =
    let K = g.K.NumberKind.kind in
    let rs = c.args.script.now in
    let words = g.S.Store.words c.args.store.now in
    keeps K rs g.met.K.NumberKind.laws Open held none words words (to_open (Err (record { cause = UnlawfulGlobal; line = c.in-Some.line })))
    (open_models K rs held none words (Err (record { cause = UnlawfulGlobal; line = c.in-Some.line })) (returns-in-Some-clause-answer g c) refl)

pub returns-clause-answer : goal.returns-clause-answer
returns-clause-answer g c =
    opens (omega (arith, c.if-size-cells.false, c.cells.ensures, c.size.ensures.size))
    (subst (λ rs. (n : ℕ) → ¬ (Unlawful g.K.NumberKind.kind (lines_of rs) (g.S.Store.words c.args.store.now) n)) c.records-records.ensures.is c.in_default.ensures)

pub returns-clause-only : goal.returns-clause-only
returns-clause-only g c s h =
    one_opening g.K.NumberKind.kind (lines_of c.args.script.now) (g.S.Store.words c.args.store.now) (Ok tt) s (returns-clause-answer g c) h

pub returns-clause-promise : goal.returns-clause-promise
returns-clause-promise g c held =
    let K = g.K.NumberKind.kind in
    let rs = c.args.script.now in
    let words = g.S.Store.words c.args.store.now in
    let opened = at_rest (setting rs c.size-2.result 0) in
    keeps K rs g.met.K.NumberKind.laws Open held opened words words (to_open (Ok tt))
    (open_models K rs held opened words (Ok tt) (returns-clause-answer g c) (ap (λ n. at_rest (setting rs n 0)) c.size-2.ensures.size))
