use Rattle.std.proofs.Common.{rules, ◌≡◌, Err, sym, ap, ◌∙◌, subst}
use Rattle.calls.specs.declared.asked.Call.TheVariants.{Begin}
use Rattle.session.specs.Promise.{Keeps, to_begin}
use Rattle.session.specs.Runs.{numbered}
use Rattle.session.proofs.Keeping.{begin_models, keeps}
use Rattle.session.proofs.sessions.Session.begin.Goals as goal

pub returns-in_err-run-clause-promise : goal.returns-in_err-run-clause-promise
returns-in_err-run-clause-promise g c rs =
    let K = g.K.NumberKind.kind in
    let words = g.S.Store.words c.args.store.now in
    let r : c.from_residual.result ≡ Err c.in_err-run.field-0.0 = search rules in
    let e = c.begin_run.ensures in
    let same : c.begin_run.result ≡ numbered c.from_residual.result = c.in_err-run.was ∙ ap numbered (sym r) in
    subst (λ x. Keeps K rs Begin c.args.self.now words (to_begin x) c.begin_run.new.self words) same
    (keeps K rs g.met.K.NumberKind.laws Begin c.args.self.now c.begin_run.new.self words words (to_begin c.begin_run.result)
    (begin_models K rs words c.args.self.now c.begin_run.new.self c.begin_run.result e.answer e.session))

pub returns-clause-promise : goal.returns-clause-promise
returns-clause-promise g c rs =
    let K = g.K.NumberKind.kind in
    let words = g.S.Store.words c.args.store.now in
    let e = c.begin_run.ensures in
    subst (λ x. Keeps K rs Begin c.args.self.now words (to_begin x) c.begin_run.new.self words) c.in_ok-run.was
    (keeps K rs g.met.K.NumberKind.laws Begin c.args.self.now c.begin_run.new.self words words (to_begin c.begin_run.result)
    (begin_models K rs words c.args.self.now c.begin_run.new.self c.begin_run.result e.answer e.session))
