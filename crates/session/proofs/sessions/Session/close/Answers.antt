use Rattle.std.proofs.Common.{subst}
use Rattle.calls.specs.declared.asked.Call.TheVariants.{Close}
use Rattle.session.specs.Promise.{Keeps, to_close}
use Rattle.session.proofs.Keeping.{close_models, keeps}
use Rattle.session.proofs.sessions.Session.close.Goals as goal

pub returns-in-Ok-clause-promise : goal.returns-in-Ok-clause-promise
returns-in-Ok-clause-promise g c rs =
    let K = g.K.NumberKind.kind in
    let words = g.S.Store.words c.args.store.now in
    let i = c.args.ticket.run in
    let e = c.close_run.ensures in
    subst (λ x. Keeps K rs (Close i) c.args.self.now words (to_close x) c.close_run.new.self words) c.in-Ok.is
    (keeps K rs g.met.K.NumberKind.laws (Close i) c.args.self.now c.close_run.new.self words words (to_close c.close_run.result)
    (close_models K rs words i c.args.self.now c.close_run.new.self c.close_run.result e.answer e.session))

pub returns-in-Err-clause-promise : goal.returns-in-Err-clause-promise
returns-in-Err-clause-promise g c rs =
    let K = g.K.NumberKind.kind in
    let words = g.S.Store.words c.args.store.now in
    let i = c.args.ticket.run in
    let e = c.close_run.ensures in
    subst (λ x. Keeps K rs (Close i) c.args.self.now words (to_close x) c.close_run.new.self words) c.in-Err.is
    (keeps K rs g.met.K.NumberKind.laws (Close i) c.args.self.now c.close_run.new.self words words (to_close c.close_run.result)
    (close_models K rs words i c.args.self.now c.close_run.new.self c.close_run.result e.answer e.session))
