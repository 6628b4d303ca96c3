use Rattle.calls.specs.declared.asked.Call.TheVariants.{Grant}
use Rattle.session.specs.Promise.{to_grant}
use Rattle.session.proofs.Keeping.{grant_models, keeps}
use Rattle.session.proofs.sessions.Session.grant.Goals as goal

pub returns-clause-promise : goal.returns-clause-promise
returns-clause-promise g c rs =
    let K = g.K.NumberKind.kind in
    let words = g.S.Store.words c.args.store.now in
    let words' = g.S.Store.words c.grant_run.new.store in
    keeps K rs g.met.K.NumberKind.laws (Grant c.args.ticket.now.run c.args.count) c.args.self.now c.grant_run.new.self words words' (to_grant c.grant_run.result)
    (grant_models K rs c.args.self.now c.grant_run.new.self words words' c.args.ticket.now.run c.args.count c.grant_run.result c.grant_run.ensures.refused c.grant_run.ensures.granted)
