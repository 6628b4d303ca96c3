use Rattle.std.proofs.Common.{sym}
use Rattle.calls.specs.declared.asked.Call.TheVariants.{Open, Post, Reading, Begin, Grant, Close}
use Rattle.session.specs.Promise.{to_begin, to_close, to_grant, to_open, to_post, to_reading}
use Rattle.session.proofs.Keeping.{begin_models, close_models, grant_models, keeps, keeps_as}
use Rattle.session.proofs.sessions.Session.make.Goals as goal

pub returns-in-Open-clause-promise : goal.returns-in-Open-clause-promise
returns-in-Open-clause-promise g c =
    let words = g.S.Store.words c.args.store.now in
    keeps_as g.K.NumberKind.kind c.args.script.now Open c.args.call (to_open c.open.result) c.to_open.result c.args.self.now c.open.new.self words words
    (sym c.in-Open.is) (sym c.to_open.ensures) (c.open.ensures.promise c.args.self.now)

pub returns-in-Post-clause-promise : goal.returns-in-Post-clause-promise
returns-in-Post-clause-promise g c =
    keeps_as g.K.NumberKind.kind c.args.script.now (Post c.in-Post.global c.in-Post.word) c.args.call (to_post c.post.result) c.to_post.result c.args.self.now c.args.self.now
    (g.S.Store.words c.args.store.now) (g.S.Store.words c.post.new.store) (sym c.in-Post.is) (sym c.to_post.ensures) (c.post.ensures.promise c.args.script.now)

pub returns-in-Reading-clause-promise : goal.returns-in-Reading-clause-promise
returns-in-Reading-clause-promise g c =
    keeps_as g.K.NumberKind.kind c.args.script.now (Reading c.in-Reading.global) c.args.call (to_reading c.reading.result) c.to_reading.result c.args.self.now c.args.self.now
    (g.S.Store.words c.args.store.now) (g.S.Store.words c.args.store.now) (sym c.in-Reading.is) (sym c.to_reading.ensures) (c.reading.ensures.promise c.args.script.now)

pub returns-in-Begin-clause-promise : goal.returns-in-Begin-clause-promise
returns-in-Begin-clause-promise g c =
    let K = g.K.NumberKind.kind in
    let rs = c.args.script.now in
    let words = g.S.Store.words c.args.store.now in
    let e = c.begin_run.ensures in
    keeps_as K rs Begin c.args.call (to_begin c.begin_run.result) c.to_begin.result c.args.self.now c.begin_run.new.self words words (sym c.in-Begin.is) (sym c.to_begin.ensures)
    (keeps K rs g.met.K.NumberKind.laws Begin c.args.self.now c.begin_run.new.self words words (to_begin c.begin_run.result)
    (begin_models K rs words c.args.self.now c.begin_run.new.self c.begin_run.result e.answer e.session))

pub returns-in-Grant-clause-promise : goal.returns-in-Grant-clause-promise
returns-in-Grant-clause-promise g c =
    let K = g.K.NumberKind.kind in
    let rs = c.args.script.now in
    let words = g.S.Store.words c.args.store.now in
    let words' = g.S.Store.words c.grant_run.new.store in
    let e = c.grant_run.ensures in
    let q = Grant c.in-Grant.ticket c.in-Grant.count in
    keeps_as K rs q c.args.call (to_grant c.grant_run.result) c.to_grant.result c.args.self.now c.grant_run.new.self words words' (sym c.in-Grant.is) (sym c.to_grant.ensures)
    (keeps K rs g.met.K.NumberKind.laws q c.args.self.now c.grant_run.new.self words words' (to_grant c.grant_run.result)
    (grant_models K rs c.args.self.now c.grant_run.new.self words words' c.in-Grant.ticket c.in-Grant.count c.grant_run.result e.refused e.granted))

pub returns-in-Close-clause-promise : goal.returns-in-Close-clause-promise
returns-in-Close-clause-promise g c =
    let K = g.K.NumberKind.kind in
    let rs = c.args.script.now in
    let words = g.S.Store.words c.args.store.now in
    let e = c.close_run.ensures in
    let q = Close c.in-Close.ticket in
    keeps_as K rs q c.args.call (to_close c.close_run.result) c.to_close.result c.args.self.now c.close_run.new.self words words (sym c.in-Close.is) (sym c.to_close.ensures)
    (keeps K rs g.met.K.NumberKind.laws q c.args.self.now c.close_run.new.self words words (to_close c.close_run.result)
    (close_models K rs words c.in-Close.ticket c.args.self.now c.close_run.new.self c.close_run.result e.answer e.session))
