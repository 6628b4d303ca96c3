use Rattle.std.proofs.Common.{ap, ◌∙◌}
use Rattle.calls.specs.declared.asked.Call.TheVariants.{Reading}
use Rattle.session.specs.Promise.{to_reading}
use Rattle.session.specs.Sessions.{reading_of}
use Rattle.session.proofs.Keeping.{keeps, reading_models}
use Rattle.session.proofs.sessions.Session.reading.Goals as goal

pub returns-clause-promise : goal.returns-clause-promise
returns-clause-promise g c rs =
    let K = g.K.NumberKind.kind in
    let words = g.S.Store.words c.args.store.now in
    keeps K rs g.met.K.NumberKind.laws (Reading c.args.global) c.args.self.now c.args.self.now words words (to_reading c.word_of.result)
    (reading_models K rs words c.args.global c.args.self.now c.word_of.result (c.word_of.ensures ∙ ap (reading_of K words) c.cell.ensures))
