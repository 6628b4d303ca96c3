use Rattle.std.proofs.Common.{ap, ◌∙◌}
use Rattle.calls.specs.declared.asked.Call.TheVariants.{Post}
use Rattle.session.specs.Promise.{to_post}
use Rattle.session.specs.Sessions.{after_post, post_into}
use Rattle.session.proofs.Keeping.{keeps, post_models}
use Rattle.session.proofs.sessions.Session.post.Goals as goal

pub returns-clause-promise : goal.returns-clause-promise
returns-clause-promise g c rs =
    let K = g.K.NumberKind.kind in
    let words = g.S.Store.words c.args.store.now in
    let words' = g.S.Store.words c.put_word.new.store in
    let e = c.put_word.ensures in
    keeps K rs g.met.K.NumberKind.laws (Post c.args.global c.args.word) c.args.self.now c.args.self.now words words' (to_post c.put_word.result)
    (post_models K rs words c.args.global c.args.word c.args.self.now words' c.put_word.result
    (e.answer ∙ ap (post_into K words c.args.word) c.cell.ensures)
    (e.words ∙ ap (λ x. after_post words x c.args.word c.put_word.result) c.cell.ensures))
