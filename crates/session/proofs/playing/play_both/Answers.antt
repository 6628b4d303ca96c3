use Rattle.std.proofs.Common.{◌≡◌, ◌≤◌, length, take, drop, subst, sym, ◌∙◌, arith}
use Rattle.calls.proofs.Alike.{two_sessions}
use Rattle.session.specs.Promise.{Talked}
use Rattle.session.proofs.Both.{made_all, replied_alike, talked_again}
use Rattle.session.proofs.playing.play_both.Goals as goal

pub returns-clause-first_promise : goal.returns-clause-first_promise
returns-clause-first_promise g c a =
    let n = c.min.result in
    let calls = c.args.calls.now in
    let few : n ≤ length calls = omega (arith, c.min.ensures) in
    let first : n ≤ length c.args.first_replies.now = omega (arith, c.min.ensures, c.min-most.ensures) in
    let second : n ≤ length c.args.second_replies.now = omega (arith, c.min.ensures, c.min-most.ensures) in
    talked_again g.K.NumberKind.kind c.args.script.now a (g.S.Store.words c.args.first.now) (g.S.Store.words c.play.new.store) calls c.play.new.replies
    n c.play.result c.play-2.result (made_all n (length c.args.first_replies.now) c.play.result calls few first c.play.ensures.count)
    (made_all n (length c.args.second_replies.now) c.play-2.result calls few second c.play-2.ensures.count) (c.play.ensures.promise a)

pub returns-clause-second_promise : goal.returns-clause-second_promise
returns-clause-second_promise g c a =
    let n = c.min.result in
    let calls = c.args.calls.now in
    let few : n ≤ length calls = omega (arith, c.min.ensures) in
    let second : n ≤ length c.args.second_replies.now = omega (arith, c.min.ensures, c.min-most.ensures) in
    let made : c.play-2.result ≡ n = made_all n (length c.args.second_replies.now) c.play-2.result calls few second c.play-2.ensures.count in
    talked_again g.K.NumberKind.kind c.args.script.now a (g.T.Store.words c.args.second.now) (g.T.Store.words c.play-2.new.store) calls c.play-2.new.replies
    n c.play-2.result c.play-2.result made made (c.play-2.ensures.promise a)

pub returns-clause-alike : goal.returns-clause-alike
returns-clause-alike g c same =
    let a = c.play.ensures.accepted in
    replied_alike g.K.NumberKind.kind c.args.script.now a (g.S.Store.words c.args.first.now) (g.T.Store.words c.args.second.now)
    (g.S.Store.words c.play.new.store) (g.T.Store.words c.play-2.new.store) (take c.play-2.result c.args.calls.now)
    (take c.play-2.result c.play.new.replies) (take c.play-2.result c.play-2.new.replies) same.0 same.1
    (returns-clause-first_promise g c a) (returns-clause-second_promise g c a)

pub returns-clause-two_sessions : goal.returns-clause-two_sessions
returns-clause-two_sessions g c = two_sessions

pub returns-clause-first_rest : goal.returns-clause-first_rest
returns-clause-first_rest g c =
    let n = c.min.result in
    let calls = c.args.calls.now in
    let few : n ≤ length calls = omega (arith, c.min.ensures) in
    let first : n ≤ length c.args.first_replies.now = omega (arith, c.min.ensures, c.min-most.ensures) in
    let second : n ≤ length c.args.second_replies.now = omega (arith, c.min.ensures, c.min-most.ensures) in
    let made : c.play.result ≡ c.play-2.result =
    made_all n (length c.args.first_replies.now) c.play.result calls few first c.play.ensures.count
    ∙ sym (made_all n (length c.args.second_replies.now) c.play-2.result calls few second c.play-2.ensures.count) in
    subst (λ k. drop k c.play.new.replies ≡ drop k c.args.first_replies.now) made c.play.ensures.rest
