use Rattle.std.proofs.Common.{◌≡◌, ◌+◌, ◌<◌, [], ◌∷◌, ◌++◌, length, get_or, set, take, drop, sym, refl, ◌∙◌, subst, subst₂, arith}
use Rattle.std.proofs.lemmas.List.{get_or-take, length-take, take_more, take_more_set, drop-set-lt}
use Rattle.calls.proofs.Stored.{store_in_run}
use Rattle.calls.proofs.Counting.{begun_all}
use Rattle.calls.proofs.Replies.{one_reply}
use Rattle.faults.proofs.Known.{closings_known}
use Rattle.session.specs.Promise.{Keeps, Talked}
use Rattle.session.proofs.Talking.{Spoken, blank, one_further, spoken_first, spoken_more, talked}
use Rattle.session.proofs.playing.play.Goals as goal

pub returns-clause-one_reply : goal.returns-clause-one_reply
returns-clause-one_reply g c = one_reply

pub returns-clause-begun_all : goal.returns-clause-begun_all
returns-clause-begun_all g c = begun_all

pub returns-clause-store_in_run : goal.returns-clause-store_in_run
returns-clause-store_in_run g c = store_in_run

pub returns-clause-endings : goal.returns-clause-endings
returns-clause-endings g c = closings_known

pub loop-i-init : goal.loop-i-init
loop-i-init g c = ((λ a. spoken_first g.K.NumberKind.kind c.args.script.now a (g.S.Store.words c.args.store.now) c.unopened-session.result (c.unopened-session.ensures.promise c.args.script.now a (g.S.Store.words c.args.store.now))), refl, refl)

pub loop-i-preserved : goal.loop-i-preserved
loop-i-preserved g c =
    let K = g.K.NumberKind.kind in
    let rs = c.args.script.now in
    let σ = g.S.Store.words c.args.store.now in
    let qs = c.args.calls.now in
    let i = c.loop-i.i in
    let long = length-take c.min-made.result qs in
    let most = c.min-made.ensures in
    let h : i < c.min-made.result = omega (arith, long, c.loop-i-test.true) in
    let there : i < length qs = omega (arith, h, most) in
    let place : i < length c.loop-i.replies = let e = c.loop-i.auto.replies in omega (arith, h, most, e) in
    let q = get_or qs i blank in
    let at : get_or (take c.min-made.result qs) i blank ≡ q = get_or-take c.min-made.result qs i blank h in
    let promise = subst (λ x. Keeps K rs x c.loop-i.session (g.S.Store.words c.loop-i.store) c.make.result c.make.new.self (g.S.Store.words c.make.new.store)) at c.make.ensures.promise in
    let asked : take (i + 1) qs ≡ take i qs ++ q ∷ [] = take_more qs i blank there in
    let told : take (i + 1) (set c.loop-i.replies i c.make.result) ≡ take i c.loop-i.replies ++ c.make.result ∷ [] = take_more_set c.loop-i.replies i c.make.result place in (
      (λ a. subst₂ (λ x y. Spoken K rs a σ x y c.make.new.self (g.S.Store.words c.make.new.store)) (sym asked) (sym told)
          (spoken_more K rs a σ (take i qs) (take i c.loop-i.replies) c.loop-i.session c.make.new.self (g.S.Store.words c.loop-i.store) (g.S.Store.words c.make.new.store)
          q c.make.result (c.loop-i.invariant.0 a) promise)),
      drop-set-lt (i + 1) c.loop-i.replies i c.make.result (omega arith) ∙ one_further i c.loop-i.replies c.args.replies.now c.loop-i.invariant.1,
      c.make.ensures.lent ∙ c.loop-i.invariant.2,
    )

pub returns-clause-promise : goal.returns-clause-promise
returns-clause-promise g c =
    let K = g.K.NumberKind.kind in
    let rs = c.args.script.now in
    let σ = g.S.Store.words c.args.store.now in
    let long = length-take c.min-made.result c.args.calls.now in
    let most = c.min-made.ensures in
    let all : c.loop-i.i ≡ c.min-made.result = omega (arith, long, most, c.loop-i-test.false, c.loop-i.auto.i-end) in
    λ a. subst (λ n. Talked K rs a σ (take n c.args.calls.now) (take n c.loop-i.replies) (g.S.Store.words c.loop-i.store)) all
    (talked K rs a σ (take c.loop-i.i c.args.calls.now) (take c.loop-i.i c.loop-i.replies) c.loop-i.session (g.S.Store.words c.loop-i.store) (c.loop-i.invariant.0 a))

pub returns-clause-rest : goal.returns-clause-rest
returns-clause-rest g c =
    let long = length-take c.min-made.result c.args.calls.now in
    let most = c.min-made.ensures in
    let all : c.loop-i.i ≡ c.min-made.result = omega (arith, long, most, c.loop-i-test.false, c.loop-i.auto.i-end) in
    subst (λ n. drop n c.loop-i.replies ≡ drop n c.args.replies.now) all c.loop-i.invariant.1
