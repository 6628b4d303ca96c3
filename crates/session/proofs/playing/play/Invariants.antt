use Rattle.std.proofs.Common.{◌≡◌, take, drop}
use Rattle.acceptance.specs.Scripts.{Accepted}
use Rattle.session.proofs.Talking.{Spoken}
use Rattle.session.proofs.playing.play.Given as goal

abbrev pub invariant-loop-i : goal.invariant-loop-i
invariant-loop-i g l =
    let K = g.K.NumberKind.kind in
    ((a : Accepted K.least K.most l.script) → Spoken K l.script a (g.S.Store.words l.initial.store) (take l.i l.calls) (take l.i l.replies) l.session (g.S.Store.words l.store))
    × (drop l.i l.replies ≡ drop l.i l.initial.replies)
    × (g.S.Store.lent l.store ≡ g.S.Store.lent l.initial.store)
