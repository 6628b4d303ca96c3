use Rattle.std.proofs.Common.{◌≡◌, ◌++◌, take, drop}
use Rattle.stores.specs.Accesses.{replies, after_all}
use Rattle.stores.proofs.access.serve.Given as goal

abbrev pub invariant-loop-i : goal.invariant-loop-i
invariant-loop-i g l =
    (l.replies ≡ replies (g.S.Store.words l.initial.store) (take l.i l.requests) ++ drop l.i l.initial.replies)
    × (g.S.Store.words l.store ≡ after_all (g.S.Store.words l.initial.store) (take l.i l.requests))
    × (g.S.Store.lent l.store ≡ g.S.Store.lent l.initial.store)
