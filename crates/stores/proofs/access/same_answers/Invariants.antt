use Rattle.std.proofs.Common.{◌≡◌, take, Decides}
use Rattle.stores.specs.Accesses.{replies, after_all}
use Rattle.stores.proofs.access.same_answers.Given as goal

abbrev pub invariant-loop-request : goal.invariant-loop-request
invariant-loop-request g l =
    let done = take l.request-index l.requests in
    let ours = g.A.Store.words l.initial.first in
    let theirs = g.B.Store.words l.initial.second in
    Decides l.same (replies ours done ≡ replies theirs done)
    × (g.A.Store.words l.first ≡ after_all ours done)
    × (g.A.Store.lent l.first ≡ g.A.Store.lent l.initial.first)
    × (g.B.Store.words l.second ≡ after_all theirs done)
    × (g.B.Store.lent l.second ≡ g.B.Store.lent l.initial.second)
