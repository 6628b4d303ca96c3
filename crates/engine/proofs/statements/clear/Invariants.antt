use Rattle.std.proofs.Common.{◌≡◌, ◌+◌, ◌-◌, length}
use Rattle.rule.specs.Rewriting.{cleared}
use Rattle.engine.proofs.statements.clear.Given as goal

-- clearing what is left gives what clearing all from the start does
abbrev pub invariant-loop-i : goal.invariant-loop-i
invariant-loop-i g l =
    (cleared (l.count - l.i) (l.first + l.i) l.word (g.S.Store.words l.store) ≡ cleared l.count l.first l.word (g.S.Store.words l.fn.store))
    × (length (g.S.Store.words l.store) ≡ length (g.S.Store.words l.fn.store)) × (g.S.Store.lent l.store ≡ g.S.Store.lent l.fn.store)
