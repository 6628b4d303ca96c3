use Rattle.std.proofs.Common.{◌≡◌, ◌≤◌, suc, length}
use Rattle.script.specs.Tree.{line}
use Rattle.script.specs.Around.{user}
use Rattle.acceptance.proofs.sheet_lines.Sheet.user.Given as goal

-- no line from the range's end on names line m
abbrev pub invariant-loop-k : goal.invariant-loop-k
invariant-loop-k l = (l.k-iterator.iter.start ≡ 0) × (user (line l.self) l.k-iterator.iter.end l.m ≡ user (line l.self) (suc (length l.self)) l.m)
    × (l.k-iterator.iter.end ≤ suc (length l.self))
