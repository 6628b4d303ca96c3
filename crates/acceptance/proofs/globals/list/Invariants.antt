use Rattle.std.proofs.Common.{◌≡◌, ◌+◌, ◌*◌, ◌≤◌, ◌++◌, map, length, drop}
use Rattle.script.specs.Apart.{heads}
use Rattle.acceptance.specs.Sheet.{lines_of}
use Rattle.acceptance.specs.Scopes.{global_entries}
use Rattle.acceptance.proofs.globals.list.Given as goal

-- those listed, and those of the records that are left, are the globals
abbrev pub invariant-loop-index : goal.invariant-loop-index
invariant-loop-index g l =
    (length l.listed.items ≤ l.index) × (l.cell ≤ 65535 * l.index)
    × ((map g.D.Named.told l.listed.items ++ global_entries g.D.Named.sort (l.index + 1) l.cell (heads (lines_of (drop l.index l.records))))
    ≡ global_entries g.D.Named.sort 1 0 (heads (lines_of l.records)))
