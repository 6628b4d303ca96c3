-- The globals of a script, cell by cell.
use Rattle.std.specs.Prelude.{◌≡◌, ℕ, zero, suc, ◌+◌, ◌<◌, ◌≤◌, false, cond, List, Some, None, Option, nat_lt, slice_index}
use Rattle.kinds.specs.Arithmetic.{Arithmetic}
use Rattle.lines.specs.declared.records.Line.{Line}
use Rattle.script.specs.Apart.{globals_of, own}
use Rattle.script.specs.Names.{Standing, nothing, cell, cells, code}
use Rattle.acceptance.specs.Scripts.{global_standing}
use Rattle.calls.specs.declared.asked.GlobalCell.{GlobalCell}

-- the cell of an index of what a global stands for: a simple variable has index 0, an array of length n the indexes below n
abbrev pub at_index : Standing → ℕ → Option ℕ
at_index nothing i = None
at_index (cell c) zero = Some c
at_index (cell c) (suc i) = None
at_index (cells b n) i = cond (nat_lt i n) (Some (b + i)) None
at_index (code x y s) i = None

-- the cell that a sort, a name and an index name, where there is one
abbrev pub cell_of : List Line → GlobalCell → Option ℕ
cell_of ls g = at_index (global_standing ls g.sort g.name) g.index

-- cell c is one of those
abbrev pub Has : Standing → ℕ → Type 0
Has nothing c = ⊥
Has (cell d) c = c ≡ d
Has (cells b n) c = (b ≤ c) × (c < b + n)
Has (code x y s) c = ⊥

-- a cell of the global of line n holds an unlawful word
abbrev pub Unlawful : Arithmetic → List Line → List ℕ → ℕ → Type 0
Unlawful K ls words n = (c : ℕ) × Has ((globals_of ls).names (own n)) c × (K.lawful (slice_index words c) ≡ false)

-- and n is the lowest such line
abbrev pub FirstUnlawful : Arithmetic → List Line → List ℕ → ℕ → Type 0
FirstUnlawful K ls words n = Unlawful K ls words n × ((m : ℕ) → m < n → ¬ (Unlawful K ls words m))
