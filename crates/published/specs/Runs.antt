-- A run of a script with whole numbers, told by the words that its store begins with: the globals'.
use Rattle.std.specs.Prelude.{ℕ, ◌-◌, List, ◌++◌, length, replicate}
use Rattle.lines.specs.declared.records.Line.{Line}
use Rattle.kinds.specs.Whole.{whole}
use Rattle.script.specs.IsScript.{IsScript}
use Rattle.rule.specs.Rewriting.{Ending}
use Rattle.rule.specs.Closing.{Closes, program_of}

-- the words of a store of so many cells that begins with the first words, and holds zeros behind them
abbrev pub with_zeros : (size : ℕ) (first : List ℕ) → List ℕ
with_zeros size first = first ++ replicate (size - length first) 0

-- a script's run over so many cells that begin with the first words, allowed n statements: it ends so, with this count of begun
-- statements, and its store then begins with the last words, which others follow
abbrev pub Run : (ls : List Line) (size : ℕ) (first : List ℕ) (n : ℕ) → Ending → ℕ → (last : List ℕ) → Type 0
Run ls size first n e count last =
    (s : IsScript whole.least whole.most ls) → (others : List ℕ)
    × Closes whole (program_of ls s.text) size (with_zeros size first) n (record { ending = e; count = count; store = last ++ others })
