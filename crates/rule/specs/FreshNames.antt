-- Where the fresh names of a run start does not show.
use Rattle.std.specs.Prelude.{◌≡◌, ℕ, ◌≤◌, List, length, ℤ}
use Rattle.kinds.specs.Arithmetic.{Arithmetic}
use Rattle.lines.specs.declared.records.Line.{Line}
use Rattle.script.specs.Apart.{globals_of, first_fresh}
use Rattle.script.specs.IsScript.{IsScript}
use Rattle.rule.specs.Work.{Work}
use Rattle.rule.specs.Rewriting.{Halt, rewrite}
use Rattle.rule.specs.Closing.{program_of, start}

-- a script's runs by the copy rule, for every kind, size, allowance and store: from any start above all names of the text they halt as
-- from the first one, with equal endings, allowances left and stores
abbrev pub FreshNeverShows : Type 0
FreshNeverShows = (K : Arithmetic) (size : ℕ) (fetch : List ℕ → ℕ → Work ℕ) (low high : ℤ) (ls : List Line) → length ls ≤ 2048 → (s : IsScript low high ls)
    → (f : ℕ) → first_fresh ≤ f → (n : ℕ) (σ : List ℕ)
    → let run : ℕ → Halt = λ fresh. rewrite K size fetch n (start (program_of ls s.text)) (record { names = (globals_of ls).names; fresh = fresh; store = σ }) in
    run f ≡ run first_fresh
