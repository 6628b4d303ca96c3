-- What is proved of scripts and refusals.
use Rattle.std.specs.Prelude.{◌≡◌, ℕ, ◌⊎◌, ◌↔◌, List, ℤ, Some, None}
use Rattle.lines.specs.declared.records.Line.{Line}
use Rattle.script.specs.IsScript.{IsScript}
use Rattle.script.specs.Causes.{Refused}
use Rattle.script.specs.Tests.{refusal}

-- a sheet is refused for nothing exactly if it is a script, and refused for a number and a line exactly if the faults of its lines say so
abbrev pub AcceptedExactly : Type 0
AcceptedExactly = (low high : ℤ) (ls : List Line)
    → (refusal low high ls ≡ None ↔ IsScript low high ls)
    × ((c n : ℕ) → refusal low high ls ≡ Some (c, n) ↔ Refused low high ls c n)

-- every sheet is a script, or is refused for one number and one line, and not both
abbrev pub OneVerdict : Type 0
OneVerdict = (low high : ℤ) (ls : List Line)
    → (IsScript low high ls × ((c n : ℕ) → ¬ (Refused low high ls c n)))
    ⊎ ((c n : ℕ) × Refused low high ls c n × ((d m : ℕ) → Refused low high ls d m → (d ≡ c) × (m ≡ n)) × (¬ (IsScript low high ls)))
