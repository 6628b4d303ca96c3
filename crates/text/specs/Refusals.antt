-- Refusals: a cause, and the line at fault.
use Rattle.std.specs.Prelude.{ℕ, List, ◌++◌, codes, decimal}
use Rattle.text.specs.declared.refusals.Refusal.{Refusal}

-- a refusal that puts no line at fault
abbrev pub without_line : {C : Type 0} → C → Refusal C
without_line c = record { cause = c; line = 0 }

-- what is told of a refusal: the number of its cause, its line, and what the cause means
abbrev pub told : ℕ → ℕ → List ℕ → List ℕ
told number line meaning = decimal number ++ (codes " at line " ++ (decimal line ++ (codes ": " ++ meaning)))
