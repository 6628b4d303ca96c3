-- Which faults a script's run by the copy rule can have.
use Rattle.std.specs.Prelude.{◌≡◌, ℕ, ◌<◌, ◌≤◌, List, length, ℤ}
use Rattle.kinds.specs.Arithmetic.{Arithmetic}
use Rattle.lines.specs.declared.records.Line.{Line}
use Rattle.script.specs.IsScript.{IsScript}
use Rattle.rule.specs.Rewriting.{Ending, finished, stopped, fault}
use Rattle.rule.specs.Closing.{Closing, Closes, program_of}
use Rattle.faults.specs.declared.fault.Fault.TheVariants.{OutOfRange, Refused}
use Rattle.faults.specs.Faults.{number_of}
use Rattle.faults.specs.Endings.{ending_of, in_rule}

-- those with a number from 21 on, but 26
abbrev pub KnownFault : ℕ → Type 0
KnownFault n = (number_of OutOfRange ≤ n) × (n < number_of Refused)

abbrev pub KnownEnding : Ending → Type 0
KnownEnding finished = Unit {0}
KnownEnding stopped = Unit {0}
KnownEnding (fault n l) = KnownFault n

-- no closing of a script's run has another, and so nothing of its ending is lost where it is told
abbrev pub ClosingsKnown : Type 0
ClosingsKnown = (K : Arithmetic) (size : ℕ) (low high : ℤ) (ls : List Line) → length ls ≤ 2048 → (s : IsScript low high ls)
    → (g : List ℕ) (n : ℕ) (c : Closing) → Closes K (program_of ls s.text) size g n c
    → KnownEnding c.ending × (in_rule (ending_of c.ending) ≡ c.ending)
