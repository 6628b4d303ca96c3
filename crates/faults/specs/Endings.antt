-- The endings of a run, and those of the copy rule, which tells faults by their numbers.
use Rattle.std.specs.Prelude.{◌≡◌, ℕ, cond, ◌==◌}
use Rattle.rule.specs.Rewriting.{Ending as RuleEnding, finished, stopped, fault}
use Rattle.faults.specs.declared.ending.Ending.{Ending}
use Rattle.faults.specs.declared.ending.Ending.TheVariants as End
use Rattle.faults.specs.declared.fault.Fault.{Fault}
use Rattle.faults.specs.declared.fault.Fault.TheVariants.{OutOfRange, ZeroDivisor, NoElement, TooDeep, NoCells, Refused}
use Rattle.faults.specs.Faults.{number_of}

-- the rule's ending for one of a run
abbrev pub in_rule : Ending → RuleEnding
in_rule End.Finished = finished
in_rule End.Stopped = stopped
in_rule (End.Fault f l) = fault (number_of f) l

-- the fault with a number; a number that no fault has is told as Refused
abbrev pub fault_numbered : ℕ → Fault
fault_numbered n =
    cond (n == number_of OutOfRange) OutOfRange
    (cond (n == number_of ZeroDivisor) ZeroDivisor
    (cond (n == number_of NoElement) NoElement
    (cond (n == number_of TooDeep) TooDeep
    (cond (n == number_of NoCells) NoCells Refused))))

-- and the other way
abbrev pub ending_of : RuleEnding → Ending
ending_of finished = End.Finished
ending_of stopped = End.Stopped
ending_of (fault n l) = End.Fault (fault_numbered n) l

-- nothing is lost on the way
abbrev pub EndingsTold : Type 0
EndingsTold = (e : Ending) → ending_of (in_rule e) ≡ e
