-- What the copy rule gives is one thing, and the rewriting of the text still to be run gives it.
use Rattle.std.specs.Prelude.{◌≡◌, ℕ, List}
use Rattle.kinds.specs.Arithmetic.{Arithmetic}
use Rattle.rule.specs.Work.{Work}
use Rattle.rule.specs.Rewriting.{Pending, Situation, finished, Halt, rewrite}
use Rattle.rule.specs.CopyRule.{Outcome, through, halts, Runs}

abbrev pub halt_of : Outcome → Halt
halt_of (through n s) = record { ending = finished; left = n; store = s.store }
halt_of (halts e m σ) = record { ending = e; left = m; store = σ }

-- from every situation, with every allowance, the copy rule has exactly one outcome, and the rewriting halts as it does
abbrev pub Agrees : Type 0
Agrees = (K : Arithmetic) (size : ℕ) (fetch : List ℕ → ℕ → Work ℕ) (ps : List Pending) (n : ℕ) (s : Situation)
    → (o : Outcome) × Runs K size fetch ps n s o × ((o' : Outcome) → Runs K size fetch ps n s o' → o' ≡ o) × (rewrite K size fetch n ps s ≡ halt_of o)
