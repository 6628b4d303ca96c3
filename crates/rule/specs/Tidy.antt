-- What is waiting in a run keeps to: it is at falling levels, so there is little of it, and its cells in use are in the store.
use Rattle.std.specs.Prelude.{◌≡◌, ℕ, ◌<◌, ◌≤◌, Bool, List, [], ◌∷◌, length}
use Rattle.kinds.specs.Arithmetic.{Arithmetic}
use Rattle.lines.specs.declared.records.Line.{Line}
use Rattle.script.specs.Script.{Statement}
use Rattle.script.specs.Names.{Names}
use Rattle.script.specs.Apart.{globals_of}
use Rattle.rule.specs.Work.{Work}
use Rattle.rule.specs.Machine.{Item}
use Rattle.rule.specs.Closing.{program_of, first_items}
use Rattle.rule.specs.Local.{Sits, Bounded}
use Rattle.rule.specs.Resume.{Reached, going, ended, advance, machine_step}

-- down the statements to be begun the levels fall, from below m, and the cells in use grow no more, from u at most to the globals' at least;
-- each environment has only cells in use
abbrev pub Tidy : (taken m u : ℕ) → List Item → Type 0
Tidy taken m u [] = Unit {0}
Tidy taken m u (p ∷ ps) = (p.level < m) × (p.used ≤ u) × (taken ≤ p.used) × Bounded p.env p.used × Tidy taken p.level p.used ps

-- a state that a run of n statements from a store of so many cells comes to: there are from 1 to 513 statements to be begun, the first at
-- level 512 at most, with cells in use that the size has; or the run is over
abbrev pub TidyState : (taken size n long : ℕ) → Reached Item (List ℕ) → Type 0
TidyState taken size n long (going ps σ) = Tidy taken 513 size ps × (0 < length ps) × (length ps ≤ 513) × (length σ ≡ long)
TidyState taken size n long (ended e k σ) = (k ≤ n) × (length σ ≡ long)

-- from a tidy state the machine comes to tidy states only
abbrev pub StaysTidy : Type 0
StaysTidy = (K : Arithmetic) (size : ℕ) (fetch : List ℕ → ℕ → Work ℕ) (room : List ℕ → ℕ → Bool) (G : Names) (taken : ℕ) → ((z : ℕ) → Sits taken (G z))
    → (n : ℕ) (ps : List Item) (σ : List ℕ) → Tidy taken 513 size ps → TidyState taken size n (length σ) (advance (machine_step K size fetch room G) n ps σ)

-- and so it does from the start of a sheet's text, where the size has the globals' cells
abbrev pub NumbersFit : Type 0
NumbersFit = (K : Arithmetic) (size : ℕ) (fetch : List ℕ → ℕ → Work ℕ) (room : List ℕ → ℕ → Bool) (ls : List Line) (t : Statement) → (globals_of ls).taken ≤ size
    → (n : ℕ) (σ : List ℕ)
    → TidyState (globals_of ls).taken size n (length σ) (advance (machine_step K size fetch room (globals_of ls).names) n (first_items (program_of ls t)) σ)
