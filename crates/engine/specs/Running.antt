-- A run of the engine is the machine's run.
use Rattle.std.specs.Prelude.{◌≡◌, ℕ, ◌+◌, List, [], ◌∷◌, ◌++◌}
use Rattle.kinds.specs.Arithmetic.{Arithmetic}
use Rattle.lines.specs.declared.records.Record.{Record}
use Rattle.script.specs.Names.{Names}
use Rattle.script.specs.Apart.{globals_of}
use Rattle.acceptance.specs.Sheet.{lines_of}
use Rattle.rule.specs.Rewriting.{finished, stopped, fault}
use Rattle.rule.specs.Handed.{handed, handed_room}
use Rattle.rule.specs.Machine.{Item, Moved, moves, refuses, move}
use Rattle.rule.specs.Resume.{Reached, going, ended, advance, machine_step}
use Rattle.faults.specs.declared.fault.Fault.{Fault}
use Rattle.engine.specs.declared.levels.Engine.{Engine}
use Rattle.engine.specs.declared.run.State.{State}
use Rattle.engine.specs.declared.run.State.TheVariants.{Running, Finished, Faulted}
use Rattle.faults.specs.Faults.{number_of}
use Rattle.engine.specs.Levels.{Waiting}

module _ (G : Names) (rs : List Record) (e : Engine) where
  -- the engine holds what the machine is still to begin
  abbrev pub Holds : List Item → Type 0
  Holds ps = Waiting G rs e.frames e.height ps

  -- what came of beginning a statement, where qs waits below: the engine and the store are as the machine's, or it is the machine's fault
  abbrev pub Came : State → List ℕ → List Item → Moved → Type 0
  Came Running σ qs (moves ms τ) = (σ ≡ τ) × Holds (ms ++ qs)
  Came Running σ qs (refuses n m τ) = ⊥
  Came Finished σ qs m = ⊥
  Came (Faulted f l) σ qs (moves ms τ) = ⊥
  Came (Faulted f l) σ qs (refuses n m τ) = (n ≡ number_of f) × (m ≡ l) × (σ ≡ τ) × Holds []

  -- so far came a run of at most n statements: as many were begun, the store is σ, and the engine holds what is left to do, nothing where
  -- the run is over
  abbrev pub CameTo : ℕ → ℕ → State → List ℕ → Reached Item (List ℕ) → Type 0
  CameTo n begun s σ (going ps τ) = (s ≡ Running) × (begun ≡ n) × (σ ≡ τ) × Holds ps
  CameTo n begun s σ (ended finished k τ) = (s ≡ Finished) × (begun + k ≡ n) × (σ ≡ τ) × Holds []
  CameTo n begun s σ (ended stopped k τ) = ⊥
  CameTo n begun s σ (ended (fault f l) k τ) = (e : Fault) × (s ≡ Faulted e l) × (f ≡ number_of e) × (begun + k ≡ n) × (σ ≡ τ) × Holds []

-- what a run has come to that may begin no more
abbrev pub left_of : List Item → State
left_of [] = Finished
left_of (p ∷ ps) = Running

module _ (K : Arithmetic) (size : ℕ) (G : Names) where
  -- the machine over a store that is handed over, as far as n statements more
  abbrev pub machine_after : ℕ → List Item → List ℕ → Reached Item (List ℕ)
  machine_after n ps σ = advance (machine_step K size (handed K) handed_room G) n ps σ

  -- a step with the items ps and the store σ
  abbrev pub Steps : List Record → Engine → State → List ℕ → List ℕ → List Item → Type 0
  Steps rs e s σ' σ [] = (s ≡ Finished) × (σ' ≡ σ) × Holds G rs e []
  Steps rs e s σ' σ (p ∷ qs) = Came G rs e s σ' qs (move K size (handed K) handed_room G p.text p.level p.used p.env σ)

-- what the globals' names of a script's records stand for
abbrev pub globals_in : List Record → Names
globals_in rs = (globals_of (lines_of rs)).names

-- the engine stands for the machine's state in a run of the script
abbrev pub StandsFor : List Record → Engine → List Item → Type 0
StandsFor rs e ps = Holds (globals_in rs) rs e ps
