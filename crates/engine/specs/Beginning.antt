-- What the engine does at a statement is what the machine does.
use Rattle.std.specs.Prelude.{◌≡◌, ℕ, ◌+◌, Bool, true, false, List, ◌++◌, slice_index_or, slice_set, Ok, Err, Option, Result}
use Rattle.kinds.specs.Arithmetic.{Arithmetic}
use Rattle.lines.specs.declared.records.Line.{Line}
use Rattle.lines.specs.declared.records.Record.{Record}
use Rattle.script.specs.Names.{Names}
use Rattle.script.specs.Apart.{own}
use Rattle.standing.specs.Standing.{Says, IsProcedure}
use Rattle.rule.specs.Fine.{a_procedure}
use Rattle.rule.specs.Handed.{handed, handed_room}
use Rattle.rule.specs.Machine.{Item, Moved, moves, refuses, move, enters, procedure_at}
use Rattle.faults.specs.declared.fault.Fault.{Fault}
use Rattle.faults.specs.declared.fault.Fault.TheVariants.{Refused}
use Rattle.engine.specs.declared.frame.Frame.{Frame}
use Rattle.engine.specs.declared.levels.Engine.{Engine}
use Rattle.engine.specs.declared.levels.Next.{Next}
use Rattle.engine.specs.declared.scene.Run.{Run}
use Rattle.faults.specs.Faults.{number_of}
use Rattle.engine.specs.Proper.{kinds_at}
use Rattle.engine.specs.Working.{OfKind}
use Rattle.engine.specs.Levels.{blank, with_rest, At, Waiting}

abbrev pub Answer : Type 0
Answer = Result (Unit {0}) Fault

-- the answer of puts that the store has room for or not
abbrev pub answered : Bool → Answer
answered true = Ok tt
answered false = Err Refused

abbrev pub done : {A : Type 0} → Result A Fault → Answer
done (Ok a) = Ok tt
done (Err f) = Err f

-- a level that is entered, or the fault for which it is not, where the line l would go on as m says
abbrev pub entered : Answer → ℕ → List ℕ → Moved → Moved
entered (Ok u) l σ m = m
entered (Err f) l σ m = refuses (number_of f) l σ

abbrev pub with_used : Frame → ℕ → Frame
with_used f u = record { line = f.line; binding = f.binding; outer = f.outer; used = u; rest = f.rest }

-- the frames after level k is left with t to be begun there, and the next is entered with the frame g
abbrev pub pushed : List Frame → ℕ → Option ℕ → Frame → List Frame
pushed fs k t g = slice_set (slice_set fs k (with_rest (slice_index_or fs k blank) t)) (k + 1) g

-- What came of beginning the statement of line l: the frames below h hold what the machine has to begin next, before qs, and the store is the
-- machine's; or it is the machine's fault.
abbrev pub Went : Names → List Record → List Frame → ℕ → Answer → List ℕ → ℕ → List Item → Moved → Type 0
Went G rs fs h (Ok u) σ l qs (moves ms τ) = (σ ≡ τ) × Waiting G rs fs h (ms ++ qs)
Went G rs fs h (Ok u) σ l qs (refuses n m τ) = ⊥
Went G rs fs h (Err f) σ l qs (moves ms τ) = ⊥
Went G rs fs h (Err f) σ l qs (refuses n m τ) = (n ≡ number_of f) × (m ≡ l) × (σ ≡ τ)

module _ (K : Arithmetic) (run : Run) (e e' : Engine) (at : Next) (σ σ' : List ℕ) (r : Answer) where
  -- the item p is to be begun at the place, and qs waits below it
  abbrev pub Ready : Names → Item → List Item → Type 0
  Ready G p qs = At G run.records.now e.frames (slice_index_or e.frames at.level blank) at.level at.line p × Waiting G run.records.now e.frames at.level qs

  -- the statement at the place was begun
  abbrev pub Begun : Type 0
  Begun = (G : Names) (p : Item) (qs : List Item) → OfKind K run.records.now → Ready G p qs
      → Went G run.records.now e'.frames e'.height r σ' at.line qs (move K run.size (handed K) handed_room G p.text p.level p.used p.env σ)

  -- where its line says l
  abbrev pub Begins : Line → Type 0
  Begins l = Says run.records.now at.line l → Begun

  -- the procedure of line q was called from the place, with the word w and the cell c
  abbrev pub Invokes : (q w c : ℕ) → Type 0
  Invokes q w c = (G : Names) (p : Item) (qs : List Item) → IsProcedure run.records.now q → kinds_at G p.env (own q) ≡ a_procedure → Ready G p qs
      → Went G run.records.now e'.frames e'.height r σ' at.line qs (enters K run.size (handed K) handed_room G (procedure_at p.env (own q)) at.line p.level p.used σ w c)
