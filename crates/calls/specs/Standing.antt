-- When a place and the words of its store stand after some calls: what the proofs keep from call to call. Nothing here needs to be believed: what the
-- calls answer is told by `Conversation` (Answers), and what they leave by `ledger` (History).
use Rattle.std.specs.Prelude.{◌≡◌, ℕ, ◌-◌, ◌≤◌, List, length}
use Rattle.kinds.specs.Arithmetic.{Arithmetic}
use Rattle.lines.specs.declared.records.Line.{Line}
use Rattle.script.specs.Script.{Statement}
use Rattle.script.specs.Apart.{globals_of}
use Rattle.rule.specs.Rewriting.{Ending}
use Rattle.rule.specs.Machine.{Item}
use Rattle.rule.specs.Closing.{first_items, program_of}
use Rattle.rule.specs.Handed.{handed, handed_room}
use Rattle.rule.specs.Lawful.{LawfulBelow}
use Rattle.rule.specs.Resume.{Reached, going, ended, advance, machine_step}
use Rattle.calls.specs.History.{Ledger, Place, empty, between, in_run, Run}
use Rattle.calls.specs.Answers.{largest}

-- no session; between runs; in a run, with what is to be begun next and how many statements were begun; with a run that is over, its ending and how many
pub data Phase : Type 0 where
  away : Phase
  rest : Phase
  running : List Item → ℕ → Phase
  over : Ending → ℕ → Phase

module _ (K : Arithmetic) (ls : List Line) (t : Statement) (size : ℕ) where
  -- the machine over the store that is handed over, n statements on
  abbrev pub run : ℕ → List Item → List ℕ → Reached Item (List ℕ)
  run = advance (machine_step K size (handed K) handed_room (globals_of ls).names)

  -- a run that was granted n, over a store with the words σ at its begin, has come to x
  pub record Ran (σ : List ℕ) (n : ℕ) (x : Reached Item (List ℕ)) : Type 0 where
    pub long : length σ ≡ size
    pub room : (globals_of ls).taken ≤ size
    pub lawful : LawfulBelow K (globals_of ls).taken σ
    pub came : run n (first_items (program_of ls t)) σ ≡ x

  -- between runs, of which n were begun
  pub record Resting (x : Place) (n : ℕ) (σ : List ℕ) : Type 0 where
    pub is : x ≡ between n
    pub room : (globals_of ls).taken ≤ size
    pub lawful : LawfulBelow K (globals_of ls).taken σ

  -- in run n: what is to be begun next, and how many statements were begun, which are all that were granted
  pub record Going (x : Place) (ps : List Item) (k n : ℕ) (σ : List ℕ) : Type 0 where
    pub open_run : Run
    pub is : x ≡ in_run open_run
    pub number : open_run.number ≡ n
    pub count : open_run.granted ≡ k
    pub small : k ≤ largest
    pub ran : Ran open_run.from open_run.granted (going ps σ)

  -- with run n over: its ending, and how many statements were begun, which may be fewer
  pub record Past (x : Place) (e : Ending) (k n : ℕ) (σ : List ℕ) : Type 0 where
    pub open_run : Run
    pub is : x ≡ in_run open_run
    pub number : open_run.number ≡ n
    pub left : ℕ
    pub count : open_run.granted - left ≡ k
    pub small : k ≤ largest
    pub ran : Ran open_run.from open_run.granted (ended e left σ)

  abbrev pub Matches : Place → Phase → ℕ → List ℕ → Type 0
  Matches x away n σ = x ≡ empty
  Matches x rest n σ = Resting x n σ
  Matches x (running ps k) n σ = Going x ps k n σ
  Matches x (over e k) n σ = Past x e k n σ

  -- n runs were begun, and the store has the words σ
  pub record Stands (l : Ledger) (p : Phase) (n : ℕ) (σ : List ℕ) : Type 0 where
    pub words : l.words ≡ σ
    pub small : n ≤ largest
    pub long : length σ ≡ size
    pub matches : Matches l.place p n σ
