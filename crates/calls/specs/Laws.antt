-- What holds of every session's calls.
use Rattle.std.specs.Prelude.{◌≡◌, ℕ, ◌≤◌, List, ◌∷◌, All, length, take, Ok, ℤ}
use Rattle.kinds.specs.Arithmetic.{Arithmetic}
use Rattle.lines.specs.declared.records.Line.{Line}
use Rattle.script.specs.Script.{Statement}
use Rattle.script.specs.Apart.{globals_of}
use Rattle.script.specs.IsScript.{IsScript}
use Rattle.rule.specs.Closing.{Closing, Closes, program_of}
use Rattle.calls.specs.declared.asked.Call.{Call}
use Rattle.calls.specs.declared.asked.Call.TheVariants.{Open, Reading}
use Rattle.calls.specs.declared.asked.GlobalCell.{GlobalCell}
use Rattle.calls.specs.Openings.{Opens}
use Rattle.calls.specs.History.{Event, History, Ledger, Run, in_run, Reply, call_of, ledger}
use Rattle.calls.specs.Answers.{Due, Ended, Conversation, Answered}

-- after every history, every call has exactly one event that is due
abbrev pub Determined : Type 0
Determined = (K : Arithmetic) (ls : List Line) (t : Statement) (size : ℕ) (s : Ledger)
    → ((q : Call) → (e : Event) × Due K ls t size s e × (call_of e ≡ q))
    × ((e e' : Event) → Due K ls t size s e → Due K ls t size s e' → call_of e ≡ call_of e' → e ≡ e')

-- and every list of calls gets exactly one list of replies
abbrev pub OneReply : Type 0
OneReply = (K : Arithmetic) (ls : List Line) (t : Statement) (size : ℕ) (first : List ℕ) (calls : List Call)
    → (replies : List Reply) × Answered K ls t size first calls replies × ((rs : List Reply) → Answered K ls t size first calls rs → rs ≡ replies)

-- the words of the globals' cells
abbrev pub global_store : List Line → List ℕ → List ℕ
global_store ls σ = take (globals_of ls).taken σ

abbrev pub IsReading : Call → Type 0
IsReading q = (g : GlobalCell) × (q ≡ Reading g)

-- Two sessions of a script, over stores of equal size with the words σ and τ at first: they reply alike to every list of calls where their global
-- stores are equal; and where both stores can be opened, equal replies to an opening and any readings after it are enough to tell that they are.
pub record Alike (K : Arithmetic) (ls : List Line) (t : Statement) (size : ℕ) (σ τ : List ℕ) : Type 0 where
  pub replies_equal : global_store ls σ ≡ global_store ls τ
      → (calls : List Call) (p q : List Reply) → Answered K ls t size σ calls p → Answered K ls t size τ calls q → p ≡ q
  pub globals_equal : Opens K ls σ (Ok tt) → Opens K ls τ (Ok tt)
      → ((calls : List Call) → All IsReading calls → (p q : List Reply) → Answered K ls t size σ (Open ∷ calls) p → Answered K ls t size τ (Open ∷ calls) q → p ≡ q)
      → global_store ls σ ≡ global_store ls τ

abbrev pub TwoSessions : Type 0
TwoSessions = (K : Arithmetic) (low high : ℤ) (ls : List Line) → length ls ≤ 2048 → (s : IsScript low high ls) (σ τ : List ℕ) → length σ ≡ length τ
    → Alike K ls s.text (length σ) σ τ

-- a run that goes on has begun as many statements as it was granted
abbrev pub BegunAll : Type 0
BegunAll = (K : Arithmetic) (ls : List Line) (t : Statement) (size : ℕ) (r : Run) → ¬ (Ended K ls t size r r.granted)
    → (c : Closing) → Closes K (program_of ls t) size r.from r.granted c → c.count ≡ r.granted

-- in a run the store holds what the copy rule's closing has with the statements granted so far
abbrev pub StoreInRun : Type 0
StoreInRun = (K : Arithmetic) (ls : List Line) (t : Statement) (size : ℕ) (first : List ℕ) (h : History) → Conversation K ls t size first h
    → (r : Run) → (ledger ls first h).place ≡ in_run r → (c : Closing) → Closes K (program_of ls t) size r.from r.granted c → (ledger ls first h).words ≡ c.store
