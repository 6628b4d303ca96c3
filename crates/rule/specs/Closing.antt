-- What a run of a script comes to: its closing by the copy rule, and the rule's own count.
use Rattle.std.specs.Prelude.{◌≡◌, ℕ, ◌-◌, ◌<◌, ◌≤◌, Bool, true, List, [], ◌∷◌, slice_index}
use Rattle.kinds.specs.Arithmetic.{Arithmetic}
use Rattle.script.specs.Script.{Statement}
use Rattle.lines.specs.declared.records.Line.{Line}
use Rattle.script.specs.Names.{Names}
use Rattle.script.specs.Apart.{globals_of, statement_apart, first_fresh}
use Rattle.rule.specs.Work.{Work, gives}
use Rattle.rule.specs.Rewriting.{Pending, Situation, Ending, finished, stopped}
use Rattle.rule.specs.Machine.{Item, outside}
use Rattle.rule.specs.CopyRule.{Outcome, through, halts, Runs}

-- a script as the rule runs it: its text with the declarations told apart, what the globals' names stand for, how many cells they take,
-- and the first fresh name, above all names of the text
pub record Program : Type 0 where
  pub text : Statement
  pub names : Names
  pub taken : ℕ
  pub fresh : ℕ

-- a closing: how the run ended, how many statements it began, and what the store holds then
pub record Closing : Type 0 where
  pub ending : Ending
  pub count : ℕ
  pub store : List ℕ

-- the rule's own store: every place that it looks at is there, and takes every put
abbrev pub own_fetch : List ℕ → ℕ → Work ℕ
own_fetch σ c = gives (slice_index σ c)

abbrev pub own_room : List ℕ → ℕ → Bool
own_room σ u = true

-- a run starts with the whole text at level 0, the globals' cells in use
abbrev pub start : Program → List Pending
start P = record { text = P.text; level = 0; used = P.taken } ∷ []

-- and so does the machine's
abbrev pub first_items : Program → List Item
first_items P = record { text = P.text; level = 0; used = P.taken; env = outside } ∷ []

-- what a run that was allowed n statements closes with
abbrev pub closing_of : ℕ → Outcome → Closing
closing_of n (through m s) = record { ending = finished; count = n - m; store = s.store }
closing_of n (halts e m σ) = record { ending = e; count = n - m; store = σ }

module _ (K : Arithmetic) (P : Program) (size : ℕ) where
  -- the first situation, over a store with the words σ
  abbrev pub situation : List ℕ → Situation
  situation σ = record { names = P.names; fresh = P.fresh; store = σ }

  -- over a store with the words σ, allowed n statements, the copy rule closes so
  abbrev pub Closes : List ℕ → ℕ → Closing → Type 0
  Closes σ n c = (o : Outcome) × Runs K size own_fetch (start P) n (situation σ) o × (closing_of n o ≡ c)

  -- allowed n statements, the run is stopped
  abbrev pub Stopped : List ℕ → ℕ → Type 0
  Stopped σ n = (c : Closing) × Closes σ n c × (c.ending ≡ stopped)

  -- m is the rule's own count: the least allowance with which it is not stopped
  abbrev pub OwnCount : List ℕ → ℕ → Type 0
  OwnCount σ m = (Stopped σ m → ⊥) × ((k : ℕ) → k < m → Stopped σ k)

  -- n reaches the own count
  abbrev pub IsOver : List ℕ → ℕ → Type 0
  IsOver σ n = (m : ℕ) × OwnCount σ m × (m ≤ n)

-- the program of a sheet's lines whose last line is the statement t
abbrev pub program_of : List Line → Statement → Program
program_of ls t = record {
  text = statement_apart (globals_of ls).scope t;
  names = (globals_of ls).names;
  taken = (globals_of ls).taken;
  fresh = first_fresh;
}
