-- A place as a program has it, over the store that is handed over: what each call answers, and what it leaves.
use Rattle.std.proofs.Common.{ℕ, ◌+◌, ◌-◌, Bool, true, false, cond, eqb, leb, ltb, List, length, nat_lt, slice_set, Some, None, Ok, Err, Option, Result}
use Rattle.std.specs.List.{slice_get}
use Rattle.kinds.specs.Arithmetic.{Arithmetic}
use Rattle.text.specs.declared.refusals.Refusal.{Refusal}
use Rattle.lines.specs.declared.records.Line.{Line}
use Rattle.script.specs.Script.{Statement}
use Rattle.script.specs.Apart.{globals_of}
use Rattle.rule.specs.Rewriting.{Ending, stopped}
use Rattle.rule.specs.Machine.{Item}
use Rattle.rule.specs.Closing.{first_items, program_of}
use Rattle.rule.specs.Handed.{handed, handed_room}
use Rattle.rule.specs.Resume.{Reached, going, ended, advance, machine_step}
use Rattle.calls.specs.declared.asked.Call.{Call}
use Rattle.calls.specs.declared.asked.Call.TheVariants.{Open, Post, Reading, Begin, Grant, Close}
use Rattle.calls.specs.declared.asked.GlobalCell.{GlobalCell}
use Rattle.calls.specs.declared.causes.SessionCause.{SessionCause}
use Rattle.calls.specs.declared.causes.SessionCause.TheVariants.{NotAtRest, NoSuchGlobal, UnlawfulWord, NoSuchRun, WrongGrant, RunIsOver, NoRunLeft, StoreFails}
use Rattle.calls.specs.Globals.{cell_of}
use Rattle.calls.specs.History.{Event, opened, not_opened, refused, posted, read, began, granted, closed}
use Rattle.calls.specs.Answers.{largest}
use Rattle.calls.specs.Standing.{Phase, away, rest, running, over}
use Rattle.calls.proofs.Opening.{opening}
use Rattle.calls.proofs.Running.{done, store_of}

-- the phase, how many runs were begun, which is the ticket of the last, and the words of the store
pub record Session : Type 0 where
  pub phase : Phase
  pub runs : ℕ
  pub words : List ℕ

abbrev pub Step : Type 0
Step = Session × Event

abbrev pub at : Phase → ℕ → List ℕ → Session
at p r σ = record { phase = p; runs = r; words = σ }

-- a word of the store: it has to be there, and lawful
abbrev pub word_event : Arithmetic → Option ℕ → GlobalCell → Event
word_event K None g = refused (Reading g) StoreFails
word_event K (Some w) g = cond (K.lawful w) (read g w) (refused (Reading g) StoreFails)

-- the session after a grant of n, where k statements were begun before
abbrev pub reached : ℕ → ℕ → ℕ → Reached Item (List ℕ) → Session
reached r k n (going ps σ) = at (running ps (k + n)) r σ
reached r k n (ended e m σ) = at (over e (k + (n - m))) r σ

-- what an opening leaves, by its answer
abbrev pub opens_to : Result (Unit {0}) (Refusal SessionCause) → List ℕ → Step
opens_to (Ok u) σ = (at rest 0 σ, opened)
opens_to (Err r) σ = (at away 0 σ, not_opened r)

module _ (K : Arithmetic) (ls : List Line) (t : Statement) (size : ℕ) where
  -- the cell, whether the word is lawful and whether the store has the cell
  abbrev pub posts : Phase → Option ℕ → Bool → ℕ → List ℕ → GlobalCell → ℕ → Step
  posts away c b r σ g w = (at away r σ, refused (Post g w) NotAtRest)
  posts rest None b r σ g w = (at rest r σ, refused (Post g w) NoSuchGlobal)
  posts rest (Some c) false r σ g w = (at rest r σ, refused (Post g w) UnlawfulWord)
  posts rest (Some c) true r σ g w = cond (nat_lt c (length σ)) (at rest r (slice_set σ c w), posted g w) (at rest r σ, refused (Post g w) StoreFails)
  posts (running ps k) c b r σ g w = (at (running ps k) r σ, refused (Post g w) NotAtRest)
  posts (over e k) c b r σ g w = (at (over e k) r σ, refused (Post g w) NotAtRest)

  abbrev pub reads : Phase → Option ℕ → ℕ → List ℕ → GlobalCell → Step
  reads away c r σ g = (at away r σ, refused (Reading g) NotAtRest)
  reads rest None r σ g = (at rest r σ, refused (Reading g) NoSuchGlobal)
  reads rest (Some c) r σ g = (at rest r σ, word_event K (slice_get σ c) g)
  reads (running ps k) c r σ g = (at (running ps k) r σ, refused (Reading g) NotAtRest)
  reads (over e k) c r σ g = (at (over e k) r σ, refused (Reading g) NotAtRest)

  -- whether no run is left
  abbrev pub begins : Phase → Bool → ℕ → List ℕ → Step
  begins away b r σ = (at away r σ, refused Begin NotAtRest)
  begins rest true r σ = (at rest r σ, refused Begin NoRunLeft)
  begins rest false r σ = (at (running (first_items (program_of ls t)) 0) (r + 1) σ, began (r + 1))
  begins (running ps k) b r σ = (at (running ps k) r σ, refused Begin NotAtRest)
  begins (over e k) b r σ = (at (over e k) r σ, refused Begin NotAtRest)

  -- whether the ticket is the open run's, and whether the grant is of nothing, or of too much
  abbrev pub goes_on : Bool → Bool → Bool → List Item → ℕ → ℕ → List ℕ → ℕ → ℕ → Step
  goes_on false z m ps k r σ i n = (at (running ps k) r σ, refused (Grant i n) NoSuchRun)
  goes_on true true m ps k r σ i n = (at (running ps k) r σ, refused (Grant i n) WrongGrant)
  goes_on true false true ps k r σ i n = (at (running ps k) r σ, refused (Grant i n) WrongGrant)
  goes_on true false false ps k r σ i n =
      let x = advance (machine_step K size (handed K) handed_room (globals_of ls).names) n ps σ in
      (reached r k n x, granted i n (done x) (store_of x))

  abbrev pub is_past : Bool → Ending → ℕ → ℕ → List ℕ → ℕ → ℕ → Step
  is_past false e k r σ i n = (at (over e k) r σ, refused (Grant i n) NoSuchRun)
  is_past true e k r σ i n = (at (over e k) r σ, refused (Grant i n) RunIsOver)

  abbrev pub grants : Phase → ℕ → List ℕ → ℕ → ℕ → Step
  grants away r σ i n = (at away r σ, refused (Grant i n) NoSuchRun)
  grants rest r σ i n = (at rest r σ, refused (Grant i n) NoSuchRun)
  grants (running ps k) r σ i n = goes_on (eqb r i) (eqb n 0) (ltb largest (k + n)) ps k r σ i n
  grants (over e k) r σ i n = is_past (eqb r i) e k r σ i n

  -- whether the ticket is the open run's
  abbrev pub ends_so : Bool → Phase → Ending → ℕ → ℕ → List ℕ → ℕ → Step
  ends_so false p e k r σ i = (at p r σ, refused (Close i) NoSuchRun)
  ends_so true p e k r σ i = (at rest r σ, closed i (record { ending = e; count = k; store = σ }))

  abbrev pub closes : Phase → ℕ → List ℕ → ℕ → Step
  closes away r σ i = (at away r σ, refused (Close i) NoSuchRun)
  closes rest r σ i = (at rest r σ, refused (Close i) NoSuchRun)
  closes (running ps k) r σ i = ends_so (eqb r i) (running ps k) stopped k r σ i
  closes (over e k) r σ i = ends_so (eqb r i) (over e k) e k r σ i

  abbrev pub answer_of : Session → Call → Step
  answer_of v Open = opens_to (opening K ls v.words) v.words
  answer_of v (Post g w) = posts v.phase (cell_of ls g) (K.lawful w) v.runs v.words g w
  answer_of v (Reading g) = reads v.phase (cell_of ls g) v.runs v.words g
  answer_of v Begin = begins v.phase (leb largest v.runs) v.runs v.words
  answer_of v (Grant i n) = grants v.phase v.runs v.words i n
  answer_of v (Close i) = closes v.phase v.runs v.words i
