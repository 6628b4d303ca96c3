-- The calls so far, and what they leave: the words of the store, and what the caller's place holds.
use Rattle.std.specs.Prelude.{ℕ, ◌+◌, Bool, true, false, List, [], ◌∷◌, Some, None, Ok, Err, Option, Result, slice_set}
use Rattle.text.specs.declared.refusals.Refusal.{Refusal}
use Rattle.text.specs.Refusals.{without_line}
use Rattle.lines.specs.declared.records.Line.{Line}
use Rattle.rule.specs.Closing.{Closing}
use Rattle.faults.specs.Endings.{ending_of}
use Rattle.calls.specs.declared.asked.Answer.{Answer}
use Rattle.calls.specs.declared.asked.Answer.TheVariants.{Opened, Posted, Word, Began, Running, Over, Closed}
use Rattle.calls.specs.declared.asked.Call.{Call}
use Rattle.calls.specs.declared.asked.Call.TheVariants.{Open, Post, Reading, Begin, Grant, Close}
use Rattle.calls.specs.declared.asked.GlobalCell.{GlobalCell}
use Rattle.calls.specs.declared.causes.SessionCause.{SessionCause}
use Rattle.calls.specs.Globals.{cell_of}

-- ## Calls with what came of them

pub data Event : Type 0 where
  opened : Event
  -- an opening that was refused
  not_opened : Refusal SessionCause → Event
  -- any other call that was refused
  refused : Call → SessionCause → Event
  posted : GlobalCell → ℕ → Event
  -- a reading, with the word that it gave
  read : GlobalCell → ℕ → Event
  -- a run was begun, with the number that its ticket got
  began : ℕ → Event
  -- the run with that number was granted so many statements more: whether it was over then, and the words of the store
  granted : ℕ → ℕ → Bool → List ℕ → Event
  -- the run with that number was closed
  closed : ℕ → Closing → Event

-- the calls so far, the latest first
abbrev pub History : Type 0
History = List Event

abbrev pub call_of : Event → Call
call_of opened = Open
call_of (not_opened r) = Open
call_of (refused q c) = q
call_of (posted g w) = Post g w
call_of (read g w) = Reading g
call_of (began k) = Begin
call_of (granted k n b σ) = Grant k n
call_of (closed k c) = Close k

-- What the caller is told: an answer, or why there is none. An ending is told by its fault; none of a script's runs has a fault that is no Fault
-- (ClosingsKnown of the crate faults).
abbrev pub Reply : Type 0
Reply = Result Answer (Refusal SessionCause)

abbrev pub reply_of : Event → Reply
reply_of opened = Ok Opened
reply_of (not_opened r) = Err r
reply_of (refused q c) = Err (without_line c)
reply_of (posted g w) = Ok Posted
reply_of (read g w) = Ok (Word w)
reply_of (began k) = Ok (Began k)
reply_of (granted k n false σ) = Ok Running
reply_of (granted k n true σ) = Ok Over
reply_of (closed k c) = Ok (Closed (ending_of c.ending) c.count)

-- ## What they leave

-- a run that is open: its number, what it was granted in all, and the words of the store at its begin
pub record Run : Type 0 where
  pub number : ℕ
  pub granted : ℕ
  pub from : List ℕ

-- what the caller's place holds: no session; one between runs, of which it has begun so many; or one in a run
pub data Place : Type 0 where
  empty : Place
  between : ℕ → Place
  in_run : Run → Place

-- the words of the store, and what the place holds
pub record Ledger : Type 0 where
  pub words : List ℕ
  pub place : Place

-- a word put into a cell, where there is one
abbrev pub put_into : Option ℕ → ℕ → List ℕ → List ℕ
put_into None w words = words
put_into (Some c) w words = slice_set words c w

abbrev pub more : ℕ → Place → Place
more n empty = empty
more n (between m) = between m
more n (in_run r) = in_run (record { number = r.number; granted = r.granted + n; from = r.from })

module _ (ls : List Line) where
  abbrev pub after : Event → Ledger → Ledger
  after opened s = record { words = s.words; place = between 0 }
  after (not_opened r) s = record { words = s.words; place = empty }
  after (refused q c) s = s
  after (posted g w) s = record { words = put_into (cell_of ls g) w s.words; place = s.place }
  after (read g w) s = s
  after (began k) s = record { words = s.words; place = in_run (record { number = k; granted = 0; from = s.words }) }
  after (granted k n b σ) s = record { words = σ; place = more n s.place }
  after (closed k c) s = record { words = c.store; place = between k }

  -- at first there is no session
  abbrev pub ledger : List ℕ → History → Ledger
  ledger first [] = record { words = first; place = empty }
  ledger first (e ∷ h) = after e (ledger first h)
