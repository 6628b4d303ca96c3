-- What opening, post and reading leave and answer, for any place and any store: the words are those of the store that is handed to the call. (What an
-- opening answers is told by Opens, of the crate calls.)
use Rattle.std.specs.Prelude.{ℕ, cond, List, length, Some, None, Ok, Err, Option, Result, nat_lt, slice_set}
use Rattle.std.specs.List.{slice_get}
use Rattle.kinds.specs.Arithmetic.{Arithmetic}
use Rattle.lines.specs.declared.records.Record.{Record}
use Rattle.text.specs.declared.refusals.Refusal.{Refusal}
use Rattle.text.specs.Refusals.{without_line}
use Rattle.acceptance.specs.Sheet.{lines_of}
use Rattle.calls.specs.declared.causes.SessionCause.{SessionCause}
use Rattle.calls.specs.declared.causes.SessionCause.TheVariants.{NotAtRest, NoSuchGlobal, UnlawfulWord, StoreFails}
use Rattle.faults.specs.declared.ending.Ending.{Ending}
use Rattle.engine.specs.declared.levels.Engine.{Engine}
use Rattle.calls.specs.declared.asked.GlobalCell.{GlobalCell}
use Rattle.calls.specs.Globals.{cell_of}

-- What stays of a session from its opening on: the script's records, the size that the store had then, and how many runs were begun.
pub record Setting : Type 0 where
  pub records : List Record
  pub size : ℕ
  pub runs : ℕ

-- What a caller's place for a session holds: none; one at rest; one in a run that has begun so many statements, with the engine's levels; or
-- one with a run that is over, its ending and how many it began.
pub data Held : Type 0 where
  none : Held
  at_rest : Setting → Held
  running : Setting → ℕ → Engine → Held
  over : Setting → Ending → ℕ → Held

-- ## Opening

-- what the place holds then, whatever it held before
abbrev pub after_opening : List Record → List ℕ → Result (Unit {0}) (Refusal SessionCause) → Held
after_opening rs words (Ok _) = at_rest (record { records = rs; size = length words; runs = 0 })
after_opening rs words (Err _) = none

-- ## Post and reading

-- a cell that has to be there
abbrev pub or_no_global : Option ℕ → Result ℕ (Refusal SessionCause)
or_no_global None = Err (without_line NoSuchGlobal)
or_no_global (Some c) = Ok c

-- the cell of a global in a session at rest, or why there is none
abbrev pub cell_in : Held → GlobalCell → Result ℕ (Refusal SessionCause)
cell_in none g = Err (without_line NotAtRest)
cell_in (at_rest o) g = or_no_global (cell_of (lines_of o.records) g)
cell_in (running o k e) g = Err (without_line NotAtRest)
cell_in (over o d k) g = Err (without_line NotAtRest)

-- the word of a cell: the store has to have the cell, and the word to be lawful
abbrev pub lawful_word : Arithmetic → Option ℕ → Result ℕ (Refusal SessionCause)
lawful_word K None = Err (without_line StoreFails)
lawful_word K (Some w) = cond (K.lawful w) (Ok w) (Err (without_line StoreFails))

module _ (K : Arithmetic) (words : List ℕ) where
  -- a post of the word w into a cell
  abbrev pub post_into : ℕ → Result ℕ (Refusal SessionCause) → Result (Unit {0}) (Refusal SessionCause)
  post_into w (Err r) = Err r
  post_into w (Ok c) = cond (K.lawful w) (cond (nat_lt c (length words)) (Ok tt) (Err (without_line StoreFails))) (Err (without_line UnlawfulWord))

  abbrev pub reading_of : Result ℕ (Refusal SessionCause) → Result ℕ (Refusal SessionCause)
  reading_of (Err r) = Err r
  reading_of (Ok c) = lawful_word K (slice_get words c)

-- the words after a post of w that got an answer: an accepted one sets the global's cell
abbrev pub after_post : List ℕ → Result ℕ (Refusal SessionCause) → ℕ → Result (Unit {0}) (Refusal SessionCause) → List ℕ
after_post words (Ok c) w (Ok _) = slice_set words c w
after_post words (Ok c) w (Err _) = words
after_post words (Err r) w a = words
