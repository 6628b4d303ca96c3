-- What a unit's program writes of a text, and leaves in its store: a script is read for whole numbers, a session of it is opened, and one run is made.
use Rattle.std.specs.Prelude.{◌≡◌, ℕ, List, length, Ok, Err, Result}
use Rattle.kinds.specs.Whole.{whole}
use Rattle.text.specs.declared.refusals.Refusal.{Refusal}
use Rattle.sheet.specs.Reading.{Outcome, outcome}
use Rattle.acceptance.specs.Scripts.{RightAnswer, script_number_of}
use Rattle.acceptance.specs.declared.scripts.ScriptCause.{ScriptCause}
use Rattle.rule.specs.Closing.{Closing, Closes, program_of}
use Rattle.calls.specs.Causes.{number_of}
use Rattle.calls.specs.Openings.{Opens}
use Rattle.calls.specs.declared.causes.SessionCause.{SessionCause}
use Rattle.report.specs.Rows.{refusal_row, run_rows}

-- how many statements the run is allowed
abbrev pub allowance : ℕ
allowance = 1000000

-- What comes of a text whose lines are read so, over a store with these words: that is written, and then the store has the words σ.
pub data Comes (o : Outcome) (words written σ : List ℕ) : Type 0 where
  no_script : (r : Refusal ScriptCause) → RightAnswer whole.least whole.most o (Err r)
      → written ≡ refusal_row (script_number_of r.cause) r.line → σ ≡ words → Comes o words written σ
  not_opened : (n : ℕ) (r : Refusal SessionCause) → RightAnswer whole.least whole.most o (Ok n) → Opens whole o.lines words (Err r)
      → written ≡ refusal_row (number_of r.cause) r.line → σ ≡ words → Comes o words written σ
  ran : (n : ℕ) (c : Closing) (s : RightAnswer whole.least whole.most o (Ok n)) → Opens whole o.lines words (Ok tt)
      → Closes whole (program_of o.lines s.1.text) (length words) words allowance c
      → written ≡ run_rows o.lines c.ending c.count c.store → σ ≡ c.store → Comes o words written σ

-- the same of a text, with room for so many lines
abbrev pub Writes : (room : ℕ) (text words written σ : List ℕ) → Type 0
Writes room text = Comes (outcome room text)

-- what reading the text comes to: how many lines it has, or a refusal
abbrev pub Reads : ℕ → List ℕ → Result ℕ (Refusal ScriptCause) → Type 0
Reads room text = RightAnswer whole.least whole.most (outcome room text)

-- of every text and store exactly one report is written, and the store has exactly one list of words then
abbrev pub OneReport : Type 0
OneReport = (room : ℕ) (text words : List ℕ) → (written σ : List ℕ) × Writes room text words written σ
    × ((other τ : List ℕ) → Writes room text words other τ → (other ≡ written) × (τ ≡ σ))
