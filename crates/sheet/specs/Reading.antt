-- Reading a sheet: what its lines say, and the first line at fault.
use Rattle.std.specs.Prelude.{◌≡◌, ℕ, suc, Bool, cond, ◌&&◌, List, [], ◌∷◌, ◌++◌, map, length, drop, Some, None, Ok, Err, Option, Result, nat_le}
use Rattle.text.specs.Lines.{Row, closed, unclosed, rows}
use Rattle.lines.specs.declared.records.Line.{Line}
use Rattle.lines.specs.declared.records.Record.{Record}
use Rattle.lines.specs.declared.refusals.Cause.{Cause}
use Rattle.lines.specs.declared.refusals.Cause.TheVariants.{TextSize, Form, Room}
use Rattle.text.specs.declared.refusals.Refusal.{Refusal}
use Rattle.lines.specs.Reading.{line_reading}

-- what line n of a text says, or why it is refused, if there is room for it: it has to be closed, and then to read as `line_reading` says
abbrev pub row_reading : ℕ → Row → Result Line Cause
row_reading n (closed l) = line_reading n l
row_reading n (unclosed l) = Err Form

-- the first line of a text, which is line n, says this, and this is the text after it
abbrev pub FirstReads : ℕ → List ℕ → Line → List ℕ → Type 0
FirstReads n text l after = (row : Row) × (rows text ≡ row ∷ rows after) × (row_reading n row ≡ Ok l)

-- the first line of a text, which is line n, is refused
abbrev pub FirstRefuses : ℕ → List ℕ → Cause → Type 0
FirstRefuses n text c = (row : Row) × (later : List Row) × (rows text ≡ row ∷ later) × (row_reading n row ≡ Err c)

-- The reading of a line with `room` records lent: line 2,049, and a line that no record is left for, are refused before anything else.
abbrev pub reading : ℕ → ℕ → Row → Result Line Cause
reading room n row = cond (nat_le n 2048 && nat_le n room) (row_reading n row) (Err Room)

-- what reading gives: the lines before the first that is refused, and that refusal, if any
pub record Outcome : Type 0 where
  pub lines : List Line
  pub refusal : Option (Refusal Cause)

-- nothing read, and a refusal
abbrev pub refused : Cause → ℕ → Outcome
refused c n = record { lines = []; refusal = Some (record { cause = c; line = n }) }

-- a line's own reading, before what the lines after it give
abbrev pub then_outcome : ℕ → Result Line Cause → Outcome → Outcome
then_outcome n (Err c) o = refused c n
then_outcome n (Ok l) o = record { lines = l ∷ o.lines; refusal = o.refusal }

-- the lines from line n on, read in order up to the first that is refused
unfoldable pub from_line : ℕ → ℕ → List Row → Outcome
from_line room n [] = record { lines = []; refusal = None }
from_line room n (row ∷ rows) = then_outcome n (reading room n row) (from_line room (suc n) rows)

-- a sheet has 1 to 65,536 bytes
abbrev pub sized : List ℕ → Bool
sized text = nat_le 1 (length text) && nat_le (length text) 65536

-- what reading a text gives, with `room` records to fill
abbrev pub outcome : ℕ → List ℕ → Outcome
outcome room text = cond (sized text) (from_line room 1 (rows text)) (refused TextSize 0)

abbrev pub or_count : ℕ → Option (Refusal Cause) → Result ℕ (Refusal Cause)
or_count n None = Ok n
or_count n (Some r) = Err r

-- the answer: how many lines were read, or the refusal
abbrev pub answer : Outcome → Result ℕ (Refusal Cause)
answer o = or_count (length o.lines) o.refusal

-- a record as the reader fills it: no name has its declaration yet
abbrev pub unresolved : Line → Record
unresolved l = record { line = l; declaration = None }

-- the records' memory after: those of the lines that were read, and all the rest as it was
abbrev pub filled : List Line → List Record → List Record
filled ls old = map unresolved ls ++ drop (length ls) old
