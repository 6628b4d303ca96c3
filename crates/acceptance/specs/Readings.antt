-- What a reading shows: the records that were lent to it, and among them the script that was read, or the refusal.
use Rattle.std.specs.Prelude.{ℕ, List, take, Ok, Err, Result}
use Rattle.std.specs.Borrow.{GName}
use Rattle.kinds.specs.declared.kind.NumberKind.{Ghosts}
use Rattle.lines.specs.declared.records.Record.{Record}
use Rattle.text.specs.declared.refusals.Refusal.{Refusal}
use Rattle.acceptance.specs.declared.scripts.ScriptCause.{ScriptCause}
use Rattle.acceptance.specs.declared.scripts.Reading.{Reading}

-- as many of the records from the first on as the script has lines, or the refusal
abbrev pub script_among : List Record → Result ℕ (Refusal ScriptCause) → Result (List Record) (Refusal ScriptCause)
script_among rs (Ok count) = Ok (take count rs)
script_among rs (Err r) = Err r

module _ {K : Type 0} {g : Ghosts K} where
  -- the number of the script's lines, or the refusal
  abbrev pub answer_of : Reading K g → Result ℕ (Refusal ScriptCause)
  answer_of r = r.answer

  -- all the lent records, as they are
  abbrev pub records_of : Reading K g → List Record
  records_of r = r.lent.now

  -- The name of the loan that they came by: references with one name are one loan. So where it is the name of the reference that was passed, what
  -- the reading leaves in the records is what that reference's memory holds once the reading is gone.
  abbrev pub loan_of : Reading K g → GName
  loan_of r = r.lent.ghost_name

  -- the script that was read, or the refusal
  abbrev pub script_of : Reading K g → Result (List Record) (Refusal ScriptCause)
  script_of r = script_among (records_of r) (answer_of r)
