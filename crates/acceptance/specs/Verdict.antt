-- What the check of a whole sheet answers.
use Rattle.std.specs.Prelude.{ℕ, List, ℤ, Some, None, Ok, Err, codes, Option, Result}
use Rattle.lines.specs.declared.records.Line.{Line}
use Rattle.script.specs.IsScript.{IsScript}
use Rattle.script.specs.Causes.{Refused}
use Rattle.acceptance.specs.declared.verdict.SheetCause.{SheetCause}
use Rattle.acceptance.specs.declared.verdict.SheetCause.TheVariants.{OutOfForm, NameAgain, Undeclared, TooDeep, OutOfKind}
use Rattle.text.specs.declared.refusals.Refusal.{Refusal}
use Rattle.script.specs.Causes.{Reason, name_again, number_of, out_of_form, out_of_kind, too_deep, undeclared}

-- the cause that each answer stands for; its number is the one that the causes of a script's refusal have
abbrev pub reason_of : SheetCause → Reason
reason_of OutOfForm = out_of_form
reason_of NameAgain = name_again
reason_of Undeclared = undeclared
reason_of TooDeep = too_deep
reason_of OutOfKind = out_of_kind

-- what each cause means, in plain words
abbrev pub meaning_of : SheetCause → List ℕ
meaning_of OutOfForm = codes "the lines do not make one script"
meaning_of NameAgain = codes "a name is declared twice"
meaning_of Undeclared = codes "a name is not declared"
meaning_of TooDeep = codes "nested deeper than 64"
meaning_of OutOfKind = codes "a constant outside the number kind"

-- the number and the line of a refusal; none where the sheet is accepted
abbrev pub told : {A : Type 0} → Result A (Refusal SheetCause) → Option (ℕ × ℕ)
told (Ok a) = None
told (Err f) = Some (number_of (reason_of f.cause), f.line)

-- The answer is right for the number kind with the constants from low to high: the lines are a script; or they are none, and are refused for that number and line.
abbrev pub Judged : {A : Type 0} → ℤ → ℤ → List Line → Result A (Refusal SheetCause) → Type 0
Judged low high ls (Ok a) = IsScript low high ls
Judged low high ls (Err f) = Refused low high ls (number_of (reason_of f.cause)) f.line × (IsScript low high ls → ⊥)
