-- Reading a script: a text whose lines are read, and are together a script.
use Rattle.std.specs.Prelude.{◌≡◌, ℕ, ◌≤◌, List, length, take, drop, ⊤, Some, None, Ok, Err, ℤ, Option, Result}
use Rattle.lines.specs.declared.records.Line.{Line}
use Rattle.lines.specs.declared.records.Record.{Record}
use Rattle.lines.specs.declared.records.Role.{Role}
use Rattle.lines.specs.declared.records.Role.TheVariants.{GlobalSimple, GlobalArray}
use Rattle.text.specs.declared.refusals.Refusal.{Refusal}
use Rattle.sheet.specs.Reading.{Outcome, answer, filled}
use Rattle.script.specs.Apart.{found, globals_of}
use Rattle.script.specs.IsScript.{IsScript}
use Rattle.script.specs.Names.{Standing, nothing, code, cell, cells}
use Rattle.script.specs.Causes.{Refused, number_of}
use Rattle.standing.specs.Records.{Resolved}
use Rattle.acceptance.specs.declared.globals.GlobalSort.{GlobalSort}
use Rattle.acceptance.specs.declared.globals.GlobalSort.TheVariants.{Simple, Array}
use Rattle.acceptance.specs.declared.scripts.ScriptCause.{ScriptCause}
use Rattle.acceptance.specs.declared.scripts.ScriptCause.TheVariants.{OfLine, OfSheet}
use Rattle.acceptance.specs.Sheet.{lines_of}
use Rattle.acceptance.specs.Verdict.{reason_of, meaning_of}
use Rattle.lines.specs.Refusals.{number_of as line_number_of, meaning_of as line_meaning_of}

-- The records of a script for the number kind with the constants from low to high: there are no more than a sheet may have, their lines are
-- one, and each record that uses a name tells the declaration that the name belongs to.
pub record Accepted (low high : ℤ) (rs : List Record) : Type 0 where
  pub few : length rs ≤ 2048
  pub script : IsScript low high (lines_of rs)
  pub resolved : Resolved (lines_of rs) rs

-- the refusal is right: of a line, or of all the lines together, which are then no script
abbrev pub RightRefusal : ℤ → ℤ → Outcome → ScriptCause → ℕ → Type 0
RightRefusal low high o (OfLine c) n = answer o ≡ Err (record { cause = c; line = n })
RightRefusal low high o (OfSheet c) n = (answer o ≡ Ok (length o.lines)) × Refused low high o.lines (number_of (reason_of c)) n × (IsScript low high o.lines → ⊥)

-- The answer to a text is right for that number kind, where o is what the reading of its lines gives: all are read and are a script; or one is
-- refused; or all are read and are refused together, for that number and line, and are no script.
abbrev pub RightAnswer : ℤ → ℤ → Outcome → Result ℕ (Refusal ScriptCause) → Type 0
RightAnswer low high o (Ok count) = (answer o ≡ Ok count) × IsScript low high o.lines
RightAnswer low high o (Err r) = RightRefusal low high o r.cause r.line

-- What the records' memory is after it: those of a script tell their declarations, and the rest is as it was; at a refusal the records of the
-- lines that were read are filled, without declarations, and the rest is as it was.
abbrev pub LeftAs : ℤ → ℤ → Outcome → List Record → Result ℕ (Refusal ScriptCause) → List Record → Type 0
LeftAs low high o old (Ok count) new = (lines_of (take count new) ≡ o.lines) × Accepted low high (take count new) × (drop count new ≡ drop count old)
LeftAs low high o old (Err r) new = new ≡ filled o.lines old

-- where a script was read, its records are there and are accepted
abbrev pub HasScript : ℤ → ℤ → Result ℕ (Refusal ScriptCause) → List Record → Type 0
HasScript low high (Ok count) rs = (count ≤ length rs) × Accepted low high (take count rs)
HasScript low high (Err r) rs = ⊤

-- the numbers and the meanings of both sorts of refusal
abbrev pub script_number_of : ScriptCause → ℕ
script_number_of (OfLine c) = line_number_of c
script_number_of (OfSheet c) = number_of (reason_of c)

abbrev pub script_meaning_of : ScriptCause → List ℕ
script_meaning_of (OfLine c) = line_meaning_of c
script_meaning_of (OfSheet c) = meaning_of c

-- what the global of a sort and a name stands for by the copy rule: nothing where there is none
abbrev pub global_standing : List Line → GlobalSort → ℕ → Standing
global_standing ls Simple a = (globals_of ls).names (found (globals_of ls).scope.simples a)
global_standing ls Array a = (globals_of ls).names (found (globals_of ls).scope.arrays a)

-- the role of the global that stands for that: none where there is no global, and none has code
abbrev pub role_of : Standing → Option Role
role_of nothing = None
role_of (code x y s) = None
role_of (cell c) = Some (GlobalSimple c)
role_of (cells b n) = Some (GlobalArray b n)

abbrev pub global_role : List Line → GlobalSort → ℕ → Option Role
global_role ls sort a = role_of (global_standing ls sort a)
