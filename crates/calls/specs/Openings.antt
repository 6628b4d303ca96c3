-- What an opening answers: whether a store has room for a script's globals, and holds only lawful words in them.
use Rattle.std.specs.Prelude.{ℕ, ◌<◌, ◌≤◌, List, length, Ok, Err, Result}
use Rattle.kinds.specs.Arithmetic.{Arithmetic}
use Rattle.text.specs.declared.refusals.Refusal.{Refusal}
use Rattle.text.specs.Refusals.{without_line}
use Rattle.lines.specs.declared.records.Line.{Line}
use Rattle.script.specs.Apart.{globals_of}
use Rattle.calls.specs.declared.causes.SessionCause.{SessionCause}
use Rattle.calls.specs.declared.causes.SessionCause.TheVariants.{StoreTooSmall, UnlawfulGlobal}
use Rattle.calls.specs.Globals.{FirstUnlawful, Unlawful}

-- the answer to an opening of a script with the lines ls, over a store with these words
pub data Opens (K : Arithmetic) (ls : List Line) (words : List ℕ) : Result (Unit {0}) (Refusal SessionCause) → Type 0 where
  too_small : length words < (globals_of ls).taken → Opens K ls words (Err (without_line StoreTooSmall))
  -- the lowest line whose global has an unlawful word is told
  unlawful : {n : ℕ} → (globals_of ls).taken ≤ length words → FirstUnlawful K ls words n → Opens K ls words (Err (record { cause = UnlawfulGlobal; line = n }))
  opens : (globals_of ls).taken ≤ length words → ((n : ℕ) → ¬ (Unlawful K ls words n)) → Opens K ls words (Ok tt)
