-- What a put into a list of words answers.
use Rattle.std.specs.Prelude.{ℕ, ◌<◌, ◌≤◌, List, length, Ok, Err, Result}
use Rattle.stores.specs.declared.store.NoSuchCell.{NoSuchCell}

-- The refusal: there is only this one.
abbrev pub no_such_cell : NoSuchCell
no_such_cell = record {}

-- Done exactly at the places below the size, refused exactly at the size and above it.
abbrev pub AnswersPut : List ℕ → ℕ → Result (Unit {0}) NoSuchCell → Type 0
AnswersPut words at (Ok _) = at < length words
AnswersPut words at (Err _) = length words ≤ at
