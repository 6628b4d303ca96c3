-- The right answer to a text, whatever the reader does to find it.
use Rattle.std.specs.Prelude.{◌≡◌, ℕ, ◌+◌, ◌<◌, true, false, ◌⊎◌, List, length, Some, Ok, Err, Result}
use Rattle.std.specs.List.{slice_get}
use Rattle.text.specs.Lines.{Row, rows}
use Rattle.lines.specs.declared.records.Line.{Line}
use Rattle.lines.specs.declared.refusals.Cause.{Cause}
use Rattle.lines.specs.declared.refusals.Cause.TheVariants.{TextSize}
use Rattle.text.specs.declared.refusals.Refusal.{Refusal}
use Rattle.sheet.specs.Reading.{reading, sized}

-- of these lines, the first of which is line n, each of the first k is read
abbrev pub AllRead : ℕ → ℕ → List Row → ℕ → Type 0
AllRead room n rs k = (j : ℕ) (row : Row) → j < k → slice_get rs j ≡ Some row → (l : Line) × (reading room (n + j) row ≡ Ok l)

-- of these lines, the first of which is line n, the lowest that is refused has this cause and number
abbrev pub FirstRefused : ℕ → ℕ → List Row → Refusal Cause → Type 0
FirstRefused room n rs r =
    (k : ℕ) × (row : Row) × (r.line ≡ n + k) × (slice_get rs k ≡ Some row) × (reading room (n + k) row ≡ Err r.cause) × AllRead room n rs k

-- A text is read, with the number of its lines, where it has 1 to 65,536 bytes and each line is read;
-- it is refused for its size, or else for its lowest line that is refused.
abbrev pub Verdict : ℕ → List ℕ → Result ℕ (Refusal Cause) → Type 0
Verdict room text (Ok count) = (sized text ≡ true) × (count ≡ length (rows text)) × AllRead room 1 (rows text) count
Verdict room text (Err r) =
    ((sized text ≡ false) × (r ≡ record { cause = TextSize; line = 0 })) ⊎ ((sized text ≡ true) × FirstRefused room 1 (rows text) r)
