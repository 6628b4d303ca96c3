-- What a unit's program writes of a card.
use Rattle.std.specs.Prelude.{ℕ, List, Option, replicate, take}
use Rattle.std.specs.Io.KnownBytes.{Appends}
use Rattle.field.specs.Report.{Writes}

-- the report of the card, with room for the 2,048 lines that a sheet may have, over 1,024 zero words, comes after what was written before
abbrev pub CardTold : List ℕ → Option (List ℕ) → Option (List ℕ) → Type 0
CardTold card before after = (written σ : List ℕ) × Writes 2048 card (replicate 1024 0) written σ × Appends before after written

-- a front of that report comes after it, of whatever length
abbrev pub FrontTold : List ℕ → Option (List ℕ) → Option (List ℕ) → Type 0
FrontTold card before after = (written σ : List ℕ) × (n : ℕ) × Writes 2048 card (replicate 1024 0) written σ × Appends before after (take n written)
