-- What reading a card takes from a reader, where the bytes that it has left are known.
use Rattle.std.specs.Prelude.{ℕ, ◌≤◌, List, length, Option}
use Rattle.std.specs.Io.KnownBytes.{Consumes}

-- one byte past the 65,536 that a sheet may have
abbrev pub most_read : ℕ
most_read = 65537

-- the reader has lost bytes off its front alone, and no more than `most` of them
abbrev pub LosesAtMost : ℕ → Option (List ℕ) → Option (List ℕ) → Type 0
LosesAtMost most old new = (bs : List ℕ) × (length bs ≤ most) × Consumes old new bs
