-- Where a byte stands in a text.
use Rattle.std.specs.Prelude.{◌≡◌, ℕ, ◌<◌, List, ◌∷◌, ◌++◌, length, ◌≢◌, slice_index}

-- the byte stands nowhere in the text
abbrev pub Absent : ℕ → List ℕ → Type 0
Absent byte text = (k : ℕ) → k < length text → slice_index text k ≢ byte

-- the text is `front`, which lacks the byte, then the byte, then `back`
pub record CutAt (byte : ℕ) (text front back : List ℕ) : Type 0 where
  pub whole : text ≡ front ++ byte ∷ back
  pub lacks : Absent byte front
