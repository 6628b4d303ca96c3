-- The lines of a text.
use Rattle.std.specs.Prelude.{ℕ, ◌-◌, cond, List, [], ◌∷◌, Some, None, Option, ◌==◌}
use Rattle.std.specs.List.{slice_get}

-- A line as it stands in a text: closed by a byte 10, which is no part of it, or the end of the text that no byte 10 closes.
pub data Row : Type 0 where
  closed : List ℕ → Row
  unclosed : List ℕ → Row

-- a byte put before the first line
abbrev pub in_front : ℕ → List Row → List Row
in_front b [] = unclosed (b ∷ []) ∷ []
in_front b (closed l ∷ rs) = closed (b ∷ l) ∷ rs
in_front b (unclosed l ∷ rs) = unclosed (b ∷ l) ∷ rs

-- the lines of a text, in order
abbrev pub rows : List ℕ → List Row
rows [] = []
rows (b ∷ bs) = cond (b == 10) (closed [] ∷ rows bs) (in_front b (rows bs))

abbrev pub if_closed : Option Row → Option (List ℕ)
if_closed None = None
if_closed (Some (closed l)) = Some l
if_closed (Some (unclosed l)) = None

-- the text of line n, counted from 1, where the text has that line and it is closed
abbrev pub line_at : List ℕ → ℕ → Option (List ℕ)
line_at text n = cond (n == 0) None (if_closed (slice_get (rows text) (n - 1)))
