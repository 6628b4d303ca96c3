-- The fields of a line: what stands between its commas.
use Rattle.std.specs.Prelude.{ℕ, cond, List, [], ◌∷◌, ◌==◌}

-- a byte put before the first field
abbrev pub onto : ℕ → List (List ℕ) → List (List ℕ)
onto b [] = []
onto b (f ∷ fs) = (b ∷ f) ∷ fs

-- the fields of a line; a line without a comma is one field (44 is the comma)
abbrev pub fields : List ℕ → List (List ℕ)
fields [] = [] ∷ []
fields (b ∷ bs) = cond (b == 44) ([] ∷ fields bs) (onto b (fields bs))
