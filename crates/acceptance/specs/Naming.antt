-- Whether a line is named and by which, as the program asks it. Nothing here needs to be believed: the tests of the crate script are what the checks promise.
use Rattle.std.specs.Prelude.{ℕ, Bool, false, ◌||◌, List, [], ◌∷◌, Some, None, Option, ◌==◌}

-- m is one of the numbers
abbrev pub stands : ℕ → List ℕ → Bool
stands m [] = false
stands m (x ∷ xs) = x == m || stands m xs

-- one of ms stands before, or twice among them
abbrev pub stands_again : List ℕ → List ℕ → Bool
stands_again before [] = false
stands_again before (m ∷ ms) = stands m before || stands_again (m ∷ before) ms

-- the number that `user` of the crate script has for a line that may be there
abbrev pub line_of_user : Option ℕ → ℕ
line_of_user None = 0
line_of_user (Some n) = n
