-- How a file lays out its cases.
use Rattle.std.specs.Prelude.{◌≡◌, ℕ, List, ◌∷◌, ◌++◌, codes}

-- the text begins with a line of the word and a number, and goes on with the rest
pub record HasHead (word text rest : List ℕ) : Type 0 where
  pub number : List ℕ
  pub whole : text ≡ word ++ (number ++ 10 ∷ rest)

-- the text is a case, a sheet and the lines wanted of it, each after its head, and then the rest
pub record HasCase (text sheet want rest : List ℕ) : Type 0 where
  pub middle : List ℕ
  pub sheet_head : HasHead (codes "sheet ") text (sheet ++ middle)
  pub want_head : HasHead (codes "want ") middle (want ++ rest)
