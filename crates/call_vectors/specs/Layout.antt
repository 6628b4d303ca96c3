-- How a file lays out a list of calls.
use Rattle.std.specs.Prelude.{◌≡◌, ℕ, List, ◌++◌, codes}

-- The text is a head with the kind and a number of cells, a line with the number of the sheet's lines, the sheet, the first words of the store, and the
-- lines of the calls.
pub record LaidOut (text kind sheet store calls : List ℕ) : Type 0 where
  pub cells : List ℕ
  pub count : List ℕ
  pub whole : text ≡ codes "case " ++ (kind ++ (codes " " ++ (cells ++ (codes "\n" ++ (count ++ (codes "\n" ++ (sheet ++ (codes "store" ++ (store ++ (codes "\n" ++ calls))))))))))
