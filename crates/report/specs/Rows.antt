-- What is written of a run, or of a refusal: lines of a letter and three numbers, as `f,0,0,4`.
use Rattle.std.specs.Prelude.{ℕ, zero, suc, ◌+◌, List, [], ◌∷◌, ◌++◌, slice_index}
use Rattle.text.specs.Written.{spelling}
use Rattle.lines.specs.declared.records.Line.{Line}
use Rattle.script.specs.Apart.{heads}
use Rattle.acceptance.specs.Scopes.{cells_of}
use Rattle.rule.specs.Rewriting.{Ending, finished, stopped, fault}

-- the bytes of a line
abbrev pub row : ℕ → ℕ → ℕ → ℕ → List ℕ
row letter a b c = spelling (record { letter = letter; first = a; second = b; third = c })

-- of a refusal: r, the number of its cause, and its line
abbrev pub refusal_row : ℕ → ℕ → List ℕ
refusal_row cause line = row 114 cause line 0

-- of a run's ending: f (finished), s (stopped), or x with the fault and its line; then how many statements were begun
abbrev pub ending_row : Ending → ℕ → List ℕ
ending_row finished n = row 102 0 0 n
ending_row stopped n = row 115 0 0 n
ending_row (fault f l) n = row 120 f l n

module _ (words : List ℕ) where
  -- of n elements of the array a, from index i on, the first of them in cell c: for each a line with a, the name, the index and the word
  abbrev pub element_rows : (a i c n : ℕ) → List ℕ
  element_rows a i c zero = []
  element_rows a i c (suc n) = row 97 a i (slice_index words c) ++ element_rows a (suc i) (suc c) n

  -- of a global by its name and length (0: simple), from cell c on: of a simple variable a line with x, the name, 0 and the word
  abbrev pub global_rows : (c a length : ℕ) → List ℕ
  global_rows c a zero = row 120 a 0 (slice_index words c)
  global_rows c a (suc n) = element_rows a 0 c (suc n)

  -- of the globals whose cells begin at c, in line order, which is the order of their cells
  abbrev pub rows_from : ℕ → List (ℕ × ℕ) → List ℕ
  rows_from c [] = []
  rows_from c (g ∷ gs) = global_rows c g.0 g.1 ++ rows_from (c + cells_of g.1) gs

-- of a run of a sheet's lines that ended so: its ending, and then a line for each cell of the globals, whose words are then these
abbrev pub run_rows : List Line → Ending → ℕ → List ℕ → List ℕ
run_rows ls ending n words = ending_row ending n ++ rows_from words 0 (heads ls)
