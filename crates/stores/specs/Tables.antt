-- A table: a lent slice of words as a store.
use Rattle.std.specs.Prelude.{ℕ, List, take, drop}
use Rattle.stores.specs.Lent.{Lent}

-- The store's words: the first 65,536 of the slice, or all of them where there are fewer.
abbrev pub table_words : List ℕ → List ℕ
table_words cells = take 65536 cells

-- What the slice holds past the store.
abbrev pub table_rest : List ℕ → List ℕ
table_rest cells = drop 65536 cells

-- What a put keeps, of a slice that lies in a loan.
abbrev pub table_lent : ℕ → List ℕ → Lent
table_lent loan cells = record { loan = loan; rest = table_rest cells }
