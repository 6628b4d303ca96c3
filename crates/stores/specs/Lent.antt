-- What the owner of the memory that a store lies in counts on: a store never changes it.
use Rattle.std.specs.Prelude.{ℕ, List}

pub record Lent : Type 0 where
  -- Which loan of the memory the cells lie in. Since it stays, the owner knows that what it finds in its memory
  -- after the store's life is what this store left there.
  pub loan : ℕ
  -- What the memory holds past the last cell.
  pub rest : List ℕ
