-- What a name stands for while a script runs.
use Rattle.std.specs.Prelude.{ℕ}
use Rattle.script.specs.Script.{Statement}

pub data Standing : Type 0 where
  nothing : Standing
  -- a cell of the store
  cell : ℕ → Standing
  -- so many cells from a first one on
  cells : ℕ → ℕ → Standing
  -- a procedure: its value formal, its variable formal and its body
  code : ℕ → ℕ → Statement → Standing

abbrev pub Names : Type 0
Names = ℕ → Standing
