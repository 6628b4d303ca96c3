-- How far a number lies from an exact quotient.
use Rattle.std.specs.Prelude.{ℕ, ℤ, ◌-ℤ◌, ◌*ℤ◌, unsigned_abs}

-- how far n lies from p / d, |d| times over
abbrev pub distance : ℤ → ℤ → ℤ → ℕ
distance p d n = unsigned_abs (n *ℤ d -ℤ p)
