-- The copy rule's own count: the least allowance with which a run is not stopped.
use Rattle.std.specs.Prelude.{◌≡◌, ℕ, ◌+◌, List}
use Rattle.kinds.specs.Arithmetic.{Arithmetic}
use Rattle.rule.specs.Rewriting.{stopped}
use Rattle.rule.specs.Closing.{Program, Closing, Closes, Stopped, OwnCount, IsOver}

-- a run with an allowance is over exactly where the rule is not stopped, that is decided, and there is at most one own count
abbrev pub Counted : Type 0
Counted = (K : Arithmetic) (P : Program) (size : ℕ) (σ : List ℕ)
    → ((n : ℕ) → (IsOver K P size σ n → ¬ (Stopped K P size σ n)) × (¬ (Stopped K P size σ n) → IsOver K P size σ n) × Dec (Stopped K P size σ n))
    × ((m n : ℕ) → OwnCount K P size σ m → OwnCount K P size σ n → m ≡ n)

-- with more allowance a run that is not stopped closes as it did
abbrev pub Stays : Type 0
Stays = (K : Arithmetic) (P : Program) (size : ℕ) (σ : List ℕ) (n m : ℕ) (c : Closing) → Closes K P size σ n c → ¬ (c.ending ≡ stopped) → Closes K P size σ (n + m) c
