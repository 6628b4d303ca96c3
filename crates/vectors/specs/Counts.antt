-- How many cases there are of an operation, and in how many of them a kind gives what is wanted.
use Rattle.std.specs.Prelude.{◌≡◌, ℕ, Bool, List, Decides, count_by}
use Rattle.kinds.specs.Arithmetic.{Arithmetic}
use Rattle.vectors.specs.declared.answer.Operation.{Operation}
use Rattle.vectors.specs.declared.case.Case.{Case}
use Rattle.vectors.specs.Answers.{answered}

-- n of the xs are as P says: as many as pass a test that is true exactly where P holds
abbrev pub Counts : {X : Type 0} → (X → Type 0) → List X → ℕ → Type 0
Counts {X} P xs n = (test : X → Bool) × ((x : X) → Decides (test x) (P x)) × (n ≡ count_by test xs)

-- the case is one of the operation
abbrev pub Asks : Operation → Case → Type 0
Asks o c = c.operation ≡ o

-- the kind gives what is wanted
abbrev pub GivesWanted : Arithmetic → Case → Type 0
GivesWanted k c = answered k c.operation c.a c.b ≡ c.wanted
