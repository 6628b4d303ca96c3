-- Words about lists that scripts are told by.
use Rattle.std.specs.Prelude.{◌≡◌, ℕ, ◌+◌, Bool, true, false, ◌⊎◌, List, [], ◌∷◌, ◌==◌}

-- P holds of every element
abbrev pub Each : {A : Type 0} → (A → Type 0) → List A → Type 0
Each P [] = Unit {0}
Each P (a ∷ us) = P a × Each P us

-- P holds of an element at least
abbrev pub Any : {A : Type 0} → (A → Type 0) → List A → Type 0
Any P [] = ⊥
Any P (a ∷ us) = P a ⊎ Any P us

-- no number stands twice in the list
abbrev pub EachOnce : List ℕ → Type 0
EachOnce [] = Unit {0}
EachOnce (l ∷ ls) = Each (λ m. ¬ (l ≡ m)) ls × EachOnce ls

abbrev pub one : Bool → ℕ
one true = 1
one false = 0

-- how often a number stands in a list
abbrev pub times : ℕ → List ℕ → ℕ
times l [] = 0
times l (m ∷ ms) = one (m == l) + times l ms
