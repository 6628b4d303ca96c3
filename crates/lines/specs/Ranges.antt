-- The ranges of a line's fields, and the field groups that several sorts of line share.
-- Each says what the fields hold, or nothing where one of them is no number of its range.
use Rattle.std.specs.Prelude.{◌≡◌, ℕ, ◌⊎◌, cond, List, ℤ, Some, None, Option, nat_le}
use Rattle.text.specs.Spelling.{number, integer}

-- what is made of a value, where there is one
abbrev pub given : {A B : Type 0} → Option A → (A → Option B) → Option B
given None f = None
given (Some a) f = f a

abbrev pub at_least : ℕ → Option ℕ → Option ℕ
at_least low None = None
at_least low (Some n) = cond (nat_le low n) (Some n) None

-- the number from `low` to `high` that a field spells
abbrev pub within : ℕ → ℕ → List ℕ → Option ℕ
within low high field = at_least low (number high field)

abbrev pub name : List ℕ → Option ℕ
name = within 1 255

abbrev pub line_number : List ℕ → Option ℕ
line_number = within 1 2048

abbrev pub global_length : List ℕ → Option ℕ
global_length = within 0 256

abbrev pub array_length : List ℕ → Option ℕ
array_length = within 1 256

-- an unused field is 0
abbrev pub unused : List ℕ → Option ℕ
unused = within 0 0

-- one of the four is nothing, and those before it are something
abbrev pub LacksOne : {A B C D : Type 0} → Option A → Option B → Option C → Option D → Type 0
LacksOne {A = A} {B = B} {C = C} a b c d =
    (a ≡ None)
    ⊎ ((x : A) × (a ≡ Some x) × (b ≡ None))
    ⊎ ((x : A) × (y : B) × (a ≡ Some x) × (b ≡ Some y) × (c ≡ None))
    ⊎ ((x : A) × (y : B) × (z : C) × (a ≡ Some x) × (b ≡ Some y) × (c ≡ Some z) × (d ≡ None))

module _ (a b c d : List ℕ) where
  -- no field used
  abbrev pub no_fields : Option ℕ
  no_fields = given (unused a) (λ _. given (unused b) (λ _. given (unused c) (λ _. unused d)))

  abbrev pub a_name : Option ℕ
  a_name = given (name a) (λ n. given (unused b) (λ _. given (unused c) (λ _. given (unused d) (λ _. Some n))))

  abbrev pub a_constant : Option ℤ
  a_constant = given (integer a) (λ z. given (unused b) (λ _. given (unused c) (λ _. given (unused d) (λ _. Some z))))

  abbrev pub one_line : Option ℕ
  one_line = given (line_number a) (λ l. given (unused b) (λ _. given (unused c) (λ _. given (unused d) (λ _. Some l))))

  abbrev pub two_lines : Option (ℕ × ℕ)
  two_lines = given (line_number a) (λ l. given (line_number b) (λ m. given (unused c) (λ _. given (unused d) (λ _. Some (l, m)))))

  abbrev pub three_lines : Option (ℕ × ℕ × ℕ)
  three_lines = given (line_number a) (λ l. given (line_number b) (λ m. given (line_number c) (λ n. given (unused d) (λ _. Some (l, m, n)))))

  abbrev pub name_and_length : Option (ℕ × ℕ)
  name_and_length = given (name a) (λ n. given (global_length b) (λ k. given (unused c) (λ _. given (unused d) (λ _. Some (n, k)))))

  abbrev pub name_and_line : Option (ℕ × ℕ)
  name_and_line = given (name a) (λ n. given (line_number b) (λ l. given (unused c) (λ _. given (unused d) (λ _. Some (n, l)))))

  abbrev pub name_and_two_lines : Option (ℕ × ℕ × ℕ)
  name_and_two_lines = given (name a) (λ n. given (line_number b) (λ l. given (line_number c) (λ m. given (unused d) (λ _. Some (n, l, m)))))

  abbrev pub name_length_line : Option (ℕ × ℕ × ℕ)
  name_length_line = given (name a) (λ n. given (array_length b) (λ k. given (line_number c) (λ l. given (unused d) (λ _. Some (n, k, l)))))

  abbrev pub three_names_and_line : Option (ℕ × ℕ × ℕ × ℕ)
  three_names_and_line = given (name a) (λ n. given (name b) (λ x. given (name c) (λ y. given (line_number d) (λ l. Some (n, x, y, l)))))
