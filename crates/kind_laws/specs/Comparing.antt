-- Comparisons, constants and indexes of Single, in exact numbers.
use Rattle.std.specs.Prelude.{◌≡◌, ℕ, ◌*◌, ◌<◌, Bool, true, false, T, ℤ, pos, ◌*ℤ◌, Some, None, Option, int_lt}
use Rattle.kinds.specs.Arithmetic.{holds, constant_word}
use Rattle.kinds.specs.Single.{single, lawful}
use Rattle.kind_laws.specs.Exact.{units, one}

-- yes exactly where the two numbers are the same
abbrev pub Equality : ℕ → ℕ → Bool → Type 0
Equality a b r = (r ≡ true → units a ≡ units b) × (units a ≡ units b → r ≡ true)

-- a lawful word whose number is the constant itself, and none exactly where the kind does not hold it
abbrev pub Constant : ℤ → Option ℕ → Type 0
Constant z (Some w) = T (holds single z) × T (lawful w) × (units w ≡ z *ℤ pos one)
Constant z None = holds single z ≡ false

-- n exactly where the number is n, and n is below 16777216; that is, exactly where the word equals the constant n
pub record Index (w : ℕ) (r : Option ℕ) : Type 0 where
  pub only : (n : ℕ) → r ≡ Some n → (n < 16777216) × (units w ≡ pos (n * one))
  pub each : (n : ℕ) → n < 16777216 → units w ≡ pos (n * one) → r ≡ Some n
  pub of_constant : (n : ℕ) → n < 16777216
      → (r ≡ Some n → single.equal w (single.constant (pos n)) ≡ true) × (single.equal w (single.constant (pos n)) ≡ true → r ≡ Some n)

-- Single compares numbers, and gives constants and indexes, as said above
abbrev pub EqualityIsOfNumbers : Type 0
EqualityIsOfNumbers = (a b : ℕ) → T (lawful a) → T (lawful b) → Equality a b (single.equal a b)

abbrev pub OrderIsOfNumbers : Type 0
OrderIsOfNumbers = (a b : ℕ) → T (lawful a) → T (lawful b) → single.less a b ≡ int_lt (units a) (units b)

abbrev pub ConstantsAreExact : Type 0
ConstantsAreExact = (z : ℤ) → Constant z (constant_word single z)

-- the word of the constant 0 is the one that a new cell holds, which is 0 and not minus zero's
abbrev pub ZeroIsConstant : Type 0
ZeroIsConstant = single.constant (pos 0) ≡ single.zero

abbrev pub IndexesAreExact : Type 0
IndexesAreExact = (w : ℕ) → T (lawful w) → Index w (single.index w)
