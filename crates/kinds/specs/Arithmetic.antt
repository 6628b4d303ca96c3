-- What a number kind means. A word is a number of 32 bits, 0 to 4294967295.
use Rattle.std.specs.Prelude.{ℕ, Bool, cond, ◌&&◌, T, ℤ, Some, None, Ok, Err, Option, Result, int_le}
use Rattle.kinds.specs.declared.fault.ArithmeticFault.{ArithmeticFault}

pub record Arithmetic : Type 0 where
  -- which words stand for a number
  pub lawful : ℕ → Bool
  -- the word that a new cell holds
  pub zero : ℕ
  -- the smallest and the largest whole number that is a constant, and the word of each between
  pub least : ℤ
  pub most : ℤ
  pub constant : ℤ → ℕ
  -- of two lawful words: the word of the result, or why there is none
  pub sum : ℕ → ℕ → Result ℕ ArithmeticFault
  pub difference : ℕ → ℕ → Result ℕ ArithmeticFault
  pub product : ℕ → ℕ → Result ℕ ArithmeticFault
  pub quotient : ℕ → ℕ → Result ℕ ArithmeticFault
  pub equal : ℕ → ℕ → Bool
  pub less : ℕ → ℕ → Bool
  -- the whole number, from 0 on, that a word is as an index
  pub index : ℕ → Option ℕ

-- whether a whole number is a constant of the kind
abbrev pub holds : Arithmetic → ℤ → Bool
holds k z = int_le k.least z && int_le z k.most

-- the word of a constant, and none for any other whole number
abbrev pub constant_word : Arithmetic → ℤ → Option ℕ
constant_word k z = cond (holds k z) (Some (k.constant z)) None

-- a result, if there is one, is lawful
abbrev pub LawfulResult : Arithmetic → Result ℕ ArithmeticFault → Type 0
LawfulResult k (Ok w) = T (k.lawful w)
LawfulResult k (Err f) = Unit {0}

-- what holds of every kind
pub record Laws (k : Arithmetic) : Type 0 where
  pub zero_lawful : T (k.lawful k.zero)
  pub constant_lawful : (z : ℤ) → T (holds k z) → T (k.lawful (k.constant z))
  pub sum_lawful : (a b : ℕ) → T (k.lawful a) → T (k.lawful b) → LawfulResult k (k.sum a b)
  pub difference_lawful : (a b : ℕ) → T (k.lawful a) → T (k.lawful b) → LawfulResult k (k.difference a b)
  pub product_lawful : (a b : ℕ) → T (k.lawful a) → T (k.lawful b) → LawfulResult k (k.product a b)
  pub quotient_lawful : (a b : ℕ) → T (k.lawful a) → T (k.lawful b) → LawfulResult k (k.quotient a b)
