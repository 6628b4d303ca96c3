-- Exact whole numbers, and the words of 32 bits that hold them.
use Rattle.std.specs.Prelude.{◌≡◌, ℕ, ℤ, pos, neg_ℤ, ◌+ℤ◌, ◌-ℤ◌, ◌*ℤ◌, ◌≤ℤ◌, Ok, Err, Result}
use Rattle.kinds.specs.declared.fault.ArithmeticFault.{ArithmeticFault}
use Rattle.kinds.specs.declared.fault.ArithmeticFault.TheVariants.{OutOfRange, ZeroDivisor}
use Rattle.kinds.specs.Whole.{whole, value}

-- -2,147,483,648 to 2,147,483,647
abbrev pub Fits : ℤ → Type 0
Fits z = (neg_ℤ (pos 2147483648) ≤ℤ z) × (z ≤ℤ pos 2147483647)

-- a word whose value is z where z fits, and out of range exactly where it does not
abbrev pub Gives : ℤ → Result ℕ ArithmeticFault → Type 0
Gives z (Ok w) = Fits z × (value w ≡ z)
Gives z (Err OutOfRange) = Fits z → ⊥
Gives z (Err ZeroDivisor) = ⊥

-- Whole gives the exact sum, difference and product
abbrev pub SumsAreExact : Type 0
SumsAreExact = (a b : ℕ) → Gives (value a +ℤ value b) (whole.sum a b)

abbrev pub DifferencesAreExact : Type 0
DifferencesAreExact = (a b : ℕ) → Gives (value a -ℤ value b) (whole.difference a b)

abbrev pub ProductsAreExact : Type 0
ProductsAreExact = (a b : ℕ) → Gives (value a *ℤ value b) (whole.product a b)
