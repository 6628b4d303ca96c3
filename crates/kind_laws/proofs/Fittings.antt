-- Whole's meaning of a number that fits.
use Rattle.std.proofs.Common.{◌≡◌, Bool, true, false, cond, ◌&&◌, ℤ, pos, negsuc, ◌+ℤ◌, ◌-ℤ◌, ◌*ℤ◌, Ok, Err, refl, arith}
use lib.Signed.{le_z}
use Rattle.std.proofs.lemmas.Int.{ints}
use Rattle.std.proofs.lemmas.Bool.Decides.{nat_tests}
use Rattle.kinds.specs.declared.fault.ArithmeticFault.TheVariants.{OutOfRange}
use Rattle.kinds.specs.Whole.{least, most, value, word, fitting}
use Rattle.kind_laws.specs.Fitting.{Fits, Gives, SumsAreExact, DifferencesAreExact, ProductsAreExact}

word_value : (z : ℤ) → Fits z → value (word z) ≡ z
word_value (pos n) h = grind (arith, ints, nat_tests)
word_value (negsuc n) h = grind (arith, ints, nat_tests)

in_range : (z : ℤ) → (le_z least z && le_z z most) ≡ true → Fits z
in_range z h = grind (arith, ints, nat_tests)

out_of_range : (z : ℤ) → (le_z least z && le_z z most) ≡ false → Fits z → ⊥
out_of_range z h f = grind (arith, ints, nat_tests)

pub fitting_gives : (z : ℤ) → Gives z (fitting z)
fitting_gives z = go (le_z least z && le_z z most) refl
  where
    go : (b : Bool) → (le_z least z && le_z z most) ≡ b → Gives z (cond b (Ok (word z)) (Err OutOfRange))
    go true e = let f = in_range z e in (f, word_value z f)
    go false e = out_of_range z e

pub sums : SumsAreExact
sums a b = fitting_gives (value a +ℤ value b)

pub differences : DifferencesAreExact
differences a b = fitting_gives (value a -ℤ value b)

pub products : ProductsAreExact
products a b = fitting_gives (value a *ℤ value b)
