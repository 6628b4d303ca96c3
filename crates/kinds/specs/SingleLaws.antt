-- Single keeps the laws of a kind.
use Rattle.std.specs.Prelude.{ℕ, Bool, true, false, cond, Err}
use Rattle.std.specs.Float.{binary32}
use Rattle.std.specs.Float.Ieee.{add, sub, mul, div, eq}
use Rattle.std.specs.Float.Ieee.Fits.{add-fits, sub-fits, mul-fits, div-fits}
use Rattle.kinds.specs.declared.fault.ArithmeticFault.TheVariants.{ZeroDivisor}
use Rattle.kinds.specs.Arithmetic.{Laws, LawfulResult}
use Rattle.kinds.specs.Single.{single, number, finite_word, quotient}
use Rattle.kinds.specs.Singles.{result_lawful, constant_lawful}

quotient_lawful : (a b : ℕ) → LawfulResult single (quotient a b)
quotient_lawful a b = go (eq (number b) (number 0))
  where
    go : (z : Bool) → LawfulResult single (cond z (Err ZeroDivisor) (finite_word (div binary32 (number a) (number b))))
    go true = tt
    go false = result_lawful (div binary32 (number a) (number b)) (div-fits binary32 (number a) (number b))

pub laws : Laws single
laws = record {
  zero_lawful = tt;
  constant_lawful = constant_lawful;
  sum_lawful = λ a b _ _. result_lawful (add binary32 (number a) (number b)) (add-fits binary32 (number a) (number b));
  difference_lawful = λ a b _ _. result_lawful (sub binary32 (number a) (number b)) (sub-fits binary32 (number a) (number b));
  product_lawful = λ a b _ _. result_lawful (mul binary32 (number a) (number b)) (mul-fits binary32 (number a) (number b));
  quotient_lawful = λ a b _ _. quotient_lawful a b;
}
