-- Which words are those of finite numbers, and that results and constants are among them.
use Rattle.std.specs.Prelude.{◌≡◌, ℕ, zero, suc, ◌+◌, ◌<◌, Bool, true, false, cond, not, ◌&&◌, T, ℤ, pos, negsuc, Ok, Err, ◌==◌, nat_le, nat_lt, to_bits, refl, Float}
use Rattle.std.proofs.Common.{sym, ap, subst, ◌∙◌, arith, lt→ltb}
use Rattle.std.specs.Float.Ieee.{low, hid, odd, round, of_fields, of_bits, of_int, fits, is_nan}
use Rattle.std.specs.Float.Ieee.Bits.{of_bits-to_bits, to_bits-lt, is_true}
use Rattle.std.specs.Float.Ieee.Fits.{and_r, of_int-fits}
use Rattle.std.specs.Float.Ieee.Exact.{HasValue}
use Rattle.std.specs.Float.Ieee.Back.{round_whole}
use Rattle.std.specs.Float.{float_is_finite, nan, inf, fin, binary32}
use Rattle.std.proofs.lemmas.Bool.Decides.{nat_tests}
use Rattle.kinds.specs.declared.fault.ArithmeticFault.TheVariants.{OutOfRange}
use Rattle.kinds.specs.Arithmetic.{LawfulResult, holds}
use Rattle.kinds.specs.Single.{single, exponent, lawful, number, finite_word}

odd_finite : (d : ℕ) (s : Bool) (q k l : ℕ) → float_is_finite (odd d s q k l) ≡ true
unfolding odd float_is_finite
odd_finite d s zero k l = refl
odd_finite d s (suc q) k l = refl

-- by the exponent's bits x
fields_finite : (s : Bool) (x t : ℕ) → float_is_finite (of_fields binary32 s x t) ≡ not (x == 255)
unfolding of_fields float_is_finite
fields_finite s zero t = odd_finite 24 s t 0 (low binary32)
fields_finite s (suc x) t = go (suc x == 255) (t == 0)
  where
    go : (b c : Bool) → float_is_finite (cond b (cond c (inf s) nan) (odd 24 s (hid binary32 + t) x (low binary32))) ≡ not b
    go true true = refl
    go true false = refl
    go false c = odd_finite 24 s (hid binary32 + t) x (low binary32)

number_finite : (w : ℕ) → float_is_finite (number w) ≡ not (exponent w == 255)
unfolding of_bits
number_finite w = fields_finite (nat_le 2147483648 w) (exponent w) _

pub lawful_is : (w : ℕ) → w < 4294967296 → lawful w ≡ float_is_finite (number w)
lawful_is w h = ap (λ (b : Bool). b && not (exponent w == 255)) (is_true _ (lt→ltb w 4294967296 h)) ∙ sym (number_finite w)

pub lawful_finite : (w : ℕ) → T (lawful w) → float_is_finite (number w) ≡ true
lawful_finite w h = number_finite w ∙ is_true _ (and_r (nat_lt w 4294967296) (not (exponent w == 255)) h)

pub finite_number : (x : Float) → float_is_finite x ≡ true → T (not (is_nan x))
unfolding float_is_finite is_nan
finite_number nan h = let z : ◌≡◌ {A = Bool} false true = h in search arith
finite_number (inf s) h = tt
finite_number (fin s m e) h = tt

-- the word of a finite number is lawful
pub word_lawful : (x : Float) → T (fits binary32 x) → float_is_finite x ≡ true → T (lawful (to_bits binary32 x))
word_lawful x f h =
    subst T (sym (lawful_is (to_bits binary32 x) (to_bits-lt binary32 x f) ∙ ap float_is_finite (of_bits-to_bits binary32 x f) ∙ h)) tt

pub result_lawful : (x : Float) → T (fits binary32 x) → LawfulResult single (finite_word x)
result_lawful x f = go (float_is_finite x) (λ h. word_lawful x f h)
  where
    go : (b : Bool) → (b ≡ true → T (lawful (to_bits binary32 x))) → LawfulResult single (cond b (Ok (to_bits binary32 x)) (Err OutOfRange))
    go true h = h refl
    go false h = tt

value_finite : (x : Float) (s : Bool) (n : ℕ) → HasValue x s n 1 → float_is_finite x ≡ true
unfolding float_is_finite
value_finite nan s n v = absurd v
value_finite (inf t) s n v = absurd v
value_finite (fin t m e) s n v = refl

pub constant_finite : (z : ℤ) → T (holds single z) → float_is_finite (of_int binary32 z) ≡ true
unfolding of_int
constant_finite (pos n) h = value_finite (round binary32 false n 1) false n (round_whole binary32 false n (grind (arith, nat_tests)))
constant_finite (negsuc n) h = value_finite (round binary32 true (suc n) 1) true (suc n) (round_whole binary32 true (suc n) (grind (arith, nat_tests)))

pub constant_lawful : (z : ℤ) → T (holds single z) → T (lawful (to_bits binary32 (of_int binary32 z)))
constant_lawful z h = word_lawful (of_int binary32 z) (of_int-fits binary32 z) (constant_finite z h)
