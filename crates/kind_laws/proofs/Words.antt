-- What a lawful word stands for, by its bits.
use Rattle.std.proofs.Common.{◌≡◌, ℕ, zero, suc, ◌+◌, ◌*◌, ◌^◌, Bool, true, false, cond, not, T, eqb, ltb, sym, ◌∙◌, subst, mul-one}
use lib.Ieee.{Float, nan, inf, fin, binary32, odd, of_fields, of_bits, to_bits, fits}
use lib.Ieee.Bits.{of_bits-to_bits}
use lib.Ieee.Exact.{HasValue, odd_sign}
use lib.Ieee.Fits.{and_r}
use Rattle.std.specs.Float.{float_is_finite}
use Rattle.kinds.specs.Single.{lawful, number, exponent}
use Rattle.kinds.specs.Singles.{word_lawful}
use Rattle.kind_laws.specs.Exact.{negative, fraction, scaled, magnitude}
use Rattle.kind_laws.proofs.Ties.{same_units}

fields_value : (s : Bool) (x t : ℕ) → T (not (eqb x 255)) → HasValue (of_fields binary32 s x t) s (scaled x t) (2 ^ 149)
unfolding of_fields
fields_value s zero t h = subst (λ (n : ℕ). HasValue (odd 24 s t 0 149) s n (2 ^ 149)) (mul-one t) (odd_sign 24 s t 0 149)
fields_value s (suc x) t h = go (eqb (suc x) 255) (eqb t 0) h
  where
    go : (b c : Bool) → T (not b) → HasValue (cond b (cond c (inf s) nan) (odd 24 s (8388608 + t) x 149)) s ((8388608 + t) * 2 ^ x) (2 ^ 149)
    go true c n = absurd n
    go false c n = odd_sign 24 s (8388608 + t) x 149

pub word_value : (w : ℕ) → T (lawful w) → HasValue (number w) (negative w) (magnitude w) (2 ^ 149)
unfolding of_bits
word_value w h = fields_value (negative w) (exponent w) (fraction w) (and_r (ltb w 4294967296) (not (eqb (exponent w) 255)) h)

pub same_sign : (x : Float) (s t : Bool) (g h : ℕ) → HasValue x s g (2 ^ 149) → HasValue x t h (2 ^ 149) → s ≡ t
same_sign nan s t g h v w = absurd v
same_sign (inf b) s t g h v w = absurd v
same_sign (fin b m e) s t g h v w = sym v.0 ∙ w.0

-- the word of a finite x that is g units
pub word_of : (x : Float) (s : Bool) (g : ℕ) → T (fits binary32 x) → float_is_finite x ≡ true → HasValue x s g (2 ^ 149)
    → T (lawful (to_bits binary32 x)) × (negative (to_bits binary32 x) ≡ s) × (magnitude (to_bits binary32 x) ≡ g)
word_of x s g f h v =
    let r = to_bits binary32 x in
    let l = word_lawful x f h in
    let u : HasValue x (negative r) (magnitude r) (2 ^ 149) = subst (λ (y : Float). HasValue y (negative r) (magnitude r) (2 ^ 149)) (of_bits-to_bits binary32 x f) (word_value r l) in
    (l, same_sign x (negative r) s (magnitude r) g u v, same_units x (negative r) s (magnitude r) g u v)
