-- The index of a single-precision number: the whole number n that it is cut to, if that is the number itself and below 2 ^ 24.
use Rattle.std.proofs.Common.{◌≡◌, ℕ, zero, suc, ◌+◌, ◌*◌, ◌/◌, ◌%◌, ◌<◌, ◌≤◌, min, Bool, true, false, cond, not, ◌&&◌, ◌||◌, eqb, ltb, ℤ, pos, Some, None, sym, refl, ap, ◌∙◌, subst, ⊎_elim, mul-pos, div-add-mod', zero-mul, mul-one, mul_right_comm, mul-div_cancel, arith}
use mathlib.Core.Bool.{beq}
use native.Mathlib.Nat.{eq_of_mul-eq-mul_right, mul-mod_left}
use lib.Ieee.{Float, nan, inf, fin, binary32, up, down, level, round, of_int, to_unsigned, eq}
use lib.Ieee.Fits.{up_pos, down_pos}
use lib.Ieee.Exact.{HasValue}
use lib.Ieee.Back.{round_whole}
use Rattle.std.specs.Float.{float_is_finite}
use Rattle.std.proofs.lemmas.Bool.{ltb-true, eqb-true, eqb-false, eq-eqb, ne_eqb, cases_Bool, and_parts, false≢true}
use Rattle.std.proofs.lemmas.Bool.Decides.{nat_tests}
use Rattle.kinds.specs.Single.{whole}

scale_eqb : (a b k : ℕ) → 0 < k → eqb (a * k) (b * k) ≡ eqb a b
scale_eqb a b k p = ⊎_elim
    (λ e. eq-eqb (a * k) (b * k) (ap (λ (x : ℕ). x * k) (eqb-true a b e)) ∙ sym e)
    (λ e. ne_eqb (a * k) (b * k) (λ h. eqb-false a b e (eq_of_mul-eq-mul_right k p a b h)) ∙ sym e)
    (cases_Bool (eqb a b))

-- a number with the value n, compared with another
level_is : (y : Float) (n : ℕ) (s : Bool) (m : ℕ) (e : ℤ) → HasValue y false n 1 → eq y (fin s m e) ≡ level false (n * down e) s (m * up e)
unfolding eq
level_is nan n s m e v = absurd v
level_is (inf t) n s m e v = absurd v
level_is (fin t l d) n s m e v =
    let a : l * up d ≡ n * down d = sym (mul-one (l * up d)) ∙ v.1 in
    let b : l * up d * down e ≡ n * down e * down d = ap (λ (x : ℕ). x * down e) a ∙ mul_right_comm n (down d) (down e) in
    let z : eqb (n * down e * down d) 0 ≡ eqb (n * down e) 0 =
    ap (λ (x : ℕ). eqb (n * down e * down d) x) (sym (zero-mul (down d))) ∙ scale_eqb (n * down e) 0 (down d) (down_pos d) in
    ap (λ (u : Bool). level u (l * up d * down e) s (m * up e * down d)) v.0
    ∙ ap (λ (x : ℕ). level false x s (m * up e * down d)) b
    ∙ ap (λ (u : Bool). u && (beq false s || eqb (n * down e * down d) 0)) (scale_eqb (n * down e) (m * up e) (down d) (down_pos d))
    ∙ ap (λ (u : Bool). eqb (n * down e) (m * up e) && (beq false s || u)) z

int_level : (n : ℕ) (s : Bool) (m : ℕ) (e : ℤ) → n ≤ 16777216 → eq (of_int binary32 (pos n)) (fin s m e) ≡ level false (n * down e) s (m * up e)
unfolding of_int
int_level n s m e h = level_is (round binary32 false n 1) n s m e (round_whole binary32 false n h)

-- what `whole` tests, of the magnitude w / d
abbrev test : Bool → ℕ → ℕ → ℕ → Bool
test s m w d = eqb (w % d) 0 && (not s || eqb m 0) && ltb (w / d) 16777216

-- q * d + r is w, as a quotient and a remainder
same_cut : (q d w r : ℕ) → q * d + r ≡ w → eqb (q * d) w ≡ eqb r 0
same_cut q d w r h = let p = q * d in grind (arith, nat_tests)

positive : (m w d n : ℕ) → n ≡ min (w / d) 4294967295
    → cond (test false m w d) (Some (w / d)) None ≡ cond (ltb n 16777216 && level false (n * d) false w) (Some n) None
positive m w d n c = ⊎_elim near far (cases_Bool (ltb (w / d) 16777216))
  where
    near : ltb (w / d) 16777216 ≡ true → cond (test false m w d) (Some (w / d)) None ≡ cond (ltb n 16777216 && level false (n * d) false w) (Some n) None
    near t =
        let e : n ≡ w / d = grind (arith, nat_tests) in
        subst (λ (k : ℕ). cond (test false m w d) (Some (w / d)) None ≡ cond (ltb k 16777216 && level false (k * d) false w) (Some k) None) (sym e)
        (let s : eqb (w / d * d) w ≡ eqb (w % d) 0 = same_cut (w / d) d w (w % d) (div-add-mod' w d) in grind (arith, nat_tests))

    far : ltb (w / d) 16777216 ≡ false → cond (test false m w d) (Some (w / d)) None ≡ cond (ltb n 16777216 && level false (n * d) false w) (Some n) None
    far t = let e : ltb n 16777216 ≡ false = grind (arith, nat_tests) in grind (arith, nat_tests)

negative : (m u d : ℕ) → 0 < u → 0 < d
    → cond (test true m (m * u) d) (Some (m * u / d)) None ≡ cond (ltb 0 16777216 && level false (0 * d) true (m * u)) (Some 0) None
negative zero u d p q =
    let w : 0 * u ≡ 0 = zero-mul u in
    let z : 0 * d ≡ 0 = zero-mul d in
    let c : 0 / d ≡ 0 = ap (λ (x : ℕ). x / d) (sym z) ∙ mul-div_cancel 0 q in
    let r : 0 % d ≡ 0 = ap (λ (x : ℕ). x % d) (sym z) ∙ mul-mod_left 0 d in
    simp (w, z, c, r)
negative (suc m) u d p q =
    let w : 0 < suc m * u = mul-pos (omega arith) p in
    let z : 0 * d ≡ 0 = zero-mul d in
    let f : eqb (0 * d) (suc m * u) ≡ false = grind (arith, nat_tests) in
    let g : eqb (suc m) 0 ≡ false = grind (arith, nat_tests) in
    grind (arith, nat_tests)

-- the comparison with n as a float is one of whole numbers
compared : (s : Bool) (m : ℕ) (e : ℤ) (n : ℕ) → cond (ltb n 16777216 && level false (n * down e) s (m * up e)) (Some n) None
    ≡ cond (ltb n 16777216 && eq (of_int binary32 (pos n)) (fin s m e)) (Some n) None
compared s m e n = go (ltb n 16777216) (λ t. int_level n s m e (omega (arith, ltb-true n 16777216 t)))
  where
    go : (b : Bool) → (b ≡ true → eq (of_int binary32 (pos n)) (fin s m e) ≡ level false (n * down e) s (m * up e))
        → cond (b && level false (n * down e) s (m * up e)) (Some n) None ≡ cond (b && eq (of_int binary32 (pos n)) (fin s m e)) (Some n) None
    go true h = ap (λ (v : Bool). cond v (Some n) None) (sym (h refl))
    go false h = refl

-- a number with a value equals no infinity and no NaN
no_inf : (y : Float) (n : ℕ) (s : Bool) → HasValue y false n 1 → eq y (inf s) ≡ false
unfolding eq
no_inf nan n s v = absurd v
no_inf (inf t) n s v = absurd v
no_inf (fin t m e) n s v = refl

no_nan : (y : Float) → eq y nan ≡ false
unfolding eq
no_nan nan = refl
no_nan (inf t) = refl
no_nan (fin t m e) = refl

int_inf : (n : ℕ) (s : Bool) → n ≤ 16777216 → eq (of_int binary32 (pos n)) (inf s) ≡ false
unfolding of_int
int_inf n s h = no_inf (round binary32 false n 1) n s (round_whole binary32 false n h)

none : (n : ℕ) (b : Bool) → (ltb n 16777216 ≡ true → b ≡ false) → None ≡ cond (ltb n 16777216 && b) (Some n) None
none n b = go (ltb n 16777216)
  where
    go : (t : Bool) → (t ≡ true → b ≡ false) → None ≡ cond (t && b) (Some n) None
    go true h = ap (λ (v : Bool). cond v (Some n) None) (sym (h refl))
    go false h = refl

pub whole_is : (x : Float) (n : ℕ) → n ≡ to_unsigned 32 x
    → whole x ≡ cond (ltb n 16777216 && eq (of_int binary32 (pos n)) x) (Some n) None
unfolding whole to_unsigned
whole_is nan n c = none n (eq (of_int binary32 (pos n)) nan) (λ _. no_nan (of_int binary32 (pos n)))
whole_is (inf s) n c = none n (eq (of_int binary32 (pos n)) (inf s)) (λ t. int_inf n s (omega (arith, ltb-true n 16777216 t)))
whole_is (fin false m e) n c = positive m (m * up e) (down e) n c ∙ compared false m e n
whole_is (fin true m e) n c =
    subst (λ (k : ℕ). whole (fin true m e) ≡ cond (ltb k 16777216 && eq (of_int binary32 (pos k)) (fin true m e)) (Some k) None) (sym c)
    (negative m (up e) (down e) (up_pos e) (down_pos e) ∙ compared true m e 0)

-- a finite number that equals n is cut to n
whole_cut : (m w d n : ℕ) → 0 < d → n < 16777216 → level false (n * d) false w ≡ true → n ≡ min (w / d) 4294967295
whole_cut m w d n p h e =
    let a : n * d ≡ w = eqb-true (n * d) w (and_parts (eqb (n * d) w) true e).0 in
    let q : w / d ≡ n = ap (λ (x : ℕ). x / d) (sym a) ∙ mul-div_cancel n p in
    omega arith

no_cut : (w d n : ℕ) → 0 < d → level false (n * d) true w ≡ true → n ≡ 0
no_cut w d n p e =
    let z : n * d ≡ 0 = eqb-true (n * d) 0 (and_parts (eqb (n * d) w) (eqb (n * d) 0) e).1 in
    eq_of_mul-eq-mul_right d p n 0 (z ∙ sym (zero-mul d))

pub cut_at : (x : Float) (n : ℕ) → float_is_finite x ≡ true → n < 16777216 → eq (of_int binary32 (pos n)) x ≡ true → n ≡ to_unsigned 32 x
unfolding float_is_finite to_unsigned
cut_at nan n f h e = absurd (false≢true f)
cut_at (inf s) n f h e = absurd (false≢true f)
cut_at (fin false m e) n f h t = whole_cut m (m * up e) (down e) n (down_pos e) h (sym (int_level n false m e (omega arith)) ∙ t)
cut_at (fin true m e) n f h t = no_cut (m * up e) (down e) n (down_pos e) (sym (int_level n true m e (omega arith)) ∙ t)
