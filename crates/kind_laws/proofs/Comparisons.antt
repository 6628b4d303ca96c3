-- Comparisons, constants and indexes, in exact numbers.
use Rattle.std.proofs.Common.{◌≡◌, ℕ, zero, suc, ◌+◌, ◌*◌, ◌^◌, ◌<◌, Bool, true, false, cond, ◌&&◌, ◌||◌, T, eqb, ltb, ℤ, pos, negsuc, ◌*ℤ◌, neg_ℤ, nat_abs, Some, None, sym, refl, ap, ◌∙◌, subst, add-mul, lt_of_mul-lt-mul_right, mul-lt-mul_of_pos_right, mul-pos, zero-mul, mul-one, mul_right_comm, arith, pow_pos}
use mathlib.Core.Bool.{beq}
use native.Mathlib.Nat.{eq_of_mul-eq-mul_right}
use lib.IntN.{negsuc-*ℤ-pos}
use lib.Signed.{lt_z}
use lib.Ieee.{Float, nan, inf, fin, binary32, eq, lt, below, level, up, down, round, of_int, to_bits, to_unsigned}
use lib.Ieee.Bits.{of_bits-to_bits}
use lib.Ieee.Exact.{HasValue}
use lib.Ieee.Back.{round_whole}
use lib.Ieee.Fits.{down_pos, of_int-fits}
use Rattle.std.proofs.lemmas.Int.{ints}
use Rattle.std.proofs.lemmas.Bool.Decides.{nat_tests}
use Rattle.std.proofs.lemmas.Bool.{ltb-true, lt-ltb, le-ltb, eqb-true, eq-eqb, and_parts, and_from, cond-true}
use Rattle.kinds.specs.Arithmetic.{holds, constant_word}
use Rattle.kinds.specs.Single as Single
use Rattle.kinds.specs.Single.{lawful, number, constant, index}
use Rattle.kinds.specs.Singles.{lawful_finite, constant_lawful}
use Rattle.kinds.proofs.Indexes.{whole_is, cut_at}
use Rattle.kind_laws.specs.Exact.{negative, magnitude, signed, units, one}
use Rattle.kind_laws.specs.Comparing.{Equality, Constant, Index, ZeroIsConstant}
use Rattle.kind_laws.proofs.Words.{word_value, same_sign}
use Rattle.kind_laws.proofs.Ties.{same_units}
use Rattle.kind_laws.proofs.Operations.{left, right, under, Op, by_parts}

-- two tests of one kind, each true where the other is
same_test : (x y : Bool) → (x ≡ true → y ≡ true) → (y ≡ true → x ≡ true) → x ≡ y
same_test true y f g = sym (f refl)
same_test false true f g = g refl
same_test false false f g = refl

ltb_same : (A B C g h : ℕ) → 0 < C → A * 2 ^ 149 ≡ g * C → B * 2 ^ 149 ≡ h * C → ltb A B ≡ ltb g h
ltb_same A B C g h c a b = same_test (ltb A B) (ltb g h)
    (λ e. lt-ltb g h (under A B C g h a b (ltb-true A B e)))
    (λ e. lt-ltb A B (lt_of_mul-lt-mul_right (2 ^ 149) (subst (λ (x : ℕ). x < B * 2 ^ 149) (sym a) (subst (λ (x : ℕ). g * C < x) (sym b) (mul-lt-mul_of_pos_right (ltb-true g h e) c)))))

eqb_same : (A B C g h : ℕ) → 0 < C → A * 2 ^ 149 ≡ g * C → B * 2 ^ 149 ≡ h * C → eqb A B ≡ eqb g h
eqb_same A B C g h c a b = same_test (eqb A B) (eqb g h)
    (λ e. eq-eqb g h (eq_of_mul-eq-mul_right C c g h (sym a ∙ ap (λ (x : ℕ). x * 2 ^ 149) (eqb-true A B e) ∙ b)))
    (λ e. eq-eqb A B (eq_of_mul-eq-mul_right (2 ^ 149) (pow_pos 149) A B (a ∙ ap (λ (x : ℕ). x * C) (eqb-true g h e) ∙ sym b)))

level_units : (s t : Bool) (g h : ℕ) → (level s g t h ≡ true → signed s g ≡ signed t h) × (signed s g ≡ signed t h → level s g t h ≡ true)
level_units false false g h = (λ e. ap pos (eqb-true g h (and_parts (eqb g h) true e).0), λ e. and_from (eqb g h) true (eq-eqb g h (ap nat_abs e)) refl)
level_units true true g h = (λ e. ap (λ (n : ℕ). neg_ℤ (pos n)) (eqb-true g h (and_parts (eqb g h) true e).0), λ e. and_from (eqb g h) true (eq-eqb g h (omega (arith, ints))) refl)
level_units false true g h = (
  (λ e. let p = and_parts (eqb g h) (eqb g 0) e in let a = eqb-true g h p.0 in let b = eqb-true g 0 p.1 in omega (arith, ints)),
  (λ e. and_from (eqb g h) (eqb g 0) (eq-eqb g h (omega (arith, ints))) (eq-eqb g 0 (omega (arith, ints)))),
)
level_units true false g h = (
  (λ e. let p = and_parts (eqb g h) (eqb g 0) e in let a = eqb-true g h p.0 in let b = eqb-true g 0 p.1 in omega (arith, ints)),
  (λ e. and_from (eqb g h) (eqb g 0) (eq-eqb g h (omega (arith, ints))) (eq-eqb g 0 (omega (arith, ints)))),
)

below_units : (s t : Bool) (g h : ℕ) → below s g t h ≡ lt_z (signed s g) (signed t h)
below_units false false g h = refl
below_units false true g zero = sym (le-ltb g 0 (omega arith))
below_units false true g (suc h) = refl
below_units true false zero h = ap (λ (n : ℕ). ltb 0 n) (let e : 0 + h ≡ h = omega arith in e)
below_units true false (suc g) h = lt-ltb 0 (suc g + h) (omega arith)
below_units true true zero zero = refl
below_units true true zero (suc h) = le-ltb (suc h) 0 (omega arith)
below_units true true (suc g) zero = lt-ltb 0 (suc g) (omega arith)
below_units true true (suc g) (suc h) = grind (arith, nat_tests)

abbrev REqual : ℤ → ℤ → Bool → Bool → Bool → Type 0
REqual x y s t r = (r ≡ true → x ≡ y) × (x ≡ y → r ≡ true)

equals : Op REqual eq
unfolding eq
equals = by_parts REqual eq at
  where
    at : (s t : Bool) (m n : ℕ) (e d : ℤ) (g h : ℕ) → m * up e * 2 ^ 149 ≡ g * down e → n * up d * 2 ^ 149 ≡ h * down d
        → REqual (signed s g) (signed t h) s t (eq (fin s m e) (fin t n d))
    at s t m n e d g h a b =
        let A = m * up e * down d in
        let B = n * up d * down e in
        let C = down e * down d in
        let c = mul-pos (down_pos e) (down_pos d) in
        let l = left m e d g a in
        let i : level s A t B ≡ level s g t h =
        ap (λ (v : Bool). v && (beq s t || eqb A 0)) (eqb_same A B C g h c l (right n e d h b))
        ∙ ap (λ (v : Bool). eqb g h && (beq s t || v)) (eqb_same A 0 C g 0 c l (zero-mul (2 ^ 149) ∙ sym (zero-mul C))) in
        subst (λ (v : Bool). REqual (signed s g) (signed t h) s t v) (sym i) (level_units s t g h)

abbrev RLess : ℤ → ℤ → Bool → Bool → Bool → Type 0
RLess x y s t r = r ≡ lt_z x y

lesses : Op RLess lt
unfolding lt
lesses = by_parts RLess lt at
  where
    scale : (s t : Bool) (A B C g h : ℕ) → 0 < C → A * 2 ^ 149 ≡ g * C → B * 2 ^ 149 ≡ h * C → below s A t B ≡ below s g t h
    scale false false A B C g h c a b = ltb_same A B C g h c a b
    scale false true A B C g h c a b = refl
    scale true false A B C g h c a b =
        ltb_same 0 (A + B) C 0 (g + h) c (zero-mul (2 ^ 149) ∙ sym (zero-mul C))
        (add-mul A B (2 ^ 149) ∙ ap (λ (x : ℕ). x + B * 2 ^ 149) a ∙ ap (λ (x : ℕ). g * C + x) b ∙ sym (add-mul g h C))
    scale true true A B C g h c a b = ltb_same B A C h g c b a

    at : (s t : Bool) (m n : ℕ) (e d : ℤ) (g h : ℕ) → m * up e * 2 ^ 149 ≡ g * down e → n * up d * 2 ^ 149 ≡ h * down d
        → RLess (signed s g) (signed t h) s t (lt (fin s m e) (fin t n d))
    at s t m n e d g h a b =
        scale s t (m * up e * down d) (n * up d * down e) (down e * down d) g h (mul-pos (down_pos e) (down_pos d)) (left m e d g a) (right n e d h b)
        ∙ below_units s t g h

pub equality : (a b : ℕ) → T (lawful a) → T (lawful b) → Equality a b ((Single.single).equal a b)
equality a b p q = equals (number a) (number b) (negative a) (negative b) (magnitude a) (magnitude b) (word_value a p) (word_value b q)

pub order : (a b : ℕ) → T (lawful a) → T (lawful b) → (Single.single).less a b ≡ lt_z (units a) (units b)
order a b p q = lesses (number a) (number b) (negative a) (negative b) (magnitude a) (magnitude b) (word_value a p) (word_value b q)

-- ---- constants

in_units : (x : Float) (s : Bool) (n : ℕ) → HasValue x s n 1 → HasValue x s (n * 2 ^ 149) (2 ^ 149)
in_units nan s n v = absurd v
in_units (inf t) s n v = absurd v
in_units (fin t m e) s n v = (v.0, ap (λ (x : ℕ). x * 2 ^ 149) (sym (mul-one (m * up e)) ∙ v.1) ∙ mul_right_comm n (down e) (2 ^ 149))

int_units : (z : ℤ) → T (holds Single.single z) → (s : Bool) × (n : ℕ) × HasValue (of_int binary32 z) s (n * 2 ^ 149) (2 ^ 149) × (signed s (n * 2 ^ 149) ≡ z *ℤ pos one)
unfolding of_int
int_units (pos n) h = (false, n, in_units (round binary32 false n 1) false n (round_whole binary32 false n (grind (arith, nat_tests))), refl)
int_units (negsuc n) h = (true, suc n, in_units (round binary32 true (suc n) 1) true (suc n) (round_whole binary32 true (suc n) (grind (arith, nat_tests))), sym (negsuc-*ℤ-pos n one))

constant_number : (z : ℤ) → number (constant z) ≡ of_int binary32 z
constant_number z = of_bits-to_bits binary32 (of_int binary32 z) (of_int-fits binary32 z)

constant_units : (z : ℤ) → T (holds Single.single z) → units (constant z) ≡ z *ℤ pos one
constant_units z h =
    let i = int_units z h in
    let w = constant z in
    let v : HasValue (number w) i.0 (i.1 * 2 ^ 149) (2 ^ 149) = subst (λ (x : Float). HasValue x i.0 (i.1 * 2 ^ 149) (2 ^ 149)) (sym (constant_number z)) i.2 in
    let u = word_value w (constant_lawful z h) in
    ap (λ (b : Bool). signed b (magnitude w)) (same_sign (number w) (negative w) i.0 (magnitude w) (i.1 * 2 ^ 149) u v)
    ∙ ap (λ (n : ℕ). signed i.0 n) (same_units (number w) (negative w) i.0 (magnitude w) (i.1 * 2 ^ 149) u v) ∙ i.3

pub constants : (z : ℤ) → Constant z (constant_word Single.single z)
constants z = go (holds Single.single z) refl
  where
    go : (b : Bool) → holds Single.single z ≡ b → Constant z (cond b (Some (constant z)) None)
    go true e = let h : T (holds Single.single z) = subst T (sym e) tt in (h, constant_lawful z h, constant_units z h)
    go false e = e

pub zero_constant : ZeroIsConstant
unfolding to_bits of_int
zero_constant = refl

-- ---- indexes

of_some : (t : Bool) (m n : ℕ) → cond t (Some m) None ≡ Some n → (t ≡ true) × (m ≡ n)
of_some true m n e = (refl, cc)
of_some false m n e = let z : ◌≡◌ {A = ℕ} 0 1 = cc in absurd (omega arith)

compared : (w n : ℕ) → T (lawful w) → n < 16777216 → REqual (pos (n * one)) (units w) false (negative w) (eq (of_int binary32 (pos n)) (number w))
unfolding of_int
compared w n l h =
    equals (of_int binary32 (pos n)) (number w) false (negative w) (n * 2 ^ 149) (magnitude w)
    (in_units (round binary32 false n 1) false n (round_whole binary32 false n (omega arith))) (word_value w l)

pub indexes : (w : ℕ) → T (lawful w) → Index w (index w)
indexes w l = record { only = only; each = each; of_constant = of_constant }
  where
    only : (n : ℕ) → index w ≡ Some n → (n < 16777216) × (units w ≡ pos (n * one))
    only n e =
        let N = to_unsigned 32 (number w) in
        let p = of_some (ltb N 16777216 && eq (of_int binary32 (pos N)) (number w)) N n (sym (whole_is (number w) N refl) ∙ e) in
        let q = and_parts (ltb N 16777216) (eq (of_int binary32 (pos N)) (number w)) p.0 in
        let h : n < 16777216 = subst (λ (k : ℕ). k < 16777216) p.1 (ltb-true N 16777216 q.0) in
        (h, sym ((compared w n l h).0 (subst (λ (k : ℕ). eq (of_int binary32 (pos k)) (number w) ≡ true) p.1 q.1)))

    each : (n : ℕ) → n < 16777216 → units w ≡ pos (n * one) → index w ≡ Some n
    each n h e =
        let t : eq (of_int binary32 (pos n)) (number w) ≡ true = (compared w n l h).1 (sym e) in
        whole_is (number w) n (cut_at (number w) n (lawful_finite w l) h t)
        ∙ cond-true (ltb n 16777216 && eq (of_int binary32 (pos n)) (number w)) (Some n) None (and_from (ltb n 16777216) (eq (of_int binary32 (pos n)) (number w)) (lt-ltb n 16777216 h) t)

    of_constant : (n : ℕ) → n < 16777216
        → (index w ≡ Some n → (Single.single).equal w (constant (pos n)) ≡ true) × ((Single.single).equal w (constant (pos n)) ≡ true → index w ≡ Some n)
    of_constant n h =
        let k : T (holds Single.single (pos n)) = grind (arith, nat_tests) in
        let u : units (constant (pos n)) ≡ pos (n * one) = constant_units (pos n) k in
        let e = equality w (constant (pos n)) l (constant_lawful (pos n) k) in
        (λ q. e.1 ((only n q).1 ∙ sym u), λ t. each n h (e.0 t ∙ u))
