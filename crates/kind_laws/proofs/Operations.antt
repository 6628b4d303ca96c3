-- Sum, difference, product and quotient are the roundings of the exact ones.
use Rattle.std.proofs.Common.{◌≡◌, ℕ, zero, suc, ◌+◌, ◌-◌, ◌*◌, ◌^◌, ◌<◌, ◌≤◌, Bool, true, false, cond, not, ◌&&◌, ◌||◌, T, eqb, ltb, ℤ, pos, ◌+ℤ◌, ◌-ℤ◌, ◌*ℤ◌, nat_abs, Err, Result, sym, refl, ap, ◌∙◌, subst, le_trans, le_of_eq, mul-le-mul_right, mul_assoc, mul_comm, add-mul, lt_of_mul-lt-mul_right, mul-lt-mul_of_pos_right, mul-pos, zero-mul, mul-one, mul_right_comm, le_of_mul-le-mul_right, arith, pow_pos}
use mathlib.Core.Bool.{beq}
use native.Mathlib.Nat.{mul-mul-mul_comm, eq_of_mul-eq-mul_right}
use lib.IntN.{neg_ℤ-neg_ℤ}
use lib.Ieee.{Float, nan, inf, fin, binary32, unlike, round, sum, add, sub, neg, mul, div, eq, up, down, of_bits, of_fields, odd}
use lib.Ieee.Exact.{HasValue}
use lib.Ieee.Fits.{up_pos, down_pos}
use Rattle.std.proofs.lemmas.Int.{ints}
use Rattle.std.proofs.lemmas.Bool.{ltb-true, ltb-false, eq-eqb, ne_eqb, and_from, and_left, or_right}
use Rattle.kinds.specs.declared.fault.ArithmeticFault.{ArithmeticFault}
use Rattle.kinds.specs.declared.fault.ArithmeticFault.TheVariants.{ZeroDivisor}
use Rattle.kinds.specs.Single as Single
use Rattle.kinds.specs.Single.{lawful, number, finite_word}
use Rattle.kind_laws.specs.Exact.{negative, magnitude, signed, units, one}
use Rattle.kind_laws.specs.Rounding.{Rounds, sum_sign, Sum, Difference, Product, Quotient}
use Rattle.kind_laws.proofs.Words.{word_value}
use Rattle.kind_laws.proofs.Signs.{size_of, signed_zero, signed_mul}
use Rattle.kind_laws.proofs.Scaling.{sub_mul}
use Rattle.kind_laws.proofs.Rounded.{rounds}

-- ---- sums

sum_like : (s : Bool) (g h : ℕ) → signed s g +ℤ signed s h ≡ signed s (g + h)
sum_like false g h = refl
sum_like true g h = omega (arith, ints)

sum_up : (s : Bool) (g h : ℕ) → g ≤ h → signed s g +ℤ signed (not s) h ≡ signed (not s) (h - g)
sum_up false g h l = omega (arith, ints)
sum_up true g h l = omega (arith, ints)

sum_down : (s : Bool) (g h : ℕ) → h ≤ g → signed s g +ℤ signed (not s) h ≡ signed s (g - h)
sum_down false g h l = omega (arith, ints)
sum_down true g h l = omega (arith, ints)

sign_like : (s : Bool) (n : ℕ) → sum_sign (signed s n) s s ≡ s
sign_like false zero = refl
sign_like false (suc n) = refl
sign_like true zero = refl
sign_like true (suc n) = refl

sign_of : (s a b : Bool) (n : ℕ) → 0 < n → sum_sign (signed s n) a b ≡ s
sign_of s a b zero h = absurd (let z : 0 < 0 = h in omega arith)
sign_of false a b (suc n) h = refl
sign_of true a b (suc n) h = refl

sign_none : (s t : Bool) (n : ℕ) → n ≡ 0 → sum_sign (signed t n) s (not s) ≡ false
sign_none s t n e = ap (λ (k : ℕ). sum_sign (signed t k) s (not s)) e ∙ ap (λ (z : ℤ). sum_sign z s (not s)) (signed_zero t) ∙ none s
  where
    none : (s : Bool) → (s && not s) ≡ false
    none false = refl
    none true = refl

like_self : (s : Bool) → unlike s false ≡ s
like_self false = refl
like_self true = refl

-- p is the signed number v units, and b the sign that the sum has
summed : (p : ℤ) (s t b σ : Bool) (A C v : ℕ) → 0 < C → v * C ≡ A * 2 ^ 149 → p ≡ signed σ v → σ ≡ b → sum_sign p s t ≡ b
    → Rounds p (pos 1) (sum_sign p s t) (finite_word (round binary32 b A C))
summed p s t b σ A C v c e i o k =
    subst (λ (z : ℤ). Rounds z (pos 1) (sum_sign p s t) (finite_word (round binary32 b A C))) (sym i)
    (subst (λ (y : Bool). Rounds (signed σ v) (pos 1) y (finite_word (round binary32 b A C))) (sym k)
    (rounds b σ false A C v 1 c (omega arith) (e ∙ sym (mul-one (A * 2 ^ 149))) (like_self b ∙ sym o)))

pub under : (A B C g h : ℕ) → A * 2 ^ 149 ≡ g * C → B * 2 ^ 149 ≡ h * C → A < B → g < h
under A B C g h a b l = lt_of_mul-lt-mul_right C (let m : A * 2 ^ 149 < B * 2 ^ 149 = mul-lt-mul_of_pos_right l (pow_pos 149) in subst (λ (x : ℕ). x < h * C) a (subst (λ (x : ℕ). A * 2 ^ 149 < x) b m))

pub upto : (A B C g h : ℕ) → 0 < C → A * 2 ^ 149 ≡ g * C → B * 2 ^ 149 ≡ h * C → A ≤ B → g ≤ h
upto A B C g h c a b l = le_of_mul-le-mul_right (le_trans (le_of_eq (sym a)) (le_trans (mul-le-mul_right (2 ^ 149) l) (le_of_eq b))) c

less : (A B C g h : ℕ) → A * 2 ^ 149 ≡ g * C → B * 2 ^ 149 ≡ h * C → (h - g) * C ≡ (B - A) * 2 ^ 149
less A B C g h a b = sub_mul h g C ∙ ap (λ (x : ℕ). x - g * C) (sym b) ∙ ap (λ (x : ℕ). B * 2 ^ 149 - x) (sym a) ∙ sym (sub_mul B A (2 ^ 149))

like_sum : (s : Bool) (A B C g h : ℕ) → 0 < C → A * 2 ^ 149 ≡ g * C → B * 2 ^ 149 ≡ h * C
    → Rounds (signed s g +ℤ signed s h) (pos 1) (sum_sign (signed s g +ℤ signed s h) s s) (finite_word (round binary32 s (A + B) C))
like_sum s A B C g h c a b =
    summed (signed s g +ℤ signed s h) s s s s (A + B) C (g + h) c
    (add-mul g h C ∙ ap (λ (x : ℕ). x + h * C) (sym a) ∙ ap (λ (x : ℕ). A * 2 ^ 149 + x) (sym b) ∙ sym (add-mul A B (2 ^ 149)))
    (sum_like s g h) refl (ap (λ (z : ℤ). sum_sign z s s) (sum_like s g h) ∙ sign_like s (g + h))

unlike_sum : (s : Bool) (A B C g h : ℕ) → 0 < C → A * 2 ^ 149 ≡ g * C → B * 2 ^ 149 ≡ h * C
    → Rounds (signed s g +ℤ signed (not s) h) (pos 1) (sum_sign (signed s g +ℤ signed (not s) h) s (not s))
    (finite_word (cond (ltb A B) (round binary32 (not s) (B - A) C) (round binary32 (s && ltb B A) (A - B) C)))
unlike_sum s A B C g h c a b = go (ltb A B) refl (ltb B A) refl
  where
    p : ℤ
    p = signed s g +ℤ signed (not s) h

    go : (x : Bool) → ltb A B ≡ x → (y : Bool) → ltb B A ≡ y
        → Rounds (signed s g +ℤ signed (not s) h) (pos 1) (sum_sign (signed s g +ℤ signed (not s) h) s (not s))
        (finite_word (cond x (round binary32 (not s) (B - A) C) (round binary32 (s && y) (A - B) C)))
    go true i y j =
        let l : g < h = under A B C g h a b (ltb-true A B i) in
        let q = sum_up s g h (omega arith) in
        summed (signed s g +ℤ signed (not s) h) s (not s) (not s) (not s) (B - A) C (h - g) c (less A B C g h a b) q refl
        (ap (λ (z : ℤ). sum_sign z s (not s)) q ∙ sign_of (not s) s (not s) (h - g) (omega arith))
    go false i true j =
        let l : h < g = under B A C h g b a (ltb-true B A j) in
        let q = sum_down s g h (omega arith) in
        summed (signed s g +ℤ signed (not s) h) s (not s) (s && true) s (A - B) C (g - h) c (less B A C h g b a) q (kept s)
        (ap (λ (z : ℤ). sum_sign z s (not s)) q ∙ sign_of s s (not s) (g - h) (omega arith) ∙ kept s)
      where
        kept : (s : Bool) → s ≡ (s && true)
        kept false = refl
        kept true = refl
    go false i false j =
        let l : h ≤ g = upto B A C h g c b a (ltb-false A B i) in
        let m : g ≤ h = upto A B C g h c a b (ltb-false B A j) in
        let z : g - h ≡ 0 = omega arith in
        let q : signed s g +ℤ signed (not s) h ≡ signed false (g - h) = sum_down s g h l ∙ ap (λ (n : ℕ). signed s n) z ∙ signed_zero s ∙ ap pos (sym z) in
        summed (signed s g +ℤ signed (not s) h) s (not s) (s && false) false (A - B) C (g - h) c (less B A C h g b a) q (none s)
        (ap (λ (z : ℤ). sum_sign z s (not s)) q ∙ sign_none s false (g - h) z ∙ none s)
      where
        none : (s : Bool) → false ≡ (s && false)
        none false = refl
        none true = refl

signed_sum : (s t : Bool) (A B C g h : ℕ) → 0 < C → A * 2 ^ 149 ≡ g * C → B * 2 ^ 149 ≡ h * C
    → Rounds (signed s g +ℤ signed t h) (pos 1) (sum_sign (signed s g +ℤ signed t h) s t) (finite_word (sum binary32 s A t B C))
unfolding sum
signed_sum false false A B C g h c a b = like_sum false A B C g h c a b
signed_sum true true A B C g h c a b = like_sum true A B C g h c a b
signed_sum false true A B C g h c a b = unlike_sum false A B C g h c a b
signed_sum true false A B C g h c a b = unlike_sum true A B C g h c a b

-- ---- the operations on floats with a number of units

-- what f gives for x and y, with signs s and t, is R of their numbers
abbrev pub Op : {X : Type 0} → (ℤ → ℤ → Bool → Bool → X → Type 0) → (Float → Float → X) → Type 0
Op R f = (x y : Float) (s t : Bool) (g h : ℕ) → HasValue x s g (2 ^ 149) → HasValue y t h (2 ^ 149) → R (signed s g) (signed t h) s t (f x y)

-- it is enough to show it of finite numbers
pub by_parts : {X : Type 0} (R : ℤ → ℤ → Bool → Bool → X → Type 0) (f : Float → Float → X)
    → ((s t : Bool) (m n : ℕ) (e d : ℤ) (g h : ℕ) → m * up e * 2 ^ 149 ≡ g * down e → n * up d * 2 ^ 149 ≡ h * down d
    → R (signed s g) (signed t h) s t (f (fin s m e) (fin t n d))) → Op R f
by_parts R f k nan y s t g h v w = absurd v
by_parts R f k (inf b) y s t g h v w = absurd v
by_parts R f k (fin b m e) nan s t g h v w = absurd w
by_parts R f k (fin b m e) (inf c) s t g h v w = absurd w
by_parts R f k (fin b m e) (fin c n d) s t g h v w =
    subst (λ (z : Bool). R (signed z g) (signed t h) z t (f (fin b m e) (fin c n d))) v.0
    (subst (λ (z : Bool). R (signed b g) (signed z h) b z (f (fin b m e) (fin c n d))) w.0 (k b c m n e d g h v.1 w.1))

pub left : (m : ℕ) (e d : ℤ) (g : ℕ) → m * up e * 2 ^ 149 ≡ g * down e → m * up e * down d * 2 ^ 149 ≡ g * (down e * down d)
left m e d g a = mul_right_comm (m * up e) (down d) (2 ^ 149) ∙ ap (λ (x : ℕ). x * down d) a ∙ mul_assoc g (down e) (down d)

pub right : (n : ℕ) (e d : ℤ) (h : ℕ) → n * up d * 2 ^ 149 ≡ h * down d → n * up d * down e * 2 ^ 149 ≡ h * (down e * down d)
right n e d h b = left n d e h b ∙ ap (λ (x : ℕ). h * x) (mul_comm (down d) (down e))

abbrev RSum : ℤ → ℤ → Bool → Bool → Result ℕ ArithmeticFault → Type 0
RSum x y s t r = Rounds (x +ℤ y) (pos 1) (sum_sign (x +ℤ y) s t) r

sums : Op RSum (λ x y. finite_word (add binary32 x y))
unfolding add
sums = by_parts RSum (λ x y. finite_word (add binary32 x y)) at
  where
    at : (s t : Bool) (m n : ℕ) (e d : ℤ) (g h : ℕ) → m * up e * 2 ^ 149 ≡ g * down e → n * up d * 2 ^ 149 ≡ h * down d
        → RSum (signed s g) (signed t h) s t (finite_word (add binary32 (fin s m e) (fin t n d)))
    at s t m n e d g h a b = signed_sum s t (m * up e * down d) (n * up d * down e) (down e * down d) g h (mul-pos (down_pos e) (down_pos d)) (left m e d g a) (right n e d h b)

pub sum_rounds : (a b : ℕ) → T (lawful a) → T (lawful b) → Sum a b ((Single.single).sum a b)
sum_rounds a b p q = sums (number a) (number b) (negative a) (negative b) (magnitude a) (magnitude b) (word_value a p) (word_value b q)

-- ---- differences

negated : (y : Float) (t : Bool) (h : ℕ) → HasValue y t h (2 ^ 149) → HasValue (neg y) (not t) h (2 ^ 149)
unfolding neg
negated nan t h v = absurd v
negated (inf b) t h v = absurd v
negated (fin b n d) t h v = (ap not v.0, v.1)

minus : (x : ℤ) (t : Bool) (h : ℕ) → x +ℤ signed (not t) h ≡ x -ℤ signed t h
minus x false h = refl
minus x true h = ap (λ (z : ℤ). x +ℤ z) (sym (neg_ℤ-neg_ℤ (pos h)))

pub difference_rounds : (a b : ℕ) → T (lawful a) → T (lawful b) → Difference a b ((Single.single).difference a b)
unfolding sub
difference_rounds a b p q =
    subst (λ (z : ℤ). Rounds z (pos 1) (sum_sign z (negative a) (not (negative b))) (finite_word (add binary32 (number a) (neg (number b))))) (minus (units a) (negative b) (magnitude b))
    (sums (number a) (neg (number b)) (negative a) (not (negative b)) (magnitude a) (magnitude b) (word_value a p) (negated (number b) (negative b) (magnitude b) (word_value b q)))

-- ---- products

abbrev RProduct : ℤ → ℤ → Bool → Bool → Result ℕ ArithmeticFault → Type 0
RProduct x y s t r = Rounds (x *ℤ y) (pos one) (unlike s t) r

products : Op RProduct (λ x y. finite_word (mul binary32 x y))
unfolding mul
products = by_parts RProduct (λ x y. finite_word (mul binary32 x y)) at
  where
    at : (s t : Bool) (m n : ℕ) (e d : ℤ) (g h : ℕ) → m * up e * 2 ^ 149 ≡ g * down e → n * up d * 2 ^ 149 ≡ h * down d
        → RProduct (signed s g) (signed t h) s t (finite_word (mul binary32 (fin s m e) (fin t n d)))
    at s t m n e d g h a b =
        let X = m * up e in
        let Y = n * up d in
        let size : g * h * (down e * down d) ≡ X * Y * 2 ^ 149 * 2 ^ 149 =
        mul-mul-mul_comm g h (down e) (down d) ∙ ap (λ (x : ℕ). x * (h * down d)) (sym a) ∙ ap (λ (x : ℕ). X * 2 ^ 149 * x) (sym b)
        ∙ mul-mul-mul_comm X (2 ^ 149) Y (2 ^ 149) ∙ sym (mul_assoc (X * Y) (2 ^ 149) (2 ^ 149)) in
        subst (λ (z : ℤ). Rounds z (pos one) (unlike s t) (finite_word (round binary32 (unlike s t) (X * Y) (down e * down d)))) (sym (signed_mul s t g h))
        (rounds (unlike s t) (unlike s t) false (X * Y) (down e * down d) (g * h) (2 ^ 149) (mul-pos (down_pos e) (down_pos d)) (pow_pos 149) size (like_self (unlike s t)))

pub product_rounds : (a b : ℕ) → T (lawful a) → T (lawful b) → Product a b ((Single.single).product a b)
product_rounds a b p q = products (number a) (number b) (negative a) (negative b) (magnitude a) (magnitude b) (word_value a p) (word_value b q)

-- ---- quotients

abbrev RQuotient : ℤ → ℤ → Bool → Bool → Result ℕ ArithmeticFault → Type 0
RQuotient x y s t r = (y ≡ pos 0 → r ≡ Err ZeroDivisor) × ((y ≡ pos 0 → ⊥) → Rounds (x *ℤ pos one) y (unlike s t) r)

abbrev divided : Float → Float → Result ℕ ArithmeticFault
divided x y = cond (eq y (number 0)) (Err ZeroDivisor) (finite_word (div binary32 x y))

zero_number : number 0 ≡ fin false 0 (pos 0)
unfolding of_bits of_fields odd
zero_number = refl

zero_level : (t : Bool) (d : ℤ) → eq (fin t 0 d) (fin false 0 (pos 0)) ≡ true
unfolding eq
zero_level t d =
    let a : 0 * up d * 1 ≡ 0 = mul-one (0 * up d) ∙ zero-mul (up d) in
    and_from (eqb (0 * up d * 1) (0 * down d)) (beq t false || eqb (0 * up d * 1) 0) (eq-eqb (0 * up d * 1) (0 * down d) (a ∙ sym (zero-mul (down d)))) (or_right (beq t false) (eqb (0 * up d * 1) 0) (eq-eqb (0 * up d * 1) 0 a))

some_level : (t : Bool) (n : ℕ) (d : ℤ) → eq (fin t (suc n) d) (fin false 0 (pos 0)) ≡ false
unfolding eq
some_level t n d =
    let a : suc n * up d * 1 ≡ suc n * up d = mul-one (suc n * up d) in
    let b : 0 < suc n * up d = mul-pos (omega arith) (up_pos d) in
    let z : 0 * down d ≡ 0 = zero-mul (down d) in
    and_left (eqb (suc n * up d * 1) (0 * down d)) (beq t false || eqb (suc n * up d * 1) 0) (ne_eqb (suc n * up d * 1) (0 * down d) (λ e. let x = suc n * up d * 1 in let y = 0 * down d in let v = suc n * up d in omega arith))

unlike_twice : (s t : Bool) → unlike (unlike s t) t ≡ s
unlike_twice false false = refl
unlike_twice false true = refl
unlike_twice true false = refl
unlike_twice true true = refl

quotients : Op RQuotient divided
unfolding div
quotients = by_parts RQuotient divided at
  where
    at : (s t : Bool) (m n : ℕ) (e d : ℤ) (g h : ℕ) → m * up e * 2 ^ 149 ≡ g * down e → n * up d * 2 ^ 149 ≡ h * down d
        → RQuotient (signed s g) (signed t h) s t (divided (fin s m e) (fin t n d))
    at s t m zero e d g h a b =
        let z : h ≡ 0 = eq_of_mul-eq-mul_right (down d) (down_pos d) h 0 (sym b ∙ ap (λ (x : ℕ). x * 2 ^ 149) (zero-mul (up d)) ∙ zero-mul (2 ^ 149) ∙ sym (zero-mul (down d))) in
        let q : eq (fin t 0 d) (number 0) ≡ true = ap (λ (x : Float). eq (fin t 0 d) x) zero_number ∙ zero_level t d in (
          (λ _. ap (λ (c : Bool). cond c (Err ZeroDivisor) (finite_word (div binary32 (fin s m e) (fin t 0 d)))) q),
          (λ no_zero. absurd (no_zero (ap (λ (x : ℕ). signed t x) z ∙ signed_zero t))),
        )
    at s t m (suc n) e d g h a b =
        let X = m * up e in
        let Y = suc n * up d in
        let y : 0 < Y = mul-pos (omega arith) (up_pos d) in
        let some : h ≡ 0 → ⊥ = λ z. (let l : 0 < Y * 2 ^ 149 = mul-pos y (pow_pos 149) in let o : Y * 2 ^ 149 ≡ 0 = b ∙ ap (λ (x : ℕ). x * down d) z ∙ zero-mul (down d) in let v = Y * 2 ^ 149 in omega arith) in
        let q : eq (fin t (suc n) d) (number 0) ≡ false = ap (λ (x : Float). eq (fin t (suc n) d) x) zero_number ∙ some_level t n d in
        let size : g * 2 ^ 149 * (Y * down e) ≡ X * down d * 2 ^ 149 * h =
        ap (λ (x : ℕ). g * 2 ^ 149 * x) (mul_comm Y (down e)) ∙ mul-mul-mul_comm g (2 ^ 149) (down e) Y ∙ ap (λ (x : ℕ). x * (2 ^ 149 * Y)) (sym a)
        ∙ ap (λ (x : ℕ). X * 2 ^ 149 * x) (mul_comm (2 ^ 149) Y ∙ b ∙ mul_comm h (down d)) ∙ mul-mul-mul_comm X (2 ^ 149) (down d) h ∙ sym (mul_assoc (X * down d) (2 ^ 149) h) in (
          (λ no. absurd (some (sym (size_of t h) ∙ ap nat_abs no))),
          (λ _. subst (λ (c : Bool). Rounds (signed s g *ℤ pos one) (signed t h) (unlike s t) (cond c (Err ZeroDivisor) (finite_word (div binary32 (fin s m e) (fin t (suc n) d))))) (sym q)
              (subst (λ (c : Bool). Rounds (signed s g *ℤ pos one) (signed t h) (unlike s t) (finite_word (cond c (cond (eqb m 0) nan (inf (unlike s t))) (round binary32 (unlike s t) (X * down d) (Y * down e))))) (sym (ne_eqb (suc n) 0 (λ z. omega arith)))
              (subst (λ (z : ℤ). Rounds z (signed t h) (unlike s t) (finite_word (round binary32 (unlike s t) (X * down d) (Y * down e)))) (sym (signed_mul s false g (2 ^ 149) ∙ ap (λ (c : Bool). signed c (g * 2 ^ 149)) (like_self s)))
              (rounds (unlike s t) s t (X * down d) (Y * down e) (g * 2 ^ 149) h (mul-pos y (down_pos e)) (positive h some) size (unlike_twice s t))))),
        )
      where
        positive : (h : ℕ) → (h ≡ 0 → ⊥) → 0 < h
        positive h e = omega arith

pub quotient_rounds : (a b : ℕ) → T (lawful a) → T (lawful b) → Quotient a b ((Single.single).quotient a b)
quotient_rounds a b p q = quotients (number a) (number b) (negative a) (negative b) (magnitude a) (magnitude b) (word_value a p) (word_value b q)
