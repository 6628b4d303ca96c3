-- At a tie `round` takes the even number.
use Rattle.std.proofs.Common.{◌≡◌, ℕ, suc, ◌+◌, ◌-◌, ◌*◌, ◌/◌, ◌%◌, ◌^◌, ◌<◌, ◌≤◌, Bool, true, false, cond, ◌⊎◌, sym, refl, ap, ◌∙◌, subst, inl, inr, ⊎_elim, le_trans, le_of_eq, mul-le-mul_right, mod-lt, mul_assoc, suc-mul, mul_comm, mul-pos, div-add-mod', le-div_iff_mul-le, div-mul-le_self, mul-div_cancel, arith, pow_pos, pow_mono, pow-add, shl_lt}
use Prim.Native.Nat.{compare, Ordering}
use native.Mathlib.Nat.{eq_of_mul-eq-mul_right, div-div-eq-div-mul}
use lib.Pow.{pow-lt}
use lib.Ieee.{nearest, size, Float, nan, inf, fin, binary32, up, down, round, units, to_bits}
use lib.Ieee.Exact.{HasValue, units_val}
use lib.Ieee.Fits.{down_pos, round_is, nearest-le, kept-lt}
use lib.Ieee.Bits.{of_bits-fits}
use lib.Ieee.Digits.{size_reaches, size-lt, size-le}
use lib.Ieee.Nearest.{closest, nearest-ge}
use lib.Ieee.Order.{drop, kept}
use Rattle.std.proofs.lemmas.Bool.{cases_lt}
use Rattle.kind_laws.proofs.Nearest.{apart, Cmp, cmp, closest_nearest, room, all_in_use, more, Digits, digits, units_under}
use Rattle.std.specs.Float.{float_is_finite}
use Rattle.kinds.specs.Single.{number}

-- where another number is as near, the last bit of the result's word is 0
abbrev pub TiesToEven : Type 0
TiesToEven = (s : Bool) (a c g : ℕ) → 0 < c → HasValue (round binary32 s a c) s g (2 ^ 149)
    → (w m : ℕ) (t : Bool) → HasValue (number w) t m (2 ^ 149)
    → apart (g * c) (a * 2 ^ 149) ≡ apart (m * c) (a * 2 ^ 149) → (m ≡ g → ⊥)
    → to_bits binary32 (round binary32 s a c) % 2 ≡ 0

-- another multiple of u than the one that `nearest` picks is as near only if that one is even
tie : (w r u n t : ℕ) (o : Ordering) → Cmp o (r * 2) u → r < u → w * u + r ≡ n
    → apart (nearest w o * u) n ≡ apart (t * u) n → (t ≡ nearest w o → ⊥) → nearest w o % 2 ≡ 0
tie w r u n t Ordering.lt h l e d x = absurd (⊎_elim
    (λ (b : t < w). let m : suc t * u ≤ w * u = mul-le-mul_right u b in let s : suc t * u ≡ t * u + u = suc-mul t u in omega arith)
    (λ (b : w ≤ t). ⊎_elim
    (λ (y : t < suc w). x (omega arith))
    (λ (y : suc w ≤ t). let m : suc w * u ≤ t * u = mul-le-mul_right u y in let s : suc w * u ≡ w * u + u = suc-mul w u in omega arith)
    (cases_lt t (suc w)))
    (cases_lt t w))
tie w r u n t Ordering.eq h l e d x = omega arith
tie w r u n t Ordering.gt h l e d x = absurd (⊎_elim
    (λ (b : t < suc w). let m : t * u ≤ w * u = mul-le-mul_right u (omega arith) in let s : suc w * u ≡ w * u + u = suc-mul w u in omega arith)
    (λ (b : suc w ≤ t). ⊎_elim
    (λ (y : t < suc (suc w)). x (omega arith))
    (λ (y : suc (suc w) ≤ t). let m : suc (suc w) * u ≤ t * u = mul-le-mul_right u y in let s : suc (suc w) * u ≡ suc w * u + u = suc-mul (suc w) u in let z : suc w * u ≡ w * u + u = suc-mul w u in omega arith)
    (cases_lt t (suc (suc w))))
    (cases_lt t (suc w)))

closest_tie : (n u t : ℕ) → 0 < u → apart (closest n u * u) n ≡ apart (t * u) n → (t ≡ closest n u → ⊥) → closest n u % 2 ≡ 0
closest_tie n u t U d x = tie (n / u) (n % u) u n t (compare (n % u * 2) u) (cmp (n % u * 2) u) (mod-lt n U) (div-add-mod' n u) d x

level : (x y n d : ℕ) → x ≤ y → y ≤ n → d ≤ apart y n → d ≡ apart x n → x ≡ y
level x y n d a b h e = omega arith

-- a multiple t of u that is m * c
by_multiple : (p n c m t : ℕ) → 0 < c → m * c ≡ t * (c * 2 ^ drop p n c)
    → apart (kept p n c * 2 ^ drop p n c * c) n ≡ apart (m * c) n → (m ≡ kept p n c * 2 ^ drop p n c → ⊥) → kept p n c % 2 ≡ 0
by_multiple p n c m t C e d x =
    let k = drop p n c in
    let u = c * 2 ^ k in
    let g : kept p n c * 2 ^ k * c ≡ closest n u * u = mul_assoc (kept p n c) (2 ^ k) c ∙ ap (λ (x : ℕ). kept p n c * x) (mul_comm (2 ^ k) c) in
    closest_tie n u t (mul-pos C (pow_pos k)) (ap (λ (y : ℕ). apart y n) (sym g) ∙ d ∙ ap (λ (y : ℕ). apart y n) e)
    (λ z. x (eq_of_mul-eq-mul_right c C m (kept p n c * 2 ^ k) (e ∙ ap (λ (y : ℕ). y * u) z ∙ sym g)))

pub grid_tie : (p n c q j : ℕ) → 0 < p → 0 < c → q < 2 ^ p
    → apart (kept p n c * 2 ^ drop p n c * c) n ≡ apart (q * 2 ^ j * c) n → (q * 2 ^ j ≡ kept p n c * 2 ^ drop p n c → ⊥) → kept p n c % 2 ≡ 0
grid_tie p n c q j P C Q d x = ⊎_elim fine coarse (cases_lt j (drop p n c))
  where
    K : ℕ
    K = drop p n c

    U : ℕ
    U = c * 2 ^ K

    g : kept p n c * 2 ^ K * c ≡ closest n U * U
    g = mul_assoc (kept p n c) (2 ^ K) c ∙ ap (λ (x : ℕ). kept p n c * x) (mul_comm (2 ^ K) c)

    fine : j < K → kept p n c % 2 ≡ 0
    fine h =
        let a : 2 ^ (p - 1 + K) ≤ n / c = size_reaches (n / c) (p - 1 + K) (all_in_use (size (n / c)) p P (omega arith)) in
        let b : q * 2 ^ j ≤ 2 ^ (p - 1 + K) = le_trans (omega (arith, shl_lt p j Q)) (pow_mono (room p j K P h)) in
        let f : 2 ^ (p - 1 + K) * c ≤ n = le_trans (mul-le-mul_right c a) (div-mul-le_self n c) in
        let e : 2 ^ (p - 1 + K) * c ≡ 2 ^ (p - 1) * U = ap (λ (x : ℕ). x * c) (pow-add 2 (p - 1) K) ∙ mul_assoc (2 ^ (p - 1)) (2 ^ K) c ∙ ap (λ (x : ℕ). 2 ^ (p - 1) * x) (mul_comm (2 ^ K) c) in
        let l : apart (closest n U * U) n ≤ apart (2 ^ (p - 1 + K) * c) n = subst (λ (x : ℕ). apart (closest n U * U) n ≤ apart x n) (sym e) (closest_nearest n U (2 ^ (p - 1)) (mul-pos C (pow_pos K))) in
        let s : q * 2 ^ j * c ≡ 2 ^ (p - 1 + K) * c = level (q * 2 ^ j * c) (2 ^ (p - 1 + K) * c) n (apart (closest n U * U) n) (mul-le-mul_right c b) f l (ap (λ (y : ℕ). apart y n) (sym g) ∙ d) in
        by_multiple p n c (q * 2 ^ j) (2 ^ (p - 1)) C (s ∙ e) d x

    coarse : K ≤ j → kept p n c % 2 ≡ 0
    coarse h =
        let e : q * 2 ^ j * c ≡ q * 2 ^ (j - K) * U =
        ap (λ (x : ℕ). q * 2 ^ x * c) (more j K h) ∙ ap (λ (x : ℕ). q * x * c) (pow-add 2 (j - K) K)
        ∙ ap (λ (x : ℕ). x * c) (sym (mul_assoc q (2 ^ (j - K)) (2 ^ K))) ∙ mul_assoc (q * 2 ^ (j - K)) (2 ^ K) c ∙ ap (λ (x : ℕ). q * 2 ^ (j - K) * x) (mul_comm (2 ^ K) c) in
        by_multiple p n c (q * 2 ^ j) (q * 2 ^ (j - K)) C e d x

kept_le : (p n den : ℕ) → kept p n den ≤ 2 ^ p
kept_le p n den =
    let k = drop p n den in
    let u = den * 2 ^ k in
    le_trans (nearest-le (n / u) (compare (n % u * 2) u)) (subst (λ (x : ℕ). x < 2 ^ p) (div-div-eq-div-mul n den (2 ^ k)) (kept-lt p (n / den)))

pub kept_ge : (p n den : ℕ) → 0 < p → 0 < drop p n den → 2 ^ (p - 1) ≤ kept p n den
kept_ge p n den P K =
    let k = drop p n den in
    let u = den * 2 ^ k in
    let w = n / den in
    let a : 2 ^ (p - 1) * 2 ^ k ≤ w = le_trans (le_of_eq (sym (pow-add 2 (p - 1) k))) (size_reaches w (p - 1 + k) (all_in_use (size w) p P K)) in
    le_trans (subst (λ (x : ℕ). 2 ^ (p - 1) ≤ x) (div-div-eq-div-mul n den (2 ^ k)) ((le-div_iff_mul-le (pow_pos k)).1 a)) (nearest-ge (n / u) (compare (n % u * 2) u))

-- how many digits g has
size_is : (g z : ℕ) → 2 ^ z ≤ g → g < 2 ^ suc z → size g ≡ suc z
size_is g z a b = ⊎_elim
    (λ (h : size g < suc z). absurd (let p : 2 ^ size g ≤ 2 ^ z = pow_mono (omega arith) in omega (arith, size-lt g)))
    (λ (h : suc z ≤ size g). omega (arith, size-le g (suc z) b))
    (cases_lt (size g) (suc z))

-- the digits that the word of q * 2 ^ k keeps are even
even_digits : (q k : ℕ) → q ≤ 2 ^ 24 → (0 < k → 2 ^ 23 ≤ q) → q % 2 ≡ 0 → q * 2 ^ k / 2 ^ (size (q * 2 ^ k) - 24) % 2 ≡ 0
even_digits q k a b e = ⊎_elim full (λ (h : q < 2 ^ 24). ⊎_elim (none h) (some h) (cases_lt k 1)) (by (cases_lt q (2 ^ 24)))
  where
    by : (q < 2 ^ 24) ⊎ (2 ^ 24 ≤ q) → (q ≡ 2 ^ 24) ⊎ (q < 2 ^ 24)
    by (inl h) = inr h
    by (inr h) = inl (omega arith)

    Goal : ℕ → Type 0
    Goal d = q * 2 ^ k / 2 ^ d % 2 ≡ 0

    full : q ≡ 2 ^ 24 → q * 2 ^ k / 2 ^ (size (q * 2 ^ k) - 24) % 2 ≡ 0
    full h =
        let g : q * 2 ^ k ≡ 2 ^ (24 + k) = ap (λ (x : ℕ). x * 2 ^ k) h ∙ sym (pow-add 2 24 k) in
        let s : size (q * 2 ^ k) ≡ suc (24 + k) = size_is (q * 2 ^ k) (24 + k) (le_of_eq (sym g)) (subst (λ (x : ℕ). x < 2 ^ suc (24 + k)) (sym g) (pow-lt (omega arith))) in
        let d : size (q * 2 ^ k) - 24 ≡ suc k = omega arith in
        let v : q * 2 ^ k ≡ 2 ^ 23 * 2 ^ suc k = g ∙ ap (λ (x : ℕ). 2 ^ x) (let y : 24 + k ≡ 23 + suc k = omega arith in y) ∙ pow-add 2 23 (suc k) in
        ap (λ (x : ℕ). q * 2 ^ k / 2 ^ x % 2) d ∙ ap (λ (x : ℕ). x / 2 ^ suc k % 2) v ∙ ap (λ (x : ℕ). x % 2) (mul-div_cancel (2 ^ 23) (pow_pos (suc k)))

    none : q < 2 ^ 24 → k < 1 → q * 2 ^ k / 2 ^ (size (q * 2 ^ k) - 24) % 2 ≡ 0
    none h z =
        let y : k ≡ 0 = omega arith in
        let l : size (q * 2 ^ k) ≤ 24 + k = size-le (q * 2 ^ k) (24 + k) (shl_lt 24 k h) in
        let d : size (q * 2 ^ k) - 24 ≡ k = omega arith in
        ap (λ (x : ℕ). q * 2 ^ k / 2 ^ x % 2) d ∙ ap (λ (x : ℕ). x % 2) (mul-div_cancel q (pow_pos k)) ∙ e

    some : q < 2 ^ 24 → 1 ≤ k → q * 2 ^ k / 2 ^ (size (q * 2 ^ k) - 24) % 2 ≡ 0
    some h z =
        let m : 2 ^ (23 + k) ≤ q * 2 ^ k = le_trans (le_of_eq (pow-add 2 23 k)) (mul-le-mul_right (2 ^ k) (b z)) in
        let s : size (q * 2 ^ k) ≡ suc (23 + k) = size_is (q * 2 ^ k) (23 + k) m (subst (λ (x : ℕ). q * 2 ^ k < 2 ^ x) (let y : 24 + k ≡ suc (23 + k) = omega arith in y) (shl_lt 24 k h)) in
        let d : size (q * 2 ^ k) - 24 ≡ k = omega arith in
        ap (λ (x : ℕ). q * 2 ^ k / 2 ^ x % 2) d ∙ ap (λ (x : ℕ). x % 2) (mul-div_cancel q (pow_pos k)) ∙ e

-- the last bit of the word of a number that is g of the smallest
last_bit : (x : Float) (s : Bool) (g : ℕ) → HasValue x s g (2 ^ 149) → g / 2 ^ (size g - 24) % 2 ≡ 0 → to_bits binary32 x % 2 ≡ 0
unfolding to_bits
last_bit nan s g v e = absurd v
last_bit (inf t) s g v e = absurd v
last_bit (fin t m d) s g v e =
    let n : m * up d * 2 ^ 149 / down d ≡ g = ap (λ (x : ℕ). x / down d) v.1 ∙ mul-div_cancel g (down_pos d) in
    subst (λ (x : ℕ). (cond t 2147483648 0 + (size x - 24) * 8388608 + x / 2 ^ (size x - 24)) % 2 ≡ 0) (sym n)
    (parity t (size g - 24) (g / 2 ^ (size g - 24)) e)
  where
    parity : (t : Bool) (k y : ℕ) → y % 2 ≡ 0 → (cond t 2147483648 0 + k * 8388608 + y) % 2 ≡ 0
    parity true k y h = omega arith
    parity false k y h = omega arith

-- a value is g of the smallest for one g
pub same_units : (x : Float) (s t : Bool) (g h : ℕ) → HasValue x s g (2 ^ 149) → HasValue x t h (2 ^ 149) → g ≡ h
same_units nan s t g h v w = absurd v
same_units (inf b) s t g h v w = absurd v
same_units (fin b m e) s t g h v w = eq_of_mul-eq-mul_right (down e) (down_pos e) g h (sym v.1 ∙ w.1)

pub value_finite : (x : Float) (s : Bool) (g : ℕ) → HasValue x s g (2 ^ 149) → float_is_finite x ≡ true
unfolding float_is_finite
value_finite nan s g v = absurd v
value_finite (inf t) s g v = absurd v
value_finite (fin t m e) s g v = refl

from_digits : (n c m : ℕ) → Digits m → 0 < c → apart (kept 24 n c * 2 ^ drop 24 n c * c) n ≡ apart (m * c) n → (m ≡ kept 24 n c * 2 ^ drop 24 n c → ⊥) → kept 24 n c % 2 ≡ 0
unfolding Digits
from_digits n c m d C e x = grid_tie 24 n c d.0 d.1 (omega arith) C d.2 (e ∙ ap (λ (y : ℕ). apart (y * c) n) d.3) (λ z. x (d.3 ∙ z))

pub ties_to_even : TiesToEven
ties_to_even s a c g C v w m t u d x =
    let n = a * 2 ^ 149 in
    let q = kept 24 n c in
    let k = drop 24 n c in
    let e : round binary32 s a c ≡ units binary32 s q k = round_is binary32 s a c in
    let b = units_under s q k (ap float_is_finite (sym e) ∙ value_finite (round binary32 s a c) s g v) in
    let h : HasValue (round binary32 s a c) s (q * 2 ^ k) (2 ^ 149) = subst (λ (x : Float). HasValue x s (q * 2 ^ k) (2 ^ 149)) (sym e) (units_val binary32 s q k b) in
    let i : g ≡ q * 2 ^ k = same_units (round binary32 s a c) s s g (q * 2 ^ k) v h in
    let o : q % 2 ≡ 0 = from_digits n c m (digits (number w) t m (of_bits-fits binary32 w) u) C (ap (λ (y : ℕ). apart (y * c) n) (sym i) ∙ d) (λ z. x (z ∙ sym i)) in
    last_bit (round binary32 s a c) s (q * 2 ^ k) h (even_digits q k (kept_le 24 n c) (λ z. kept_ge 24 n c (omega arith) z) o)
