-- `round` gives the nearest number of the format: no other that the format holds is nearer.
use Rattle.std.proofs.Common.{◌≡◌, ℕ, zero, suc, ◌+◌, ◌-◌, ◌*◌, ◌/◌, ◌%◌, ◌^◌, ◌<◌, ◌≤◌, Bool, true, false, cond, not, ◌&&◌, T, eqb, ltb, leb, ◌⊎◌, pos, negsuc, sym, ap, ◌∙◌, subst, inl, inr, ⊎_elim, le_trans, mul-le-mul_right, mod-lt, mul_assoc, suc-mul, mul_comm, mul-pos, div-add-mod', zero-mul, mul-one, div-mul-le_self, arith, lit<, eqb→eq, ltb→lt, leb→le, pow_pos, pow_mono, pow-add, shl_lt}
use Prim.Native.Nat.{compare, Ordering}
use native.Mathlib.Nat.{eq_of_mul-eq-mul_right}
use lib.Dec.{is_le, compare_is_eq, nleb→lt, eqb_refl}
use lib.Arith.{lt_of_le-ne}
use lib.Pow.{pow-lt}
use lib.Ieee.{nearest, size, Float, nan, inf, fin, binary32, fits, up, down, round, units, odd}
use lib.Ieee.Exact.{HasValue, units_val}
use lib.Ieee.Fits.{and_l, and_r, down_pos, round_is}
use lib.Ieee.Bits.{of_bits-fits}
use lib.Ieee.Digits.{size_reaches}
use lib.Ieee.Nearest.{closest}
use lib.Ieee.Order.{drop, kept}
use Rattle.std.proofs.lemmas.Bool.{cases_lt, false≢true}
use Rattle.std.specs.Float.{float_is_finite}
use Rattle.kinds.specs.Single.{number}

abbrev pub apart : ℕ → ℕ → ℕ
apart a b = (a - b) + (b - a)

-- `round` is handed a / c, and gives g units, if that is finite: no number m of the format is nearer
abbrev pub RoundsToNearest : Type 0
RoundsToNearest = (s : Bool) (a c : ℕ) → 0 < c → float_is_finite (round binary32 s a c) ≡ true
    → (g : ℕ) × HasValue (round binary32 s a c) s g (2 ^ 149)
    × ((w m : ℕ) (t : Bool) → HasValue (number w) t m (2 ^ 149) → apart (g * c) (a * 2 ^ 149) ≤ apart (m * c) (a * 2 ^ 149))

abbrev pub Cmp : Ordering → ℕ → ℕ → Type 0
Cmp Ordering.lt a b = a < b
Cmp Ordering.eq a b = a ≡ b
Cmp Ordering.gt a b = b < a

pub cmp : (a b : ℕ) → Cmp (compare a b) a b
cmp a b = go (compare a b) (leb→le a b) (nleb→lt a b) (eqb→eq a b) (λ (e : a ≡ b). subst (λ (x : ℕ). T (eqb a x)) e (eqb_refl a))
  where
    go : (o : Ordering) → (T (is_le o) → a ≤ b) → (T (not (is_le o)) → b < a) → (T (compare_is_eq o) → a ≡ b) → (a ≡ b → T (compare_is_eq o)) → Cmp o a b
    go Ordering.lt h k e n = lt_of_le-ne (h tt) n
    go Ordering.eq h k e n = e tt
    go Ordering.gt h k e n = k tt

-- with n = w * u + r, the multiple of u that `nearest` picks is at most r and at most u - r away
picked : (w r u n : ℕ) (o : Ordering) → Cmp o (r * 2) u → r < u → w * u + r ≡ n → (apart (nearest w o * u) n ≤ r) × (apart (nearest w o * u) n + r ≤ u)
picked w r u n Ordering.lt h l e = let p = w * u in (omega arith, omega arith)
picked w r u n Ordering.eq h l e = go (w % 2) (mod-lt w (omega arith))
  where
    go : (b : ℕ) → b < 2 → (apart ((w + b) * u) n ≤ r) × (apart ((w + b) * u) n + r ≤ u)
    go b t = ⊎_elim
        (λ (z : b < 1). let s : (w + b) * u ≡ w * u = ap (λ (x : ℕ). x * u) (omega arith) in (omega arith, omega arith))
        (λ (z : 1 ≤ b). let s : (w + b) * u ≡ w * u + u = ap (λ (x : ℕ). x * u) (let q : w + b ≡ suc w = omega arith in q) ∙ suc-mul w u in (omega arith, omega arith))
        (cases_lt b 1)
picked w r u n Ordering.gt h l e = let s : suc w * u ≡ w * u + u = suc-mul w u in (omega arith, omega arith)

-- every multiple of u is at least as far away
far : (w r u n t : ℕ) → r < u → w * u + r ≡ n → (r ≤ apart (t * u) n) ⊎ (u ≤ apart (t * u) n + r)
far w r u n t l e = ⊎_elim
    (λ (h : t < suc w). let m : t * u ≤ w * u = mul-le-mul_right u (omega arith) in inl (omega arith))
    (λ (h : suc w ≤ t). let m : suc w * u ≤ t * u = mul-le-mul_right u h in let s : suc w * u ≡ w * u + u = suc-mul w u in inr (omega arith))
    (cases_lt t (suc w))

pub closest_nearest : (n u t : ℕ) → 0 < u → apart (closest n u * u) n ≤ apart (t * u) n
closest_nearest n u t U =
    let w = n / u in
    let r = n % u in
    let l : r < u = mod-lt n U in
    let e : w * u + r ≡ n = div-add-mod' n u in
    let p = picked w r u n (compare (r * 2) u) (cmp (r * 2) u) l e in
    ⊎_elim
    (λ h. le_trans p.0 h)
    (λ h. let q = p.1 in omega arith)
    (far w r u n t l e)

pub room : (p j k : ℕ) → 0 < p → j < k → p + j ≤ p - 1 + k
room p j k P h = omega arith

pub all_in_use : (z p : ℕ) → 0 < p → 0 < z - p → p - 1 + (z - p) < z
all_in_use z p P h = omega arith

pub more : (j k : ℕ) → k ≤ j → j ≡ j - k + k
more j k h = omega arith

nearer : (x y n d : ℕ) → x ≤ y → y ≤ n → d ≤ apart y n → d ≤ apart x n
nearer x y n d a b h = omega arith

-- q * 2 ^ j, with a q of at most p digits, is at least as far from n / c
pub grid_nearest : (p n c q j : ℕ) → 0 < p → 0 < c → q < 2 ^ p → apart (kept p n c * 2 ^ drop p n c * c) n ≤ apart (q * 2 ^ j * c) n
grid_nearest p n c q j P C Q =
    let k = drop p n c in
    let u = c * 2 ^ k in
    let g : kept p n c * 2 ^ k * c ≡ closest n u * u = mul_assoc (kept p n c) (2 ^ k) c ∙ ap (λ (x : ℕ). kept p n c * x) (mul_comm (2 ^ k) c) in
    subst (λ (x : ℕ). apart x n ≤ apart (q * 2 ^ j * c) n) (sym g) (⊎_elim fine coarse (cases_lt j k))
  where
    K : ℕ
    K = drop p n c

    U : ℕ
    U = c * 2 ^ K

    fine : j < K → apart (closest n U * U) n ≤ apart (q * 2 ^ j * c) n
    fine h =
        let a : 2 ^ (p - 1 + K) ≤ n / c = size_reaches (n / c) (p - 1 + K) (all_in_use (size (n / c)) p P (omega arith)) in
        let b : q * 2 ^ j ≤ 2 ^ (p - 1 + K) = le_trans (omega (arith, shl_lt p j Q)) (pow_mono (room p j K P h)) in
        let d : 2 ^ (p - 1 + K) * c ≤ n = le_trans (mul-le-mul_right c a) (div-mul-le_self n c) in
        let e : 2 ^ (p - 1 + K) * c ≡ 2 ^ (p - 1) * U = ap (λ (x : ℕ). x * c) (pow-add 2 (p - 1) K) ∙ mul_assoc (2 ^ (p - 1)) (2 ^ K) c ∙ ap (λ (x : ℕ). 2 ^ (p - 1) * x) (mul_comm (2 ^ K) c) in
        nearer (q * 2 ^ j * c) (2 ^ (p - 1 + K) * c) n (apart (closest n U * U) n) (mul-le-mul_right c b) d
        (subst (λ (x : ℕ). apart (closest n U * U) n ≤ apart x n) (sym e) (closest_nearest n U (2 ^ (p - 1)) (mul-pos C (pow_pos K))))

    coarse : K ≤ j → apart (closest n U * U) n ≤ apart (q * 2 ^ j * c) n
    coarse h =
        let e : q * 2 ^ j * c ≡ q * 2 ^ (j - K) * U =
        ap (λ (x : ℕ). q * 2 ^ x * c) (more j K h) ∙ ap (λ (x : ℕ). q * x * c) (pow-add 2 (j - K) K)
        ∙ ap (λ (x : ℕ). x * c) (sym (mul_assoc q (2 ^ (j - K)) (2 ^ K))) ∙ mul_assoc (q * 2 ^ (j - K)) (2 ^ K) c ∙ ap (λ (x : ℕ). q * 2 ^ (j - K) * x) (mul_comm (2 ^ K) c) in
        subst (λ (x : ℕ). apart (closest n U * U) n ≤ apart x n) (sym e) (closest_nearest n U (q * 2 ^ (j - K)) (mul-pos C (pow_pos K)))

-- a number that the format holds is q * 2 ^ j of its smallest, with a q of at most `prec` digits
unfoldable pub Digits : ℕ → Type 0
Digits m = (q : ℕ) × (j : ℕ) × (q < 2 ^ 24) × (m ≡ q * 2 ^ j)

up_digits : (m k M : ℕ) → m < 2 ^ 24 → m * 2 ^ k * 2 ^ 149 ≡ M * 1 → Digits M
unfolding Digits
up_digits m k M h e = (m, k + 149, h, sym (mul-one M) ∙ sym e ∙ mul_assoc m (2 ^ k) (2 ^ 149) ∙ ap (λ (x : ℕ). m * x) (sym (pow-add 2 k 149)))

down_digits : (m k M : ℕ) → m < 2 ^ 24 → suc k ≤ 149 → m * 1 * 2 ^ 149 ≡ M * 2 ^ suc k → Digits M
unfolding Digits
down_digits m k M h l e = (
  m,
  149 - suc k,
  h,
  eq_of_mul-eq-mul_right (2 ^ suc k) (pow_pos (suc k)) M (m * 2 ^ (149 - suc k))
      (sym e ∙ ap (λ (x : ℕ). x * 2 ^ 149) (mul-one m) ∙ ap (λ (x : ℕ). m * 2 ^ x) (more 149 (suc k) l) ∙ ap (λ (x : ℕ). m * x) (pow-add 2 (149 - suc k) (suc k)) ∙ sym (mul_assoc m (2 ^ (149 - suc k)) (2 ^ suc k))),
)

pow_under : (i j : ℕ) → 2 ^ i ≤ 2 ^ j → i ≤ j
pow_under i j h = ⊎_elim (λ (l : j < i). absurd (let p = pow-lt l in omega arith)) (λ (l : i ≤ j). l) (cases_lt j i)

pub digits : (y : Float) (t : Bool) (M : ℕ) → T (fits binary32 y) → HasValue y t M (2 ^ 149) → Digits M
unfolding fits Digits
digits nan t M f v = absurd v
digits (inf s) t M f v = absurd v
digits (fin s zero e) t M f v =
    (0, 0, lit< tt, eq_of_mul-eq-mul_right (down e) (down_pos e) M (0 * 2 ^ 0) (sym v.1 ∙ ap (λ (x : ℕ). x * 2 ^ 149) (zero-mul (up e)) ∙ zero-mul (2 ^ 149) ∙ sym (zero-mul (down e))))
digits (fin s (suc m) (pos k)) t M f v = up_digits (suc m) k M (ltb→lt (suc m) (2 ^ 24) (small (suc m) f)) v.1
  where
    small : (m : ℕ) → T (eqb (m % 2) 1 && ltb m (2 ^ 24) && leb 1 (2 ^ 149) && ltb (m * 2 ^ k) (2 ^ 128 * 1)) → T (ltb m (2 ^ 24))
    small m f = and_r (eqb (m % 2) 1) (ltb m (2 ^ 24)) (and_l (eqb (m % 2) 1 && ltb m (2 ^ 24)) (leb 1 (2 ^ 149)) (and_l (eqb (m % 2) 1 && ltb m (2 ^ 24) && leb 1 (2 ^ 149)) (ltb (m * 2 ^ k) (2 ^ 128 * 1)) f))
digits (fin s (suc m) (negsuc k)) t M f v =
    let p = and_l (eqb (suc m % 2) 1 && ltb (suc m) (2 ^ 24) && leb (2 ^ suc k) (2 ^ 149)) (ltb (suc m * 1) (2 ^ 128 * 2 ^ suc k)) f in
    let a = and_r (eqb (suc m % 2) 1) (ltb (suc m) (2 ^ 24)) (and_l (eqb (suc m % 2) 1 && ltb (suc m) (2 ^ 24)) (leb (2 ^ suc k) (2 ^ 149)) p) in
    let b = and_r (eqb (suc m % 2) 1 && ltb (suc m) (2 ^ 24)) (leb (2 ^ suc k) (2 ^ 149)) p in
    down_digits (suc m) k M (ltb→lt (suc m) (2 ^ 24) a) (pow_under (suc k) 149 (leb→le (2 ^ suc k) (2 ^ 149) b)) v.1

not_finite : (s : Bool) → float_is_finite (inf s) ≡ true → ⊥
unfolding float_is_finite
not_finite s h = false≢true h

at : (n c m : ℕ) → Digits m → 0 < c → apart (kept 24 n c * 2 ^ drop 24 n c * c) n ≤ apart (m * c) n
unfolding Digits
at n c m d C = subst (λ (x : ℕ). apart (kept 24 n c * 2 ^ drop 24 n c * c) n ≤ apart (x * c) n) (sym d.3) (grid_nearest 24 n c d.0 d.1 (omega arith) C d.2)

pub units_under : (s : Bool) (q k : ℕ) → float_is_finite (units binary32 s q k) ≡ true → q * 2 ^ k < 2 ^ 277
unfolding units
units_under s q k = go (ltb (q * 2 ^ k) (2 ^ 277)) (ltb→lt (q * 2 ^ k) (2 ^ 277))
  where
    go : (b : Bool) → (T b → q * 2 ^ k < 2 ^ 277) → float_is_finite (cond b (odd 25 s q k 149) (inf s)) ≡ true → q * 2 ^ k < 2 ^ 277
    go true h t = h tt
    go false h t = absurd (not_finite s t)

pub rounds_to_nearest : RoundsToNearest
rounds_to_nearest s a c C f =
    let n = a * 2 ^ 149 in
    let q = kept 24 n c in
    let k = drop 24 n c in
    let e : round binary32 s a c ≡ units binary32 s q k = round_is binary32 s a c in
    let l = units_under s q k (ap float_is_finite (sym e) ∙ f) in (
      q * 2 ^ k,
      subst (λ (x : Float). HasValue x s (q * 2 ^ k) (2 ^ 149)) (sym e) (units_val binary32 s q k l),
      λ w m t v.
          let d = digits (number w) t m (of_bits-fits binary32 w) v in at n c m d C,
    )
