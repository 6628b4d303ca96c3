-- Where the rounded result would be 2 ^ 277 units or more.
use Rattle.std.proofs.Common.{◌≡◌, ℕ, suc, ◌+◌, ◌-◌, ◌*◌, ◌/◌, ◌%◌, ◌^◌, ◌<◌, ◌≤◌, sym, ap, subst, ⊎_elim, le_trans, mul-le-mul_right, mod-lt, suc-mul, mul-le-mul_left, mul-pos, div-add-mod', le-div_iff_mul-le, arith, pow_pos, pow_mono}
use Prim.Native.Nat.{compare, Ordering}
use lib.Ieee.{nearest, size}
use lib.Ieee.Digits.{size-lt}
use lib.Ieee.Nearest.{closest, nearest-ge}
use lib.Ieee.Order.{drop, kept}
use Rattle.std.proofs.lemmas.Bool.{cases_lt, cases_eq}
use Rattle.kind_laws.specs.Rounding.{limit}
use Rattle.kind_laws.proofs.Nearest.{apart, Cmp, cmp, grid_nearest}
use Rattle.kind_laws.proofs.Ties.{kept_ge}

between : (G C N : ℕ) → 0 < C → 2 ^ 277 * C ≤ G → apart G N ≤ apart ((2 ^ 24 - 1) * 2 ^ 253 * C) N → limit * C ≤ N
between G C N c g h = omega arith

pub too_large : (n c : ℕ) → 0 < c → 2 ^ 277 ≤ kept 24 n c * 2 ^ drop 24 n c → limit * c ≤ n
too_large n c C h =
    between (kept 24 n c * 2 ^ drop 24 n c * c) c n C (mul-le-mul_right c h)
    (grid_nearest 24 n c (2 ^ 24 - 1) 253 (omega arith) C (omega arith))

-- from halfway on the quotient w is moved up to 2 ^ 24
moved_up : (w r u n : ℕ) (o : Ordering) → Cmp o (r * 2) u → r < u → w * u + r ≡ n → (2 ^ 25 - 1) * u ≤ n * 2 → 2 ^ 24 ≤ nearest w o
moved_up w r u n o k l e h = ⊎_elim
    (λ (a : w < 2 ^ 24 - 1). absurd (let m : suc w * u ≤ (2 ^ 24 - 1) * u = mul-le-mul_right u a in let s : suc w * u ≡ w * u + u = suc-mul w u in omega arith))
    (λ (a : 2 ^ 24 - 1 ≤ w). ⊎_elim (λ (b : w < 2 ^ 24). last (let v : w ≡ 2 ^ 24 - 1 = omega arith in v) o k) (λ (b : 2 ^ 24 ≤ w). le_trans b (nearest-ge w o)) (cases_lt w (2 ^ 24)))
    (cases_lt w (2 ^ 24 - 1))
  where
    last : w ≡ 2 ^ 24 - 1 → (o : Ordering) → Cmp o (r * 2) u → 2 ^ 24 ≤ nearest w o
    last v Ordering.lt k = absurd (let m : w * u ≡ (2 ^ 24 - 1) * u = ap (λ (x : ℕ). x * u) v in omega arith)
    last v Ordering.eq k = omega arith
    last v Ordering.gt k = omega arith

digits_of : (w : ℕ) → limit ≤ w → 277 ≤ size w
digits_of w h = ⊎_elim
    (λ (a : size w < 277). absurd (let l : size w ≤ 276 = omega arith in let p : 2 ^ size w ≤ 2 ^ 276 = pow_mono {j = 276} l in omega (arith, size-lt w)))
    (λ (a : 277 ≤ size w). a)
    (cases_lt (size w) 277)

doubled : (c n : ℕ) → limit * c ≤ n → (2 ^ 25 - 1) * (c * 2 ^ 253) ≤ n * 2
doubled c n h = omega arith

pub large_enough : (n c : ℕ) → 0 < c → limit * c ≤ n → 2 ^ 277 ≤ kept 24 n c * 2 ^ drop 24 n c
large_enough n c C h = ⊎_elim exact above (cases_eq (size (n / c)) 277)
  where
    z : 277 ≤ size (n / c)
    z = digits_of (n / c) ((le-div_iff_mul-le C).1 h)

    exact : size (n / c) ≡ 277 → 2 ^ 277 ≤ kept 24 n c * 2 ^ drop 24 n c
    exact e =
        let k : drop 24 n c ≡ 253 = ap (λ (x : ℕ). x - 24) e in
        let u = c * 2 ^ 253 in
        let q : 2 ^ 24 ≤ closest n u = moved_up (n / u) (n % u) u n (compare (n % u * 2) u) (cmp (n % u * 2) u) (mod-lt n (mul-pos C (pow_pos 253))) (div-add-mod' n u) (doubled c n h) in
        subst (λ (j : ℕ). 2 ^ 277 ≤ closest n (c * 2 ^ j) * 2 ^ j) (sym k) (mul-le-mul_right (2 ^ 253) q)

    above : (size (n / c) ≡ 277 → ⊥) → 2 ^ 277 ≤ kept 24 n c * 2 ^ drop 24 n c
    above e =
        let y = z in
        let k : 254 ≤ drop 24 n c = omega arith in
        let q : 2 ^ 23 ≤ kept 24 n c = kept_ge 24 n c (omega arith) (omega arith) in
        le_trans (mul-le-mul_left (2 ^ 23) (pow_mono {i = 254} k)) (mul-le-mul_right (2 ^ drop 24 n c) q)
