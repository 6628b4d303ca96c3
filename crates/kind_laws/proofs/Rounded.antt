-- A fraction that `round` is handed is rounded, as a signed number of units.
use Rattle.std.proofs.Common.{◌≡◌, ℕ, zero, suc, ◌+◌, ◌*◌, ◌%◌, ◌^◌, ◌<◌, ◌≤◌, Bool, true, false, cond, not, T, nat_abs, Ok, Err, sym, refl, ap, ◌∙◌, subst, ⊎_elim, le_trans, le_of_eq, le_antisymm, mul-pos, zero-mul, arith}
use lib.Ieee.{binary32, unlike, round, units as units', to_bits}
use lib.Ieee.Exact.{HasValue, units_val}
use lib.Ieee.Fits.{round_is, round-fits}
use lib.Ieee.Order.{drop, kept}
use Rattle.std.specs.Float.{float_is_finite}
use Rattle.std.proofs.lemmas.Bool.{cases_lt, true≢false}
use Rattle.kinds.specs.declared.fault.ArithmeticFault.TheVariants.{OutOfRange}
use Rattle.kinds.specs.Single.{lawful, finite_word}
use Rattle.kind_laws.specs.Exact.{negative, magnitude, signed, units}
use Rattle.kind_laws.specs.Rounding.{error, Nearest, Rounds, limit}
use Rattle.kind_laws.proofs.Nearest.{apart, rounds_to_nearest, units_under}
use Rattle.kind_laws.proofs.Ties.{ties_to_even, value_finite}
use Rattle.kind_laws.proofs.Words.{word_value, word_of}
use Rattle.kind_laws.proofs.Signs.{size_of, signed_zero, unlike_back, either, same_error, other_error, any_error}
use Rattle.kind_laws.proofs.Scaling.{nearer, as_near, bound}
use Rattle.kind_laws.proofs.Range.{too_large, large_enough}

-- a product with a positive number that is 0
no_factor : (g D : ℕ) → 0 < D → g * D ≡ 0 → g ≡ 0
no_factor zero D d e = refl
no_factor (suc g) D d e = absurd (let p : 0 < suc g * D = mul-pos (omega arith) d in omega arith)

-- a word is nearest, as a signed number, if it is so by sizes
nearest_word : (σ u : Bool) (P D r : ℕ) → 0 < D → unlike (negative r) u ≡ σ → T (lawful r)
    → ((w : ℕ) → T (lawful w) → apart (magnitude r * D) P ≤ apart (magnitude w * D) P)
    → ((w : ℕ) → T (lawful w) → apart (magnitude r * D) P ≡ apart (magnitude w * D) P → (magnitude w ≡ magnitude r → ⊥) → r % 2 ≡ 0)
    → Nearest (signed σ P) (signed u D) r
nearest_word σ u P D r d e l near tie = record { is_lawful = l; nearest = nearest; even = even }
  where
    mine : error (signed σ P) (signed u D) r ≡ apart (magnitude r * D) P
    mine = same_error (negative r) u σ (magnitude r) P D e

    nearest : (w : ℕ) → T (lawful w) → error (signed σ P) (signed u D) r ≤ error (signed σ P) (signed u D) w
    nearest w k = le_trans (le_of_eq mine) (le_trans (near w k) (any_error (negative w) u σ (magnitude w) P D))

    -- of one size, at one distance, on two sides: both are zero
    zeros : (w : ℕ) → error (signed σ P) (signed u D) w ≡ error (signed σ P) (signed u D) r → magnitude w ≡ magnitude r → unlike (negative w) u ≡ not σ → units w ≡ units r
    zeros w q m o =
        let n : magnitude w * D + P ≡ apart (magnitude r * D) P = sym (other_error (negative w) u σ (magnitude w) P D o) ∙ q ∙ mine in
        let y : apart (magnitude r * D) P ≤ apart (0 * D) P = near 0 tt in
        let z : 0 * D ≡ 0 = zero-mul D in
        let k : magnitude w * D ≡ 0 = (let p = magnitude w * D in let v = magnitude r * D in let c = 0 * D in omega arith) in
        let a : magnitude w ≡ 0 = no_factor (magnitude w) D d k in
        ap (λ (v : ℕ). signed (negative w) v) a ∙ signed_zero (negative w) ∙ sym (signed_zero (negative r)) ∙ ap (λ (v : ℕ). signed (negative r) v) (sym a ∙ m)

    same : (w : ℕ) → error (signed σ P) (signed u D) w ≡ error (signed σ P) (signed u D) r → magnitude w ≡ magnitude r → units w ≡ units r
    same w q m = ⊎_elim
        (λ (o : unlike (negative w) u ≡ σ). ap (λ (b : Bool). signed b (magnitude w)) (unlike_back (negative w) (negative r) u (o ∙ sym e)) ∙ ap (λ (v : ℕ). signed (negative r) v) m)
        (λ (o : unlike (negative w) u ≡ not σ). zeros w q m o)
        (either (unlike (negative w) u) σ)

    even : (w : ℕ) → T (lawful w) → error (signed σ P) (signed u D) w ≡ error (signed σ P) (signed u D) r → (units w ≡ units r → ⊥) → r % 2 ≡ 0
    even w k q n =
        tie w k (le_antisymm (near w k) (le_trans (any_error (negative w) u σ (magnitude w) P D) (le_of_eq (q ∙ mine)))) (λ m. n (same w q m))

-- the exact result ±A / C, which is P / D units, is rounded by `round`
pub rounds : (s σ u : Bool) (A C P D : ℕ) → 0 < C → 0 < D → P * C ≡ A * 2 ^ 149 * D → unlike s u ≡ σ
    → Rounds (signed σ P) (signed u D) s (finite_word (round binary32 s A C))
rounds s σ u A C P D c d e k = go (float_is_finite (round binary32 s A C)) refl
  where
    N : ℕ
    N = A * 2 ^ 149

    is : round binary32 s A C ≡ units' binary32 s (kept 24 (A * 2 ^ 149) C) (drop 24 (A * 2 ^ 149) C)
    is = round_is binary32 s A C

    sizes : (R : ℕ → ℕ → Type 0) → R (limit * D) P → R (limit * nat_abs (signed u D)) (nat_abs (signed σ P))
    sizes R h = subst (λ (n : ℕ). R (limit * n) (nat_abs (signed σ P))) (sym (size_of u D)) (subst (λ (n : ℕ). R (limit * D) n) (sym (size_of σ P)) h)

    small : float_is_finite (round binary32 s A C) ≡ true → P < limit * D
    small f = ⊎_elim (λ (h : P < limit * D). h)
        (λ (h : limit * D ≤ P). absurd (let l = units_under s _ _ (ap float_is_finite (sym is) ∙ f) in let g = large_enough (A * 2 ^ 149) C c (bound limit (A * 2 ^ 149) C P D d e h) in omega arith))
        (cases_lt P (limit * D))

    large : float_is_finite (round binary32 s A C) ≡ false → limit * D ≤ P
    large f = bound limit P D (A * 2 ^ 149) C c (sym e) (too_large (A * 2 ^ 149) C c (⊎_elim
        (λ (h : kept 24 (A * 2 ^ 149) C * 2 ^ drop 24 (A * 2 ^ 149) C < 2 ^ 277). absurd (true≢false (sym (ap float_is_finite is ∙ value_finite _ s _ (units_val binary32 s _ _ h)) ∙ f)))
        (λ (h : 2 ^ 277 ≤ kept 24 (A * 2 ^ 149) C * 2 ^ drop 24 (A * 2 ^ 149) C). h)
        (cases_lt (kept 24 (A * 2 ^ 149) C * 2 ^ drop 24 (A * 2 ^ 149) C) (2 ^ 277))))

    found : float_is_finite (round binary32 s A C) ≡ true → Nearest (signed σ P) (signed u D) (to_bits binary32 (round binary32 s A C)) × (negative (to_bits binary32 (round binary32 s A C)) ≡ s)
    found f =
        let r = to_bits binary32 (round binary32 s A C) in
        let n = rounds_to_nearest s A C c f in
        let g = n.0 in
        let o = word_of (round binary32 s A C) s g (round-fits binary32 s A C) f n.1 in
        let v : HasValue (round binary32 s A C) s (magnitude r) (2 ^ 149) = subst (λ (y : ℕ). HasValue (round binary32 s A C) s y (2 ^ 149)) (sym o.2) n.1 in (
          nearest_word σ u P D r d (ap (λ (b : Bool). unlike b u) o.1 ∙ k) o.0
              (λ w l. nearer (magnitude r) (magnitude w) (A * 2 ^ 149) C P D c e
              (subst (λ (y : ℕ). apart (y * C) (A * 2 ^ 149) ≤ apart (magnitude w * C) (A * 2 ^ 149)) (sym o.2) (n.2 w (magnitude w) (negative w) (word_value w l))))
              (λ w l q m. ties_to_even s A C (magnitude r) c v w (magnitude w) (negative w) (word_value w l) (as_near (magnitude r) (magnitude w) (A * 2 ^ 149) C P D d e q) m),
          o.1,
        )

    go : (b : Bool) → float_is_finite (round binary32 s A C) ≡ b → Rounds (signed σ P) (signed u D) s (cond b (Ok (to_bits binary32 (round binary32 s A C))) (Err OutOfRange))
    go true f = (sizes (λ x y. y < x) (small f), (found f).0, (found f).1)
    go false f = sizes (λ x y. x ≤ y) (large f)
