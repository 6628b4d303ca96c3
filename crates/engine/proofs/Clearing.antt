-- One put more of those that clear cells.
use Rattle.std.proofs.Common.{◌≡◌, ℕ, suc, ◌+◌, ◌-◌, ◌<◌, List, slice_set, refl, arith}
use Rattle.rule.specs.Rewriting.{cleared}

pub clear_more : (n i first w : ℕ) (σ τ : List ℕ) → i < n → τ ≡ slice_set σ (first + i) w → cleared (n - (i + 1)) (first + (i + 1)) w τ ≡ cleared (n - i) (first + i) w σ
clear_more n i first w σ τ l t =
    let e : n - i ≡ suc (n - (i + 1)) = omega arith in
    let x : first + (i + 1) ≡ suc (first + i) = omega arith in
    rw (e, x, t) refl
