-- One fraction written in two ways, N / C and P / D: what is near to the one is near to the other.
use Rattle.std.proofs.Common.{◌≡◌, ℕ, ◌+◌, ◌-◌, ◌*◌, ◌<◌, ◌≤◌, sym, ap, ◌∙◌, le_trans, le_of_eq, mul-le-mul_right, mul_comm, add-mul, mul_right_comm, le_of_mul-le-mul_right}
use native.Mathlib.Nat.{mul-sub, eq_of_mul-eq-mul_right}
use Rattle.kind_laws.proofs.Nearest.{apart}

pub sub_mul : (a b k : ℕ) → (a - b) * k ≡ a * k - b * k
sub_mul a b k = mul_comm (a - b) k ∙ mul-sub k a b ∙ ap (λ (x : ℕ). x - k * b) (mul_comm k a) ∙ ap (λ (x : ℕ). a * k - x) (mul_comm k b)

pub apart_mul : (x y k : ℕ) → apart x y * k ≡ apart (x * k) (y * k)
apart_mul x y k = add-mul (x - y) (y - x) k ∙ ap (λ (n : ℕ). n + (y - x) * k) (sub_mul x y k) ∙ ap (λ (n : ℕ). x * k - y * k + n) (sub_mul y x k)

pub rescaled : (g N C P D : ℕ) → P * C ≡ N * D → apart (g * D) P * C ≡ apart (g * C) N * D
rescaled g N C P D e =
    apart_mul (g * D) P C ∙ ap (λ (x : ℕ). apart (g * D * C) x) e ∙ ap (λ (x : ℕ). apart x (N * D)) (mul_right_comm g D C) ∙ sym (apart_mul (g * C) N D)

pub nearer : (g m N C P D : ℕ) → 0 < C → P * C ≡ N * D → apart (g * C) N ≤ apart (m * C) N → apart (g * D) P ≤ apart (m * D) P
nearer g m N C P D c e h =
    le_of_mul-le-mul_right
    (le_trans (le_of_eq (rescaled g N C P D e)) (le_trans (mul-le-mul_right D h) (le_of_eq (sym (rescaled m N C P D e))))) c

pub as_near : (g m N C P D : ℕ) → 0 < D → P * C ≡ N * D → apart (g * D) P ≡ apart (m * D) P → apart (g * C) N ≡ apart (m * C) N
as_near g m N C P D d e h =
    eq_of_mul-eq-mul_right D d (apart (g * C) N) (apart (m * C) N)
    (sym (rescaled g N C P D e) ∙ ap (λ (x : ℕ). x * C) h ∙ rescaled m N C P D e)

-- a bound on the one is the same bound on the other
pub bound : (b N C P D : ℕ) → 0 < D → P * C ≡ N * D → b * D ≤ P → b * C ≤ N
bound b N C P D d e h = le_of_mul-le-mul_right (le_trans (le_of_eq (mul_right_comm b C D)) (le_trans (mul-le-mul_right C h) (le_of_eq e))) d
