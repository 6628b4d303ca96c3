-- Signs: products and differences of signed numbers.
use Rattle.std.proofs.Common.{◌≡◌, ℕ, zero, suc, ◌+◌, ◌*◌, ◌≤◌, ◌⊎◌, Bool, true, false, not, ℤ, pos, negsuc, ◌-ℤ◌, ◌*ℤ◌, neg_ℤ, nat_abs, sym, refl, ap, ◌∙◌, inl, inr, ⊎_elim, le_trans, le_of_eq, mul-zero, zero-mul, arith}
use lib.IntN.{zero-*ℤ, *ℤ-zero, negsuc-*ℤ-pos, pos-*ℤ-negsuc}
use lib.Ieee.{unlike}
use Rattle.std.proofs.lemmas.Int.{ints}
use Rattle.kind_laws.specs.Exact.{signed}
use Rattle.kind_laws.proofs.Nearest.{apart}

pub size_of : (s : Bool) (n : ℕ) → nat_abs (signed s n) ≡ n
size_of false n = refl
size_of true zero = refl
size_of true (suc n) = refl

pub signed_zero : (s : Bool) → signed s 0 ≡ pos 0
signed_zero false = refl
signed_zero true = refl

neg_pos : (x d : ℕ) → neg_ℤ (pos x) *ℤ pos d ≡ neg_ℤ (pos (x * d))
neg_pos zero d = zero-*ℤ (pos d) ∙ ap (λ (n : ℕ). neg_ℤ (pos n)) (sym (zero-mul d))
neg_pos (suc x) d = negsuc-*ℤ-pos x d

pos_neg : (x d : ℕ) → pos x *ℤ neg_ℤ (pos d) ≡ neg_ℤ (pos (x * d))
pos_neg x zero = *ℤ-zero (pos x) ∙ ap (λ (n : ℕ). neg_ℤ (pos n)) (sym (mul-zero x))
pos_neg x (suc d) = pos-*ℤ-negsuc x d

neg_neg : (x d : ℕ) → neg_ℤ (pos x) *ℤ neg_ℤ (pos d) ≡ pos (x * d)
neg_neg zero d = zero-*ℤ (neg_ℤ (pos d)) ∙ ap pos (sym (zero-mul d))
neg_neg (suc x) zero = *ℤ-zero (negsuc x) ∙ ap pos (sym (mul-zero (suc x)))
neg_neg (suc x) (suc d) = refl

pub signed_mul : (s t : Bool) (x d : ℕ) → signed s x *ℤ signed t d ≡ signed (unlike s t) (x * d)
signed_mul false false x d = refl
signed_mul false true x d = pos_neg x d
signed_mul true false x d = neg_pos x d
signed_mul true true x d = neg_neg x d

-- with like signs numbers lie as far apart as their sizes, and with unlike ones as far as the sum of these
pub like_gap : (s : Bool) (x p : ℕ) → nat_abs (signed s x -ℤ signed s p) ≡ apart x p
like_gap false x p = omega (arith, ints)
like_gap true x p = omega (arith, ints)

pub unlike_gap : (s : Bool) (x p : ℕ) → nat_abs (signed (not s) x -ℤ signed s p) ≡ x + p
unlike_gap false x p = omega (arith, ints)
unlike_gap true x p = omega (arith, ints)

pub unlike_back : (s t u : Bool) → unlike s u ≡ unlike t u → s ≡ t
unlike_back false false u e = refl
unlike_back true true u e = refl
unlike_back false true false e = e
unlike_back false true true e = sym e
unlike_back true false false e = e
unlike_back true false true e = sym e

-- of a quotient's sign and its divisor's comes that of what was divided
pub unlike_twice : (s t : Bool) → unlike (unlike s t) t ≡ s
unlike_twice false false = refl
unlike_twice false true = refl
unlike_twice true false = refl
unlike_twice true true = refl

-- how far a signed number lies from a fraction, |D| times over, by whether its sign is that of the fraction
pub same_error : (t u σ : Bool) (m P D : ℕ) → unlike t u ≡ σ → nat_abs (signed t m *ℤ signed u D -ℤ signed σ P) ≡ apart (m * D) P
same_error t u σ m P D e =
    ap (λ (z : ℤ). nat_abs (z -ℤ signed σ P)) (signed_mul t u m D) ∙ ap (λ (b : Bool). nat_abs (signed b (m * D) -ℤ signed σ P)) e ∙ like_gap σ (m * D) P

pub other_error : (t u σ : Bool) (m P D : ℕ) → unlike t u ≡ not σ → nat_abs (signed t m *ℤ signed u D -ℤ signed σ P) ≡ m * D + P
other_error t u σ m P D e =
    ap (λ (z : ℤ). nat_abs (z -ℤ signed σ P)) (signed_mul t u m D) ∙ ap (λ (b : Bool). nat_abs (signed b (m * D) -ℤ signed σ P)) e ∙ unlike_gap σ (m * D) P

pub either : (b σ : Bool) → (b ≡ σ) ⊎ (b ≡ not σ)
either false false = inl refl
either true true = inl refl
either false true = inr refl
either true false = inr refl

pub any_error : (t u σ : Bool) (m P D : ℕ) → apart (m * D) P ≤ nat_abs (signed t m *ℤ signed u D -ℤ signed σ P)
any_error t u σ m P D = ⊎_elim
    (λ (e : unlike t u ≡ σ). le_of_eq (sym (same_error t u σ m P D e)))
    (λ (e : unlike t u ≡ not σ). le_trans (let p = m * D in let h : apart p P ≤ p + P = omega arith in h) (le_of_eq (sym (other_error t u σ m P D e))))
    (either (unlike t u) σ)
