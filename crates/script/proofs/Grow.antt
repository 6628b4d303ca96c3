-- What grows line by line: each line's stands in its place.
use Rattle.std.proofs.Common.{◌≡◌, ℕ, zero, suc, ◌<◌, ◌≤◌, List, [], ◌∷◌, ◌++◌, length, get_or, sym, refl, ap, ◌∙◌, inl, inr, arith, length-append}
use lib.ListN.{get_or-append, get_or-eq_default}
use Rattle.std.proofs.lemmas.Bool.{cases_eq}
use Rattle.lines.specs.declared.records.Line.{Line}
use Rattle.script.specs.Tree.{at_line, grow}

get_or_last : {A : Type 0} (xs : List A) (x d : A) → get_or (xs ++ (x ∷ [])) (length xs) d ≡ x
get_or_last [] x d = refl
get_or_last (y ∷ xs) x d = get_or_last xs x d

module _ {A : Type 0} (step : ℕ → List A → Line → A) (L : ℕ → Line) where
  pub grow_length : (n : ℕ) → length (grow step L n) ≡ n
  grow_length zero = refl
  grow_length (suc n) = length-append (grow step L n) (at_line step L n ∷ []) ∙ omega (arith, grow_length n)

  pub grow_at : (d : A) (k m : ℕ) → m < k → get_or (grow step L k) m d ≡ at_line step L m
  grow_at d zero m h = absurd (omega arith)
  grow_at d (suc k) m h = elim (cases_eq m k) [
    | inl e ↦ ap (λ i. get_or (grow step L (suc k)) i d) (e ∙ sym (grow_length k)) ∙ get_or_last (grow step L k) (at_line step L k) d ∙ ap (at_line step L) (sym e)
    | inr e ↦ get_or-append (grow step L k) (at_line step L k ∷ []) d m (omega (arith, grow_length k)) ∙ grow_at d k m (omega arith)
  ]

  pub grow_beyond : (d : A) (k m : ℕ) → k ≤ m → get_or (grow step L k) m d ≡ d
  grow_beyond d k m h = get_or-eq_default (grow step L k) d (omega (arith, grow_length k))
