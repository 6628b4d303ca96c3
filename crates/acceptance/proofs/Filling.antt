-- Records filled one after the other.
use Rattle.std.proofs.Common.{◌≡◌, ℕ, zero, suc, ◌+◌, ◌<◌, ◌≤◌, List, [], ◌∷◌, length, get_or, set, Some, Option, sym, refl, ap, ◌∙◌, inl, inr, add-one, arith}
use Rattle.std.proofs.lemmas.Bool.{cases_eq}
use Rattle.std.specs.List.{slice_get}
use Rattle.lines.specs.declared.records.Line.{Line}
use Rattle.lines.specs.declared.records.Declaration.{Declaration}
use Rattle.lines.specs.declared.records.Record.{Record}
use Rattle.standing.specs.Records.{declaration_in, record_at}
use Rattle.acceptance.specs.Sheet.{lines_of}
use Rattle.acceptance.specs.Scopes.{declaration_at}

nth_set_same : {X : Type 0} (xs : List X) (i : ℕ) (x : X) → i < length xs → slice_get (set xs i x) i ≡ Some x
nth_set_same [] i x q = absurd (omega arith)
nth_set_same (y ∷ ys) zero x q = refl
nth_set_same (y ∷ ys) (suc i) x q = nth_set_same ys i x (omega arith)

nth_set_other : {X : Type 0} (xs : List X) (i j : ℕ) (x : X) → ¬ (j ≡ i) → slice_get (set xs i x) j ≡ slice_get xs j
nth_set_other [] i j x h = refl
nth_set_other (y ∷ ys) zero zero x h = absurd (h refl)
nth_set_other (y ∷ ys) zero (suc j) x h = refl
nth_set_other (y ∷ ys) (suc i) zero x h = refl
nth_set_other (y ∷ ys) (suc i) (suc j) x h = nth_set_other ys i j x (λ e. h (ap suc e))

abbrev pub retold : List Record → ℕ → Record → Option Declaration → List Record
retold rs i d o = set rs i (record { line = (get_or rs i d).line; declaration = o })

pub lines_stay : (rs : List Record) (i : ℕ) (d : Record) (o : Option Declaration) → lines_of (retold rs i d o) ≡ lines_of rs
lines_stay [] i d o = refl
lines_stay (r ∷ rs) zero d o = refl
lines_stay (r ∷ rs) (suc i) d o = ap (λ ls. r.line ∷ ls) (lines_stay rs i d o)

pub told_more : (rs : List Record) (ls : List Line) (i : ℕ) (d : Record) (o : Option Declaration) → i < length rs → o ≡ declaration_at ls (i + 1)
    → ((n : ℕ) → 0 < n → n ≤ i → declaration_in (record_at rs n) ≡ declaration_at ls n)
    → (n : ℕ) → 0 < n → n ≤ i + 1 → declaration_in (record_at (retold rs i d o) n) ≡ declaration_at ls n
told_more rs ls i d o q e inv zero p r = absurd (omega arith)
told_more rs ls i d o q e inv (suc m) p r = elim (cases_eq m i) [
  | inl w ↦ ap (λ k. declaration_in (slice_get (retold rs i d o) k)) w
      ∙ (ap declaration_in (nth_set_same rs i (record { line = (get_or rs i d).line; declaration = o }) q)
      ∙ (e ∙ (ap (declaration_at ls) (add-one i) ∙ ap (λ k. declaration_at ls (suc k)) (sym w))))
  | inr w ↦ ap declaration_in (nth_set_other rs i m (record { line = (get_or rs i d).line; declaration = o }) w) ∙ inv (suc m) p (omega arith)
]
