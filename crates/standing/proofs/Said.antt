-- What the records say is what the lines are.
use Rattle.std.proofs.Common.{◌≡◌, ℕ, zero, suc, ◌<◌, ◌≤◌, Bool, true, false, List, [], ◌∷◌, map, length, get_or, Some, None, Option, refl, ap, subst, arith}
use Rattle.std.specs.List.{slice_get}
use Rattle.std.proofs.lemmas.Bool.{both_ways}
use Rattle.lines.specs.declared.records.Line.{Line}
use Rattle.lines.specs.declared.records.Record.{Record}
use Rattle.script.specs.Tree.{line, nought}
use Rattle.standing.specs.Records.{line_in}
use Rattle.standing.specs.Standing.{Says}

abbrev pub value_or : {A : Type 0} → A → Option A → A
value_or d None = d
value_or d (Some a) = a

abbrev is_some : {A : Type 0} → Option A → Bool
is_some None = false
is_some (Some a) = true

none_some : {A : Type 0} (a : A) → None ≡ Some a → ⊥
none_some a e = both_ways false refl (ap is_some e)

abbrev all_lines : List Record → List Line
all_lines rs = map (λ r. r.line) rs

says_at : (rs : List Record) (n : ℕ) → n < length (all_lines rs) → line_in (slice_get rs n) ≡ Some (get_or (all_lines rs) n nought)
says_at [] n h = absurd (omega arith)
says_at (r ∷ rs) zero h = refl
says_at (r ∷ rs) (suc n) h = says_at rs n (omega arith)

says_line : (rs : List Record) (n : ℕ) → 0 < n → n ≤ length (all_lines rs) → Says rs n (line (all_lines rs) n)
says_line rs zero p q = absurd (omega arith)
says_line rs (suc n) p q = says_at rs n (omega arith)

said_at : (rs : List Record) (n : ℕ) (l : Line) → line_in (slice_get rs n) ≡ Some l → (get_or (all_lines rs) n nought ≡ l) × (n < length (all_lines rs))
said_at [] n l h = absurd (none_some l h)
said_at (r ∷ rs) zero l h = (ap (value_or nought) h, omega arith)
said_at (r ∷ rs) (suc n) l h = let w = said_at rs n l h in (w.0, omega (arith, w.1))

said_line : (rs : List Record) (n : ℕ) (l : Line) → Says rs n l → (line (all_lines rs) n ≡ l) × (n ≤ length (all_lines rs))
said_line rs zero l h = absurd (none_some l h)
said_line rs (suc n) l h = let w = said_at rs n l h in (w.0, omega (arith, w.1))

module _ (ls : List Line) (rs : List Record) (e : all_lines rs ≡ ls) where
  pub says : (n : ℕ) → 0 < n → n ≤ length ls → Says rs n (line ls n)
  says = subst (λ ls. (n : ℕ) → 0 < n → n ≤ length ls → Says rs n (line ls n)) e (says_line rs)

  pub said : (n : ℕ) (l : Line) → Says rs n l → (line ls n ≡ l) × (n ≤ length ls)
  said = subst (λ ls. (n : ℕ) (l : Line) → Says rs n l → (line ls n ≡ l) × (n ≤ length ls)) e (said_line rs)
