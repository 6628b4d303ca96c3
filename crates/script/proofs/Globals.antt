-- The globals that a sheet begins with, and the lines behind them.
use Rattle.std.proofs.Common.{◌≡◌, ℕ, zero, suc, ◌<◌, ◌≤◌, true, false, ◌⊎◌, List, [], ◌∷◌, length, get_or, None, Option, refl, ap, inl, inr, arith}
use Rattle.std.proofs.lemmas.Bool.{both_ways}
use Rattle.lines.specs.declared.records.Line.{Line}
use Rattle.script.specs.Tree.{line, nought}
use Rattle.script.specs.Apart.{as_global, head_then, heads, past_globals}
use Rattle.script.specs.Fields.{class_of, fields, is_nothing}

-- a line is a global, or else part of the text
pub global_or : (l : Line) → ((as_global l ≡ None) × (is_nothing (class_of l) ≡ false)) ⊎ ((a b : ℕ) × (l ≡ Line.Global a b))
global_or (Line.Global a b) = inr (a, b, refl)
global_or (Line.Constant k) = inl (refl, refl)
global_or (Line.Simple a) = inl (refl, refl)
global_or (Line.Element a b) = inl (refl, refl)
global_or (Line.Operation o a b) = inl (refl, refl)
global_or (Line.Comparison r a b) = inl (refl, refl)
global_or (Line.Choice a b c) = inl (refl, refl)
global_or (Line.Truth b) = inl (refl, refl)
global_or (Line.Negation a) = inl (refl, refl)
global_or (Line.Implication a b) = inl (refl, refl)
global_or (Line.Assignment a b) = inl (refl, refl)
global_or (Line.Sequence a b) = inl (refl, refl)
global_or (Line.Branch a b c) = inl (refl, refl)
global_or (Line.Call a b c) = inl (refl, refl)
global_or (Line.NewSimple a b) = inl (refl, refl)
global_or (Line.NewArray a b c) = inl (refl, refl)
global_or (Line.System a b) = inl (refl, refl)
global_or (Line.Procedure a b c d) = inl (refl, refl)
global_or (Line.Join a b) = inl (refl, refl)

pub a_global : (l : Line) → is_nothing (class_of l) ≡ true → (a b : ℕ) × (l ≡ Line.Global a b)
a_global l h = elim (global_or l) [ inl x ↦ absurd (both_ways (is_nothing (class_of l)) x.1 h) | inr g ↦ g ]

pub no_fields : (l : Line) → is_nothing (class_of l) ≡ true → fields l ≡ []
no_fields l h = ap fields (a_global l h).2

-- how many globals a sheet begins with, by its first line
module _ (l : Line) (ls : List Line) where
  abbrev count : Option (ℕ × ℕ) → ℕ
  count o = length (head_then o (heads ls))

  no_more : as_global l ≡ None → length (heads (l ∷ ls)) ≡ 0
  no_more e = ap count e

  one_more : (a b : ℕ) → l ≡ Line.Global a b → length (heads (l ∷ ls)) ≡ suc (length (heads ls))
  one_more a b e = ap (λ k. count (as_global k)) e

front_at : (ls : List Line) (n : ℕ) → n < length (heads ls) → is_nothing (class_of (get_or ls n nought)) ≡ true
front_at [] n h = absurd (omega arith)
front_at (l ∷ ls) zero h = elim (global_or l) [ inl x ↦ absurd (omega (arith, no_more l ls x.0)) | inr g ↦ ap (λ k. is_nothing (class_of k)) g.2 ]
front_at (l ∷ ls) (suc n) h = elim (global_or l) [ inl x ↦ absurd (omega (arith, no_more l ls x.0)) | inr g ↦ front_at ls n (omega (arith, one_more l ls g.0 g.1 g.2)) ]

pub front_of : (ls : List Line) (n : ℕ) → n < past_globals ls → is_nothing (class_of (line ls n)) ≡ true
front_of ls zero h = refl
front_of ls (suc n) h = front_at ls n (omega arith)

heads_bound : (ls : List Line) → length (heads ls) ≤ length ls
heads_bound [] = omega arith
heads_bound (l ∷ ls) = elim (global_or l) [ inl x ↦ omega (arith, no_more l ls x.0) | inr g ↦ omega (arith, heads_bound ls, one_more l ls g.0 g.1 g.2) ]

pub past_bound : (ls : List Line) → past_globals ls ≤ suc (length ls)
past_bound ls = omega (arith, heads_bound ls)

back_at : (ls : List Line) (n : ℕ) → length (heads ls) ≡ n → n < length ls → is_nothing (class_of (get_or ls n nought)) ≡ false
back_at [] n e h = absurd (omega arith)
back_at (l ∷ ls) zero e h = elim (global_or l) [ inl x ↦ x.1 | inr g ↦ absurd (omega (arith, one_more l ls g.0 g.1 g.2)) ]
back_at (l ∷ ls) (suc n) e h = elim (global_or l) [
  | inl x ↦ absurd (omega (arith, no_more l ls x.0))
  | inr g ↦ back_at ls n (omega (arith, one_more l ls g.0 g.1 g.2)) (omega arith)
]

-- the first line behind the globals is none
pub back_of : (ls : List Line) → past_globals ls ≤ length ls → is_nothing (class_of (line ls (past_globals ls))) ≡ false
back_of ls h = back_at ls (length (heads ls)) refl (omega arith)
