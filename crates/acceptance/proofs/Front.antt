-- The globals that a sheet begins with, line by line.
use Rattle.std.proofs.Common.{◌≡◌, ℕ, suc, ◌<◌, true, false, List, ◌∷◌, length, Some, None, Option, MatchOption, refl, sym, ap, ◌∙◌, inl, inr, add-one}
use Rattle.std.specs.List.{AllWithin, HoldsAt}
use Rattle.std.specs.Option.{is_some, unwrap_or}
use Rattle.std.proofs.lemmas.Iterator.{index_from_first}
use Rattle.std.proofs.lemmas.Bool.{both_ways}
use Rattle.lines.specs.declared.records.Line.{Line}
use Rattle.lines.specs.declared.records.Record.{Record}
use Rattle.script.specs.Apart.{as_global, head_then, heads}
use Rattle.script.specs.Fields.{Class as Meant, class_of, is_nothing}
use Rattle.acceptance.specs.declared.classes.Class.{Class}
use Rattle.acceptance.specs.declared.classes.Class.TheVariants.{Place, Expression, Condition, Statement, Declarations}
use Rattle.acceptance.specs.Classes.{class_meant}
use Rattle.acceptance.specs.Sheet.{lines_of}
use Rattle.script.proofs.Globals.{global_or}

pub globals_further : (l : Line) (ls : List Line) → is_nothing (class_of l) ≡ true → length (heads (l ∷ ls)) ≡ suc (length (heads ls))
globals_further l ls h = elim (global_or l) [
  | inl x ↦ absurd (both_ways (is_nothing (class_of l)) x.1 h)
  | inr g ↦ ap (λ k. length (head_then (as_global k) (heads ls))) g.2
]

pub globals_end : (l : Line) (ls : List Line) → is_nothing (class_of l) ≡ false → length (heads (l ∷ ls)) ≡ 0
globals_end l ls h = elim (global_or l) [
  | inl x ↦ ap (λ o. length (head_then o (heads ls))) x.0
  | inr g ↦ absurd (both_ways (is_nothing (class_of l)) h (ap (λ k. is_nothing (class_of k)) g.2))
]

abbrev pub IsGlobal : Record → Type 0
IsGlobal r = is_nothing (class_of r.line) ≡ true

abbrev pub IsOther : Record → Type 0
IsOther r = is_nothing (class_of r.line) ≡ false

-- how many globals there are, where r is the place of the first record that is none
pub count_of_globals : (rs : List Record) (r : Option ℕ)
    → MatchOption r (AllWithin IsGlobal rs 0 (length rs)) (λ i. (i < length rs) × HoldsAt IsOther rs i × AllWithin IsGlobal rs 0 i)
    → length (heads (lines_of rs)) ≡ unwrap_or r (length rs)
count_of_globals rs r h = index_from_first (λ us. length (heads (lines_of us))) IsOther IsGlobal refl
    (λ x xs o. globals_end x.line (lines_of xs) o)
    (λ x xs g. globals_further x.line (lines_of xs) g ∙ sym (add-one (length (heads (lines_of xs)))))
    rs r h

-- a class or none, and what it stands for
pub some_class : (o : Option Class) (m : Meant) → class_meant o ≡ m → is_some o ≡ true → is_nothing m ≡ false
some_class None m e h = absurd (both_ways false refl h)
some_class (Some Place) m e h = ap is_nothing (sym e)
some_class (Some Expression) m e h = ap is_nothing (sym e)
some_class (Some Condition) m e h = ap is_nothing (sym e)
some_class (Some Statement) m e h = ap is_nothing (sym e)
some_class (Some Declarations) m e h = ap is_nothing (sym e)

pub no_class : (o : Option Class) (m : Meant) → class_meant o ≡ m → is_some o ≡ false → is_nothing m ≡ true
no_class None m e h = ap is_nothing (sym e)
no_class (Some k) m e h = absurd (both_ways true h refl)
