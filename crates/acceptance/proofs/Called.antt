-- Procedures by their names, where declarations join others.
use Rattle.std.proofs.Common.{◌≡◌, ℕ, true, false, cond, eqb, List, [], ◌∷◌, ◌++◌, get_or, is_some, Some, None, Option, sym, refl, ap, ◌∙◌, ap₂, inl, inr}
use Rattle.std.proofs.lemmas.Bool.{both_ways, cases_lt, le-ltb, lt-ltb}
use Rattle.std.specs.Option.{option_or}
use Rattle.lines.specs.declared.records.Line.{Line}
use Rattle.lines.specs.declared.records.Role.TheVariants.{Declared}
use Rattle.lines.specs.declared.records.Declaration.{Declaration}
use Rattle.script.specs.Tree.{grow}
use Rattle.script.specs.Tests.{procedures_at, under}
use Rattle.script.proofs.Grow.{grow_at, grow_beyond}
use Rattle.acceptance.specs.Depths.{if_below}
use Rattle.acceptance.specs.Scopes.{at, last_declared, procedure_entries, when}

pub or_assoc : {A : Type 0} (o p q : Option A) → option_or (option_or o p) q ≡ option_or o (option_or p q)
or_assoc (Some a) p q = refl
or_assoc None p q = refl

pub or_some : {A : Type 0} (o p : Option A) → is_some o ≡ true → option_or o p ≡ o
or_some {A = A} (Some a) p h = refl
or_some {A = A} None p h = absurd (both_ways (is_some {T = A} None) refl h)

pub or_none : {A : Type 0} (o p : Option A) → is_some o ≡ false → option_or o p ≡ p
or_none (Some a) p h = absurd (both_ways (is_some (Some a)) h refl)
or_none None p h = refl

pub or_nothing : {A : Type 0} (o : Option A) → option_or o None ≡ o
or_nothing (Some a) = refl
or_nothing None = refl

module _ (a : ℕ) where
  abbrev pub called_among : List (ℕ × ℕ) → Option Declaration
  called_among rs = last_declared (procedure_entries rs) a

  called_append : (xs ys : List (ℕ × ℕ)) → called_among (xs ++ ys) ≡ option_or (called_among ys) (called_among xs)
  called_append [] ys = sym (or_nothing (called_among ys))
  called_append (x ∷ xs) ys = ap (λ o. option_or o (when (eqb x.1 a) (at x.0 Declared))) (called_append xs ys) ∙ or_assoc (called_among ys) (called_among xs) (when (eqb x.1 a) (at x.0 Declared))

  -- of two that are joined, the second is asked first
  module _ (L : ℕ → Line) (d x y : ℕ) (e : Line.Join x y ≡ L d) where
    abbrev there : ℕ → Option Declaration
    there m = called_among (get_or (grow procedures_at L d) m [])

    joined : called_among (under L d) ≡ option_or (there y) (there x)
    joined = ap (λ l. called_among (procedures_at d (grow procedures_at L d) l)) (sym e) ∙ called_append (get_or (grow procedures_at L d) x []) (get_or (grow procedures_at L d) y [])

    below : (m : ℕ) → there m ≡ if_below d m (called_among (under L m))
    below m = elim (cases_lt m d) [
      | inl w ↦ ap called_among (grow_at procedures_at L [] d m w) ∙ sym (ap (λ b. cond b (called_among (under L m)) None) (lt-ltb m d w))
      | inr w ↦ ap called_among (grow_beyond procedures_at L [] d m w) ∙ sym (ap (λ b. cond b (called_among (under L m)) None) (le-ltb m d w))
    ]

    pub called_joined : called_among (under L d) ≡ option_or (if_below d y (called_among (under L y))) (if_below d x (called_among (under L x)))
    called_joined = joined ∙ ap₂ option_or (below y) (below x)
