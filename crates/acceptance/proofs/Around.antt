-- What is around a line, one user at a time; and the procedures that declarations have.
use Rattle.std.proofs.Common.{◌≡◌, ℕ, zero, suc, ◌+◌, ◌<◌, Bool, true, false, ◌&&◌, ◌||◌, eqb, ltb, List, [], ◌∷◌, ◌++◌, get_or, sym, refl, ap, ◌∙◌, ap₂, inl, inr, add-one, arith}
use Rattle.std.proofs.lemmas.Bool.{both_ways, cases_lt, le-ltb, lt-ltb}
use Rattle.std.proofs.Math.Bool.{or-false, or_assoc}
use Rattle.lines.specs.declared.records.Line.{Line}
use Rattle.script.specs.Tree.{grow, line}
use Rattle.script.specs.Fields.{fields, named_in}
use Rattle.script.specs.Lists.{times}
use Rattle.script.specs.Around.{Naming, if_named, joins, naming, opens_array, opens_body, opens_simple, opens_system, silent, user, uses_array, uses_procedure, uses_simple}
use Rattle.script.specs.Tests.{procedures_at, procedures_by, taken_before, under}
use Rattle.script.proofs.Grow.{grow_at, grow_beyond}
use Rattle.acceptance.specs.Naming.{stands}
use Rattle.acceptance.proofs.Naming.{stands_times}

if_hit : (t u k : ℕ) → ltb 0 t ≡ true → if_named t u k ≡ k
if_hit zero u k h = absurd (both_ways (ltb 0 0) refl h)
if_hit (suc t) u k h = refl

if_miss : (t u k : ℕ) → ltb 0 t ≡ false → if_named t u k ≡ u
if_miss zero u k h = refl
if_miss (suc t) u k h = absurd (both_ways (ltb 0 (suc t)) h (lt-ltb 0 (suc t) (omega arith)))

module _ (L : ℕ → Line) (m : ℕ) where
  pub user_here : (k j : ℕ) → j + 1 ≡ k → stands m (named_in (fields (L j))) ≡ true → user L k m ≡ j
  user_here k j e h = ap (λ i. user L i m) (sym e ∙ add-one j) ∙ if_hit (times m (named_in (fields (L j)))) (user L j m) j (sym (stands_times m (named_in (fields (L j)))) ∙ h)

  pub user_before : (k j : ℕ) → j + 1 ≡ k → stands m (named_in (fields (L j))) ≡ false → user L k m ≡ user L j m
  user_before k j e h = ap (λ i. user L i m) (sym e ∙ add-one j) ∙ if_miss (times m (named_in (fields (L j)))) (user L j m) j (sym (stands_times m (named_in (fields (L j)))) ∙ h)

-- line 0 names nothing
pub named_from_one : (ls : List Line) (m k : ℕ) → stands m (named_in (fields (line ls k))) ≡ true → 0 < k
named_from_one ls m zero h = absurd (both_ways false refl h)
named_from_one ls m (suc k) h = omega arith

module _ (n q : ℕ) where
  taken_append : (xs ys : List (ℕ × ℕ)) → taken_before n q (xs ++ ys) ≡ (taken_before n q xs || taken_before n q ys)
  taken_append [] ys = refl
  taken_append (x ∷ xs) ys = ap (λ b. (ltb x.0 n && eqb x.1 q) || b) (taken_append xs ys) ∙ sym (or_assoc (ltb x.0 n && eqb x.1 q) (taken_before n q xs) (taken_before n q ys))

  module _ (L : ℕ → Line) where
    abbrev pub taken : ℕ → Bool
    taken m = taken_before n q (under L m)

    abbrev pub taken_step : ℕ → Naming → Bool
    taken_step a silent = false
    taken_step a (uses_simple x) = false
    taken_step a (uses_array x) = false
    taken_step a (uses_procedure x) = false
    taken_step a (opens_simple x) = false
    taken_step a (opens_array x) = false
    taken_step a (opens_system x) = false
    taken_step a (opens_body p x y) = ltb a n && eqb p q
    taken_step a (joins x y) = (ltb x a && taken x) || (ltb y a && taken y)

    below : (a m : ℕ) → taken_before n q (get_or (grow procedures_at L a) m []) ≡ (ltb m a && taken m)
    below a m = elim (cases_lt m a) [
      | inl w ↦ ap (taken_before n q) (grow_at procedures_at L [] a m w) ∙ sym (ap (λ b. b && taken m) (lt-ltb m a w))
      | inr w ↦ ap (taken_before n q) (grow_beyond procedures_at L [] a m w) ∙ sym (ap (λ b. b && taken m) (le-ltb m a w))
    ]

    taken_cases : (a : ℕ) (g : Naming) → taken_before n q (procedures_by (λ m. get_or (grow procedures_at L a) m []) a g) ≡ taken_step a g
    taken_cases a silent = refl
    taken_cases a (uses_simple x) = refl
    taken_cases a (uses_array x) = refl
    taken_cases a (uses_procedure x) = refl
    taken_cases a (opens_simple x) = refl
    taken_cases a (opens_array x) = refl
    taken_cases a (opens_system x) = refl
    taken_cases a (opens_body p x y) = or-false (ltb a n && eqb p q)
    taken_cases a (joins x y) = taken_append (get_or (grow procedures_at L a) x []) (get_or (grow procedures_at L a) y []) ∙ ap₂ ◌||◌ (below a x) (below a y)

    pub taken_at : (a : ℕ) (l : Line) → l ≡ L a → taken a ≡ taken_step a (naming l)
    taken_at a l e = taken_cases a (naming (L a)) ∙ ap (λ k. taken_step a (naming k)) (sym e)
