-- Names that differ from those on lower lines are distinct, where the lines are.
use Rattle.std.proofs.Common.{◌≡◌, ℕ, ◌+◌, ◌<◌, ◌≤◌, eqb, List, [], ◌∷◌, ◌++◌, sym, refl, inl, inr, arith}
use Rattle.std.proofs.lemmas.Bool.{cases_order, eq-eqb}
use Rattle.script.specs.Script.{Declarations, Statement, assign, both, branch, call, joined, new_array, new_simple, procedure, system}
use Rattle.script.specs.Lists.{Each, EachOnce, times}
use Rattle.script.specs.Scoped.{declaring_lines, declaring_lines_of}
use Rattle.script.specs.Around.{procedures}
use Rattle.script.specs.IsScript.{Distinct, DistinctBodies, called}
use Rattle.script.proofs.Lists.{each_append, each_left, each_map, each_right, each_zip, one_true, times_append}
use Rattle.script.proofs.Steps.{Differ, DifferAmong}

abbrev Pair : Type 0
Pair = ℕ × ℕ

-- the names differ if the line of the first is lower
abbrev Unlike : Pair → Pair → Type 0
Unlike p r = r.0 < p.0 → ¬ (r.1 ≡ p.1)

abbrev at_lines : List Pair → List ℕ
at_lines [] = []
at_lines (r ∷ rs) = r.0 ∷ at_lines rs

each_called : (P : ℕ → Type 0) (ps : List Pair) → Each (λ p. P p.1) ps → Each P (called ps)
each_called P [] e = tt
each_called P (p ∷ ps) e = (e.0, each_called P ps e.1)

called_each : (P : ℕ → Type 0) (ps : List Pair) → Each P (called ps) → Each (λ p. P p.1) ps
called_each P [] e = tt
called_each P (p ∷ ps) e = (e.0, called_each P ps e.1)

apart_lines : (l : ℕ) (ps : List Pair) → times l (at_lines ps) ≡ 0 → Each (λ r. ¬ (r.0 ≡ l)) ps
apart_lines l [] h = tt
apart_lines l (r ∷ ps) h = ((λ e. omega (arith, one_true (eqb r.0 l) (eq-eqb r.0 l e))), apart_lines l ps (omega arith))

unlike_once : (ps : List Pair) → ((l : ℕ) → times l (at_lines ps) ≤ 1) → Each (λ p. Each (Unlike p) ps) ps → EachOnce (called ps)
unlike_once [] u h = tt
unlike_once (p ∷ ps) u h = (
  each_called (λ q. ¬ (p.1 ≡ q)) ps (each_zip (λ r. ¬ (r.0 ≡ p.0)) (λ r. Unlike p r × Unlike r p) (λ r. ¬ (p.1 ≡ r.1))
      (λ r d w e. elim (cases_order r.0 p.0) [ inl x ↦ d x | inr x ↦ elim x [ inl y ↦ w.0 y (sym e) | inr y ↦ w.1 y e ] ]) ps
      (apart_lines p.0 ps (omega (arith, u p.0, one_true (eqb p.0 p.0) (eq-eqb p.0 p.0 refl))))
      (each_zip (Unlike p) (λ r. Each (Unlike r) (p ∷ ps)) (λ r. Unlike p r × Unlike r p) (λ r x y. (x, y.0)) ps h.0.1 h.1)),
  unlike_once ps (λ l. omega (arith, u l)) (each_map (λ r. Each (Unlike r) (p ∷ ps)) (λ r. Each (Unlike r) ps) (λ r x. x.1) ps h.1),
)

once_unlike : (ps : List Pair) → EachOnce (called ps) → Each (λ p. Each (Unlike p) ps) ps
once_unlike [] h = tt
once_unlike (p ∷ ps) h = (
  ((λ q e. omega arith), each_map (λ r. ¬ (p.1 ≡ r.1)) (Unlike p) (λ r d q e. d (sym e)) ps (called_each (λ q. ¬ (p.1 ≡ q)) ps h.0)),
  each_zip (λ r. ¬ (p.1 ≡ r.1)) (λ r. Each (Unlike r) ps) (λ r. Each (Unlike r) (p ∷ ps)) (λ r d e. ((λ q. d), e)) ps
      (called_each (λ q. ¬ (p.1 ≡ q)) ps h.0) (once_unlike ps h.1),
)

fewer : (l : ℕ) (d : Declarations) → times l (at_lines (procedures d)) ≤ times l (declaring_lines_of d)
fewer l (procedure h q x y b) = omega arith
fewer l (joined d e) = omega (arith, at_both (procedures d) (procedures e), times_append l (declaring_lines_of d) (declaring_lines_of e), fewer l d, fewer l e)
  where
    at_both : (ps qs : List Pair) → times l (at_lines (ps ++ qs)) ≡ times l (at_lines ps) + times l (at_lines qs)
    at_both [] qs = omega arith
    at_both (p ∷ ps) qs = omega (arith, at_both ps qs)

abbrev Once : List ℕ → Type 0
Once ls = (l : ℕ) → times l ls ≤ 1

once_first : (us vs : List ℕ) → Once (us ++ vs) → Once us
once_first us vs u l = omega (arith, u l, times_append l us vs)

once_second : (us vs : List ℕ) → Once (us ++ vs) → Once vs
once_second us vs u l = omega (arith, u l, times_append l us vs)

mutual
  pub differ_distinct : (t : Statement) → Once (declaring_lines t) → Differ t → Distinct t
  differ_distinct (assign l p e) u h = tt
  differ_distinct (both l a b) u h = (differ_distinct a (once_first (declaring_lines a) (declaring_lines b) u) h.0, differ_distinct b (once_second (declaring_lines a) (declaring_lines b) u) h.1)
  differ_distinct (branch l c a b) u h = (differ_distinct a (once_first (declaring_lines a) (declaring_lines b) u) h.0, differ_distinct b (once_second (declaring_lines a) (declaring_lines b) u) h.1)
  differ_distinct (call l q e p) u h = tt
  differ_distinct (new_simple l x a) u h = differ_distinct a (λ m. omega (arith, u m)) h
  differ_distinct (new_array l x n a) u h = differ_distinct a (λ m. omega (arith, u m)) h
  differ_distinct (system l d a) u h =
      let w : Each (λ p. Each (Unlike p) (procedures d)) (procedures d) × DistinctBodies d = differ_bodies d (procedures d) (once_first (declaring_lines_of d) (declaring_lines a) u) h.0 in (
        unlike_once (procedures d) (λ m. omega (arith, fewer m d, once_first (declaring_lines_of d) (declaring_lines a) u m)) w.0,
        w.1,
        differ_distinct a (once_second (declaring_lines_of d) (declaring_lines a) u) h.1,
      )

  differ_bodies : (d : Declarations) (qs : List Pair) → Once (declaring_lines_of d) → DifferAmong qs d → Each (λ p. Each (Unlike p) qs) (procedures d) × DistinctBodies d
  differ_bodies (procedure l q x y b) qs u h = ((h.1, tt), (h.0, differ_distinct b (λ m. omega (arith, u m)) h.2))
  differ_bodies (joined d e) qs u h =
      let v = differ_bodies d qs (once_first (declaring_lines_of d) (declaring_lines_of e) u) h.0 in
      let w = differ_bodies e qs (once_second (declaring_lines_of d) (declaring_lines_of e) u) h.1 in
      (each_append (λ p. Each (Unlike p) qs) (procedures d) (procedures e) v.0 w.0, (v.1, w.1))

mutual
  pub distinct_differ : (t : Statement) → Distinct t → Differ t
  distinct_differ (assign l p e) h = tt
  distinct_differ (both l a b) h = (distinct_differ a h.0, distinct_differ b h.1)
  distinct_differ (branch l c a b) h = (distinct_differ a h.0, distinct_differ b h.1)
  distinct_differ (call l q e p) h = tt
  distinct_differ (new_simple l x a) h = distinct_differ a h
  distinct_differ (new_array l x n a) h = distinct_differ a h
  distinct_differ (system l d a) h = (bodies_differ d (procedures d) (once_unlike (procedures d) h.0) h.1, distinct_differ a h.2)

  bodies_differ : (d : Declarations) (qs : List Pair) → Each (λ p. Each (Unlike p) qs) (procedures d) → DistinctBodies d → DifferAmong qs d
  bodies_differ (procedure l q x y b) qs e h = (h.0, e.0, distinct_differ b h.1)
  bodies_differ (joined d c) qs e h =
      (bodies_differ d qs (each_left (λ p. Each (Unlike p) qs) (procedures d) (procedures c) e) h.0, bodies_differ c qs (each_right (λ p. Each (Unlike p) qs) (procedures d) (procedures c) e) h.1)
