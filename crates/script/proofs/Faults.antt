-- Refused by the tests is refused by the faults, and passed by them is without a fault.
use Rattle.std.proofs.Common.{ℕ, suc, ◌≤◌, Bool, not, ltb, ◌↔◌, List, [], ◌∷◌, length, ℤ, sym, subst, inl, inr, arith}
use Rattle.std.proofs.lemmas.Bool.{both_ways, cases_Bool, lt-ltb, ltb-true}
use Rattle.lines.specs.declared.records.Line.{Line}
use Rattle.script.specs.Tree.{line, part}
use Rattle.script.specs.Apart.{Scope, globals_of, past_globals}
use Rattle.script.specs.Lists.{Each}
use Rattle.script.specs.Around.{fellows_at, scope_at}
use Rattle.script.specs.Depth.{deepest_allowed, depth}
use Rattle.script.specs.Causes.{Fault, FirstOf, LowestWith, ProcedureAgain, Reason, Refused, TooDeep, Undeclared, Without, name_again, order, out_of_form, out_of_kind, too_deep, undeclared}
use Rattle.script.specs.Tests.{declared, finds_fault, global_again, procedure_again, repeats}
use Rattle.script.proofs.Globals.{back_of, front_of}
use Rattle.script.proofs.Form.{InForm}
use Rattle.script.proofs.Under.{fellows_listed, scope_listed}
use Rattle.script.proofs.Depth.{depth_here}
use Rattle.script.proofs.Lowest.{AllNone, Lowest, NoneBelow, RefusedBy}
use Rattle.script.proofs.Finds.{Finds, finds_form, finds_global, finds_kind, finds_or, finds_repeats, finds_use}
use Rattle.script.proofs.Accept.{Faultless, faultless_form}

-- the order has every cause
of_each : (P : Reason → Type 0) → Each P order → (r : Reason) → P r
of_each P e out_of_form = e.0
of_each P e name_again = e.1.0
of_each P e undeclared = e.1.1.0
of_each P e too_deep = e.1.1.1.0
of_each P e out_of_kind = e.1.1.1.1.0

each_of : (P : Reason → Type 0) → ((r : Reason) → P r) → Each P order
each_of P h = (h out_of_form, (h name_again, (h undeclared, (h too_deep, (h out_of_kind, tt)))))

module _ (low high : ℤ) (ls : List Line) where
  abbrev test : Reason → ℕ → Bool
  test = finds_fault low high ls

  abbrev L : ℕ → Line
  L = line ls

  abbrev N : ℕ
  N = length ls

  abbrev outer : Scope
  outer = (globals_of ls).scope

  -- a test that finds a fault wherever it stands finds none exactly if there is none, and finds the lowest
  module _ (r : Reason) (finds : (n : ℕ) → n ≤ N → Finds (test r n) (Fault low high ls r n)) where
    without : (k : ℕ) → k ≤ suc N → NoneBelow (test r) k ↔ Without (Fault low high ls r) k
    without k b = (
      (λ h m q c. both_ways (test r m) (h m q) ((finds m (omega arith)).1 c)),
      (λ h m q. elim (cases_Bool (test r m)) [ inl e ↦ absurd (h m q ((finds m (omega arith)).0 e)) | inr e ↦ e ]),
    )

    lowest_with : (n : ℕ) → Lowest (test r) (suc N) n ↔ LowestWith (Fault low high ls r) (suc N) n
    lowest_with n = (
      (λ h. (h.0, (finds n (omega arith)).0 h.1, (without n (omega arith)).0 h.2)),
      (λ h. (h.0, (finds n (omega arith)).1 h.1, (without n (omega arith)).1 h.2)),
    )

    first_same : (rs : List Reason) (c n : ℕ) → (Without (Fault low high ls r) (suc N) → RefusedBy test (suc N) rs c n ↔ FirstOf (Fault low high ls) (suc N) rs c n)
        → RefusedBy test (suc N) (r ∷ rs) c n ↔ FirstOf (Fault low high ls) (suc N) (r ∷ rs) c n
    first_same rs c n later = (
      (λ h. elim h [ inl x ↦ inl (x.0, (lowest_with n).0 x.1) | inr x ↦ let w = (without (suc N) (omega arith)).0 x.0 in inr (w, (later w).0 x.1) ]),
      (λ h. elim h [ inl x ↦ inl (x.0, (lowest_with n).1 x.1) | inr x ↦ inr ((without (suc N) (omega arith)).1 x.0, (later x.0).1 x.1) ]),
    )

  finds_first : (n : ℕ) → n ≤ N → Finds (test out_of_form n) (Fault low high ls out_of_form n)
  finds_first n q = finds_form L N (past_globals ls) (front_of ls) (back_of ls) n q

  -- in a sheet in form every test finds its fault
  module _ (i : InForm L N (past_globals ls)) where
    finds_all : (r : Reason) (n : ℕ) → n ≤ N → Finds (test r n) (Fault low high ls r n)
    finds_all out_of_form n q = finds_first n q
    finds_all name_again n q = finds_or (global_again L n) (procedure_again L N n) (finds_global L N n)
        (subst (λ qs. Finds (repeats qs n (L n)) (ProcedureAgain L N n)) (sym (fellows_listed L N (past_globals ls) (front_of ls) i n)) (finds_repeats (fellows_at L N n) n (L n)))
    finds_all undeclared n q = subst (λ y. Finds (not (declared y (L n))) (Undeclared L N outer n)) (sym (scope_listed L N (past_globals ls) (front_of ls) i outer n)) (finds_use L N (scope_at L N outer n) (L n))
    finds_all too_deep n q = subst (λ d. Finds (ltb deepest_allowed d) (TooDeep L N n)) (sym (depth_here L N (past_globals ls) (front_of ls) i n q))
        (ltb-true deepest_allowed (depth (part L n)), lt-ltb deepest_allowed (depth (part L n)))
    finds_all out_of_kind n q = finds_kind L N low high n

    later_same : (rs : List Reason) (c n : ℕ) → RefusedBy test (suc N) rs c n ↔ FirstOf (Fault low high ls) (suc N) rs c n
    later_same [] c n = ((λ x. x), (λ x. x))
    later_same (r ∷ rs) c n = first_same r (finds_all r) rs c n (λ h. later_same rs c n)

  the_rest : Without (Fault low high ls out_of_form) (suc N) → InForm L N (past_globals ls)
  the_rest h = faultless_form L N (past_globals ls) (front_of ls) (back_of ls) (λ n q. h n (omega arith))

  pub refused_same : (c n : ℕ) → RefusedBy test (suc N) order c n ↔ Refused low high ls c n
  refused_same c n = first_same out_of_form finds_first (name_again ∷ undeclared ∷ too_deep ∷ out_of_kind ∷ []) c n (λ h. later_same (the_rest h) (name_again ∷ undeclared ∷ too_deep ∷ out_of_kind ∷ []) c n)

  pub none_same : AllNone test (suc N) order ↔ Faultless low high ls
  none_same = (
    (λ a. let i = the_rest ((without out_of_form finds_first (suc N) (omega arith)).0 a.0) in
        λ r n q. (without r (finds_all i r) (suc N) (omega arith)).0 (of_each (λ r. NoneBelow (test r) (suc N)) a r) n (omega arith)),
    (λ h. let i = faultless_form L N (past_globals ls) (front_of ls) (back_of ls) (h out_of_form) in
        each_of (λ r. NoneBelow (test r) (suc N)) (λ r. (without r (finds_all i r) (suc N) (omega arith)).1 (λ m q. h r m (omega arith)))),
  )
