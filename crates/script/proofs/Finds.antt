-- The tests find the faults.
use Rattle.std.proofs.Common.{◌≡◌, ℕ, zero, suc, ◌<◌, ◌≤◌, Bool, true, false, not, ◌&&◌, ◌||◌, T, eqb, ltb, leb, ◌⊎◌, ◌↔◌, List, [], ◌∷◌, ℤ, ◌≤ℤ◌, None, sym, refl, ap, ◌∙◌, subst, ap₂, inl, inr, arith}
use lib.Signed.{le_z, le_z_yes}
use Rattle.std.proofs.lemmas.Bool.{and_from, and_parts, both_ways, cases_Bool, cases_eq, cases_lt, eq-eqb, eqb-true, le-leb, leb-true, lt-ltb, ltb-true, ne_eqb, not_from_false, not-true, or_cases, or_left, or_right}
use Rattle.lines.specs.declared.records.Line.{Line}
use Rattle.script.specs.Apart.{Scope, as_global}
use Rattle.script.specs.Lists.{Any, Each, times}
use Rattle.script.specs.Scoped.{Among}
use Rattle.script.specs.Fields.{Field, class_of, fields, fits, is_nothing, is_statement}
use Rattle.script.specs.Around.{Naming, joins, naming, opens_array, opens_body, opens_simple, opens_system, silent, uses_array, uses_procedure, uses_simple}
use Rattle.script.specs.IsScript.{same_sort}
use Rattle.script.specs.Causes.{EndsAmiss, GlobalAgain, LateGlobal, NamesAgain, NamesLine, OutOfForm, OutOfKind, RightField, UndeclaredName, Unnamed}
use Rattle.script.specs.Tests.{again, among, any_below, constant_of, declared, declared_by, ends_amiss, field_fits, fields_fit, form_amiss, global_again, is_unnamed, late_global, named, names_again, names_amiss, off_kind, outside_kind, repeats, repeats_by, same_global, taken_before}
use Rattle.script.proofs.Lists.{one_false, one_true, times_append}
use Rattle.script.proofs.Globals.{global_or}
use Rattle.script.proofs.Naming.{Told, told}
use Rattle.script.proofs.Form.{named_part, names_of}
use Rattle.script.proofs.Steps.{among_is, is_among}

-- a test that passes exactly if something holds
abbrev pub Finds : Bool → Type 0 → Type 0
Finds b P = (b ≡ true) ↔ P

module _ {P Q : Type 0} (a b : Bool) (f : Finds a P) (g : Finds b Q) where
  pub finds_or : Finds (a || b) (P ⊎ Q)
  finds_or = (
    (λ e. elim (or_cases a b e) [ inl x ↦ inl (f.0 x) | inr y ↦ inr (g.0 y) ]),
    (λ s. elim s [ inl x ↦ or_left a b (f.1 x) | inr y ↦ or_right a b (g.1 y) ]),
  )

  pub finds_and : Finds (a && b) (P × Q)
  finds_and = ((λ e. let p = and_parts a b e in (f.0 p.0, g.0 p.1)), (λ h. and_from a b (f.1 h.0) (g.1 h.1)))

module _ {P : Type 0} (b : Bool) (f : Finds b P) where
  pub finds_none : (b ≡ false) ↔ (¬ P)
  finds_none = ((λ e h. both_ways b e (f.1 h)), (λ u. elim (cases_Bool b) [ inl e ↦ absurd (u (f.0 e)) | inr e ↦ e ]))

  pub finds_not : Finds (not b) (¬ P)
  finds_not = ((λ e. finds_none.0 (not-true b e)), (λ u. not_from_false b (finds_none.1 u)))

  pub decided : P ⊎ (¬ P)
  decided = elim (cases_Bool b) [ inl e ↦ inl (f.0 e) | inr e ↦ inr (finds_none.0 e) ]

itself : (b : Bool) → Finds b (b ≡ true)
itself b = ((λ e. e), (λ e. e))

opposite : (b : Bool) → Finds (not b) (b ≡ false)
opposite b = (not-true b, not_from_false b)

pub finds_lt : (m n : ℕ) → Finds (ltb m n) (m < n)
finds_lt m n = (ltb-true m n, lt-ltb m n)

finds_eq : (m n : ℕ) → Finds (eqb m n) (m ≡ n)
finds_eq m n = (eqb-true m n, eq-eqb m n)

-- ## Form

module _ (L : ℕ → Line) (N : ℕ) where
  pub finds_fields : (n : ℕ) (fs : List Field) → Finds (fields_fit L n fs) (Each (RightField L N n) fs)
  finds_fields n [] = ((λ e. tt), (λ e. refl))
  finds_fields n (f ∷ fs) = finds_and (field_fits L n f) (fields_fit L n fs)
      (finds_and (ltb f.1 n) (fits f.0 (class_of (L f.1))) (finds_lt f.1 n) (itself (fits f.0 (class_of (L f.1))))) (finds_fields n fs)

  pub named_where : (m k : ℕ) → 1 ≤ times m (named L k) ↔ ((j : ℕ) × (j < k) × NamesLine L N j m)
  named_where m k = (to k, (λ h. omega (arith, h.2, named_part L m k h.0 h.1)))
    where
      to : (k : ℕ) → 1 ≤ times m (named L k) → (j : ℕ) × (j < k) × NamesLine L N j m
      to zero h = absurd (omega arith)
      to (suc k) h = elim (cases_lt 0 (times m (names_of L k))) [
        | inl w ↦ (k, omega arith, w)
        | inr w ↦ let r = to k (omega (arith, times_append m (named L k) (names_of L k))) in (r.0, omega arith, r.2)
      ]

  found_again : (bs ms : List ℕ) → again bs ms ≡ true → (m : ℕ) × (1 ≤ times m ms) × ((1 ≤ times m bs) ⊎ (2 ≤ times m ms))
  found_again bs [] h = absurd (both_ways false refl h)
  found_again bs (x ∷ ms) h = elim (or_cases (ltb 0 (times x bs)) (again (x ∷ bs) ms) h) [
    | inl e ↦ (x, omega (arith, one_true (eqb x x) (eq-eqb x x refl)), inl (ltb-true 0 (times x bs) e))
    | inr e ↦ let r : (m : ℕ) × (1 ≤ times m ms) × ((1 ≤ times m (x ∷ bs)) ⊎ (2 ≤ times m ms)) = found_again (x ∷ bs) ms e in
        (r.0, omega arith, elim (cases_lt 0 (times r.0 bs)) [ inl w ↦ inl w | inr w ↦ inr (omega arith) ])
  ]

  again_found : (bs ms : List ℕ) (m : ℕ) → 1 ≤ times m ms → (1 ≤ times m bs) ⊎ (2 ≤ times m ms) → again bs ms ≡ true
  again_found bs [] m h s = absurd (omega arith)
  again_found bs (x ∷ ms) m h s = elim (cases_eq x m) [
    | inl e ↦ elim s [
      | inl w ↦ or_left (ltb 0 (times x bs)) (again (x ∷ bs) ms) (lt-ltb 0 (times x bs) (omega (arith, ap (λ i. times i bs) e)))
      | inr w ↦ or_right (ltb 0 (times x bs)) (again (x ∷ bs) ms) (again_found (x ∷ bs) ms m (omega (arith, one_true (eqb x m) (eq-eqb x m e))) (inl (omega (arith, one_true (eqb x m) (eq-eqb x m e)))))
    ]
    | inr e ↦ or_right (ltb 0 (times x bs)) (again (x ∷ bs) ms) (again_found (x ∷ bs) ms m (omega (arith, one_false (eqb x m) (ne_eqb x m e)))
        (elim s [ inl w ↦ inl (omega arith) | inr w ↦ inr (omega (arith, one_false (eqb x m) (ne_eqb x m e))) ]))
  ]

  finds_again : (n : ℕ) → Finds (names_again L n) (NamesAgain L N n)
  finds_again n = (
    (λ e. let r = found_again (named L n) (names_of L n) e in (r.0, r.1, elim r.2 [ inl w ↦ inl ((named_where r.0 n).0 w) | inr w ↦ inr w ])),
    (λ h. again_found (named L n) (names_of L n) h.0 h.1 (elim h.2 [ inl w ↦ inl ((named_where h.0 n).1 w) | inr w ↦ inr w ])),
  )

  finds_unnamed : (n : ℕ) → Finds (is_unnamed L N n) (Unnamed L N n)
  finds_unnamed n = ((λ e. let w = together.0 e in (w.0, w.1.0, w.1.1)), (λ h. together.1 (h.0, (h.1, h.2))))
    where
      by_none : Finds (eqb (times n (named L (suc N))) 0) ((j : ℕ) → j ≤ N → ¬ (NamesLine L N j n))
      by_none = (
        (λ e j r h. omega (arith, eqb-true (times n (named L (suc N))) 0 e, named_part L n (suc N) j (omega arith))),
        (λ u. eq-eqb (times n (named L (suc N))) 0 (elim (cases_lt 0 (times n (named L (suc N)))) [
          | inl w ↦ let r = (named_where n (suc N)).0 w in absurd (u r.0 (omega arith) r.2)
          | inr w ↦ omega arith
        ])),
      )

      together : Finds (is_unnamed L N n) ((n < N) × ((is_nothing (class_of (L n)) ≡ false) × ((j : ℕ) → j ≤ N → ¬ (NamesLine L N j n))))
      together = finds_and (ltb n N) (not (is_nothing (class_of (L n))) && eqb (times n (named L (suc N))) 0) (finds_lt n N)
          (finds_and (not (is_nothing (class_of (L n)))) (eqb (times n (named L (suc N))) 0) (opposite (is_nothing (class_of (L n)))) by_none)

  finds_end : (n : ℕ) → Finds (ends_amiss L N n) (EndsAmiss L N n)
  finds_end n = finds_and (eqb n N) (not (is_statement (class_of (L n)))) (finds_eq n N) (opposite (is_statement (class_of (L n))))

  -- G is the first line that is no global
  module _ (G : ℕ) (front : (n : ℕ) → n < G → is_nothing (class_of (L n)) ≡ true) (back : G ≤ N → is_nothing (class_of (L G)) ≡ false) where
    pub finds_late : (n : ℕ) → n ≤ N → Finds (late_global L G n) (LateGlobal L N n)
    finds_late n q = (
      (λ e. let p = and_parts (leb G n) (is_nothing (class_of (L n))) e in
          let g : G ≤ n = leb-true G n p.0 in (
            p.1,
            (
              G,
              elim (cases_eq G n) [
                | inl w ↦ absurd (both_ways (is_nothing (class_of (L n))) (ap (λ i. is_nothing (class_of (L i))) (sym w) ∙ back (omega arith)) p.1)
                | inr w ↦ omega arith
              ],
              back (omega arith),
            ),
          )),
      (λ h. and_from (leb G n) (is_nothing (class_of (L n))) (le-leb G n (elim (cases_lt h.1.0 G) [
        | inl w ↦ absurd (both_ways (is_nothing (class_of (L h.1.0))) h.1.2 (front h.1.0 w))
        | inr w ↦ omega (arith, h.1.1)
      ])) h.0),
    )

    pub finds_form : (n : ℕ) → n ≤ N → Finds (form_amiss L N G n) (OutOfForm L N n)
    finds_form n q = finds_or (names_amiss L n) (names_again L n || (is_unnamed L N n || (late_global L G n || ends_amiss L N n))) (finds_not (fields_fit L n (fields (L n))) (finds_fields n (fields (L n))))
        (finds_or (names_again L n) (is_unnamed L N n || (late_global L G n || ends_amiss L N n)) (finds_again n)
        (finds_or (is_unnamed L N n) (late_global L G n || ends_amiss L N n) (finds_unnamed n)
        (finds_or (late_global L G n) (ends_amiss L N n) (finds_late n q) (finds_end n))))

-- ## Names

any_where : (t : ℕ → Bool) (k : ℕ) → any_below t k ≡ true → (m : ℕ) × (m < k) × (t m ≡ true)
any_where t zero h = absurd (both_ways false refl h)
any_where t (suc k) h = elim (or_cases (t k) (any_below t k) h) [
  | inl e ↦ (k, omega arith, e)
  | inr e ↦ let r = any_where t k e in (r.0, omega arith, r.2)
]

where_any : (t : ℕ → Bool) (k m : ℕ) → m < k → t m ≡ true → any_below t k ≡ true
where_any t zero m q h = absurd (omega arith)
where_any t (suc k) m q h = elim (cases_eq m k) [
  | inl e ↦ or_left (t k) (any_below t k) (ap t (sym e) ∙ h)
  | inr e ↦ or_right (t k) (any_below t k) (where_any t k m (omega arith) h)
]

both_globals : (k l : Line) → same_global (as_global k) (as_global l) ≡ true → (a b c : ℕ) × (k ≡ Line.Global a b) × (l ≡ Line.Global a c) × (same_sort b c ≡ true)
both_globals k l h = elim (global_or k) [
  | inl x ↦ absurd (both_ways false refl (ap (λ o. same_global o (as_global l)) (sym x.0) ∙ h))
  | inr g ↦ elim (global_or l) [
    | inl y ↦ absurd (both_ways false refl (ap₂ same_global (ap as_global (sym g.2)) (sym y.0) ∙ h))
    | inr o ↦
        let p = and_parts (eqb g.0 o.0) (same_sort g.1 o.1) (ap₂ (λ x y. same_global (as_global x) (as_global y)) (sym g.2) (sym o.2) ∙ h) in
        (o.0, g.1, o.1, g.2 ∙ ap (λ a. Line.Global a g.1) (eqb-true g.0 o.0 p.0), o.2, p.1)
  ]
]

finds_taken : (n q : ℕ) (rs : List (ℕ × ℕ)) → Finds (taken_before n q rs) (Any (λ r. (r.0 < n) × (r.1 ≡ q)) rs)
finds_taken n q [] = ((λ e. absurd (both_ways false refl e)), (λ x. absurd x))
finds_taken n q (r ∷ rs) = finds_or (ltb r.0 n && eqb r.1 q) (taken_before n q rs)
    (finds_and (ltb r.0 n) (eqb r.1 q) (finds_lt r.0 n) (finds_eq r.1 q)) (finds_taken n q rs)

pub finds_repeats : (qs : List (ℕ × ℕ)) (n : ℕ) (l : Line) → Finds (repeats qs n l) ((q x y b : ℕ) × (l ≡ Line.Procedure q x y b) × ((x ≡ y) ⊎ Any (λ r. (r.0 < n) × (r.1 ≡ q)) qs))
finds_repeats qs n l = (go (naming l) (told l), (λ h. ap (repeats qs n) h.4 ∙ (inner h.0 h.1 h.2).1 h.5))
  where
    inner : (q x y : ℕ) → Finds (eqb x y || taken_before n q qs) ((x ≡ y) ⊎ Any (λ r. (r.0 < n) × (r.1 ≡ q)) qs)
    inner q x y = finds_or (eqb x y) (taken_before n q qs) (eqb-true x y, eq-eqb x y) (finds_taken n q qs)

    go : (k : Naming) → Told l k → repeats_by qs n k ≡ true → (q x y b : ℕ) × (l ≡ Line.Procedure q x y b) × ((x ≡ y) ⊎ Any (λ r. (r.0 < n) × (r.1 ≡ q)) qs)
    go silent t e = absurd (both_ways false refl e)
    go (uses_simple a) t e = absurd (both_ways false refl e)
    go (uses_array a) t e = absurd (both_ways false refl e)
    go (uses_procedure a) t e = absurd (both_ways false refl e)
    go (opens_simple a) t e = absurd (both_ways false refl e)
    go (opens_array a) t e = absurd (both_ways false refl e)
    go (opens_system a) t e = absurd (both_ways false refl e)
    go (opens_body q x y) t e = (q, x, y, t.0, t.1, (inner q x y).0 e)
    go (joins a b) t e = absurd (both_ways false refl e)

-- ## Uses

finds_among : (ps : List (ℕ × ℕ)) (a : ℕ) → Finds (among ps a) (Among ps a)
finds_among ps a = (is_among ps a, among_is ps a)

module _ (L : ℕ → Line) (N : ℕ) where
  pub finds_global : (n : ℕ) → Finds (global_again L n) (GlobalAgain L N n)
  finds_global n = (
    (λ e. let r = any_where (λ m. ltb 0 m && same_global (as_global (L m)) (as_global (L n))) n e in
        let p = and_parts (ltb 0 r.0) (same_global (as_global (L r.0)) (as_global (L n))) r.2 in
        let g = both_globals (L r.0) (L n) p.1 in
        (r.0, g.0, g.1, g.2, ltb-true 0 r.0 p.0, r.1, g.3, g.4, g.5)),
    (λ h. where_any (λ m. ltb 0 m && same_global (as_global (L m)) (as_global (L n))) n h.0 h.5
        (and_from (ltb 0 h.0) (same_global (as_global (L h.0)) (as_global (L n))) (lt-ltb 0 h.0 h.4)
        (ap₂ (λ x y. same_global (as_global x) (as_global y)) h.6 h.7 ∙ and_from (eqb h.1 h.1) (same_sort h.2 h.3) (eq-eqb h.1 h.1 refl) h.8))),
  )

  pub finds_use : (s : Scope) (l : Line) → Finds (not (declared s l)) (UndeclaredName L N s l)
  finds_use s l = (
    go (naming l) (told l),
    (λ h. elim h [
      | inl u ↦ ap (λ l. not (declared s l)) u.1 ∙ (finds_not (among s.simples u.0) (finds_among s.simples u.0)).1 u.2
      | inr v ↦ elim v [
        | inl u ↦ ap (λ l. not (declared s l)) u.2 ∙ (finds_not (among s.arrays u.0) (finds_among s.arrays u.0)).1 u.3
        | inr u ↦ ap (λ l. not (declared s l)) u.3 ∙ (finds_not (among s.procs u.0) (finds_among s.procs u.0)).1 u.4
      ]
    ]),
  )
    where
      go : (k : Naming) → Told l k → not (declared_by s k) ≡ true → UndeclaredName L N s l
      go silent t e = absurd (both_ways false refl e)
      go (uses_simple a) t e = inl (a, t, (finds_not (among s.simples a) (finds_among s.simples a)).0 e)
      go (uses_array a) t e = inr (inl (a, t.0, t.1, (finds_not (among s.arrays a) (finds_among s.arrays a)).0 e))
      go (uses_procedure a) t e = inr (inr (a, t.0, t.1, t.2, (finds_not (among s.procs a) (finds_among s.procs a)).0 e))
      go (opens_simple a) t e = absurd (both_ways false refl e)
      go (opens_array a) t e = absurd (both_ways false refl e)
      go (opens_system a) t e = absurd (both_ways false refl e)
      go (opens_body q x y) t e = absurd (both_ways false refl e)
      go (joins a b) t e = absurd (both_ways false refl e)

-- ## Constants

-- a line that is a constant, and any other
constant_or : (l : Line) → (constant_of l ≡ None) ⊎ ((k : ℤ) × (l ≡ Line.Constant k))
constant_or (Line.Global a b) = inl refl
constant_or (Line.Constant k) = inr (k, refl)
constant_or (Line.Simple a) = inl refl
constant_or (Line.Element a b) = inl refl
constant_or (Line.Operation o a b) = inl refl
constant_or (Line.Comparison r a b) = inl refl
constant_or (Line.Choice a b c) = inl refl
constant_or (Line.Truth b) = inl refl
constant_or (Line.Negation a) = inl refl
constant_or (Line.Implication a b) = inl refl
constant_or (Line.Assignment a b) = inl refl
constant_or (Line.Sequence a b) = inl refl
constant_or (Line.Branch a b c) = inl refl
constant_or (Line.Call a b c) = inl refl
constant_or (Line.NewSimple a b) = inl refl
constant_or (Line.NewArray a b c) = inl refl
constant_or (Line.System a b) = inl refl
constant_or (Line.Procedure a b c d) = inl refl
constant_or (Line.Join a b) = inl refl

finds_le : (j k : ℤ) → Finds (le_z j k) (j ≤ℤ k)
finds_le j k = ((λ e. le_z_yes (subst T (sym e) tt)), (λ h. test (le_z j k) h.le))
  where
    test : (b : Bool) → T b → b ≡ true
    test true t = refl
    test false t = absurd t

pub finds_in_kind : (low high k : ℤ) → Finds (le_z low k && le_z k high) ((low ≤ℤ k) × (k ≤ℤ high))
finds_in_kind low high k = finds_and (le_z low k) (le_z k high) (finds_le low k) (finds_le k high)

pub finds_kind : (L : ℕ → Line) (N : ℕ) (low high : ℤ) (n : ℕ) → Finds (off_kind low high L n) (OutOfKind L N low high n)
finds_kind L N low high n = (
  (λ e. elim (constant_or (L n)) [
    | inl w ↦ absurd (both_ways false refl (ap (outside_kind low high) (sym w) ∙ e))
    | inr p ↦ (p.0, p.1, (beyond p.0).0 (ap (λ l. outside_kind low high (constant_of l)) (sym p.1) ∙ e))
  ]),
  (λ h. ap (λ l. outside_kind low high (constant_of l)) h.1 ∙ (beyond h.0).1 h.2),
)
  where
    beyond : (k : ℤ) → Finds (not (le_z low k && le_z k high)) (¬ ((low ≤ℤ k) × (k ≤ℤ high)))
    beyond k = finds_not (le_z low k && le_z k high) (finds_in_kind low high k)
