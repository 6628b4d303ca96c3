-- A sheet is a script exactly if no line of it has a fault.
use Rattle.std.proofs.Common.{◌≡◌, ℕ, zero, suc, ◌<◌, ◌≤◌, Bool, true, false, not, ◌&&◌, leb, ◌↔◌, List, [], length, get_or, ℤ, sym, refl, ap, ◌∙◌, subst, subst₂, inl, inr, arith}
use lib.Signed.{le_z}
use Rattle.std.proofs.lemmas.Bool.{and_from, both_ways, cases_Bool, cases_eq, cases_lt, le-leb, not-false, not-true}
use Rattle.lines.specs.declared.records.Line.{Line}
use Rattle.script.specs.Tree.{Part, grow, grown, line, other, part}
use Rattle.script.specs.Apart.{Scope, globals_of, past_globals}
use Rattle.script.specs.Lists.{Each, times}
use Rattle.script.specs.Fields.{class_of, fields, is_nothing, is_statement, named_in}
use Rattle.script.specs.Around.{around, fellows, fellows_at, inside, naming, procedures_of, scope_at}
use Rattle.script.specs.Depth.{deepest_allowed, depth}
use Rattle.script.specs.IsScript.{IsScript, same_sort}
use Rattle.script.specs.Causes.{Fault, OutOfForm, Reason, RightField, name_again, out_of_form, out_of_kind, too_deep, undeclared}
use Rattle.script.specs.Tests.{declared, fields_fit, named, repeats}
use Rattle.script.proofs.Lists.{each_from, each_map, each_zip, times_append, times_each}
use Rattle.script.proofs.Grow.{grow_at}
use Rattle.script.proofs.Made.{Something}
use Rattle.script.proofs.Globals.{a_global, back_of, front_of}
use Rattle.script.proofs.Naming.{fellows_same, inside_same, passed, passed_named}
use Rattle.script.proofs.Form.{InForm, OneTree, form_is_tree, named_part, names_of, some_part, tree_is_form, valid}
use Rattle.script.proofs.Spread.{around_last, around_named, gathers, last_behind, spreads}
use Rattle.script.proofs.Steps.{DifferPart, ScopedPart, differ_step, scoped_step}
use Rattle.script.proofs.Declaring.{declares_once, declaring_lines_in}
use Rattle.script.proofs.Distinct.{differ_distinct, distinct_differ}
use Rattle.script.proofs.Finds.{decided, finds_fields, finds_in_kind, finds_late, finds_none, finds_repeats, finds_use, named_where}

-- ## In form

-- the more lines, the more they name
named_more : (L : ℕ → Line) (m n k : ℕ) → n ≤ k → times m (named L n) ≤ times m (named L k)
named_more L m n zero q = let e : n ≡ 0 = omega arith in omega (arith, ap (λ i. times m (named L i)) e)
named_more L m n (suc k) q = elim (cases_eq n (suc k)) [
  | inl e ↦ omega (arith, ap (λ i. times m (named L i)) e)
  | inr e ↦ omega (arith, named_more L m n k (omega arith), times_append m (named L k) (names_of L k))
]

module _ (L : ℕ → Line) (N G : ℕ) (front : (n : ℕ) → n < G → is_nothing (class_of (L n)) ≡ true) where
  behind_front : (m : ℕ) → is_nothing (class_of (L m)) ≡ false → G ≤ m
  behind_front m h = elim (cases_lt m G) [ inl w ↦ absurd (both_ways (is_nothing (class_of (L m))) h (front m w)) | inr w ↦ w ]

  pub form_faultless : InForm L N G → (n : ℕ) → n ≤ N → ¬ (OutOfForm L N n)
  form_faultless i n q (inl c) = c (i.fit n q)
  form_faultless i n q (inr (inl (m, w, inl j))) =
      omega (arith, w, j.2, i.once m, named_more L m (suc n) (suc N) (omega arith), times_append m (named L n) (names_of L n), named_part L m n j.0 j.1)
  form_faultless i n q (inr (inl (m, w, inr v))) = omega (arith, v, i.once m, named_part L m (suc N) n (omega arith))
  form_faultless i n q (inr (inr (inl (r, k, u)))) =
      let w = (named_where L N n (suc N)).0 (i.used n r (behind_front n k)) in u w.0 (omega (arith, w.1)) w.2
  form_faultless i n q (inr (inr (inr (inl (k, m))))) = both_ways (is_nothing (class_of (L n))) (i.kinds n q (omega (arith, m.1, behind_front m.0 m.2))) k
  form_faultless i n q (inr (inr (inr (inr (e, k))))) = both_ways (is_statement (class_of (L n))) k (ap (λ j. is_statement (class_of (L j))) e ∙ i.ends)

  module _ (back : G ≤ N → is_nothing (class_of (L G)) ≡ false) (h : (n : ℕ) → n ≤ N → ¬ (OutOfForm L N n)) where
    right : (n : ℕ) → n ≤ N → Each (RightField L N n) (fields (L n))
    right n q = elim (decided (fields_fit L n (fields (L n))) (finds_fields L N n (fields (L n)))) [ inl e ↦ e | inr u ↦ absurd (h n q (inl u)) ]

    once_to : (k : ℕ) → k ≤ suc N → (m : ℕ) → times m (named L k) ≤ 1
    once_to zero q m = omega arith
    once_to (suc k) q m = elim (cases_lt 0 (times m (names_of L k))) [
      | inl w ↦ elim (cases_lt 1 (times m (names_of L k))) [
        | inl v ↦ absurd (h k (omega arith) (inr (inl (m, w, inr v))))
        | inr v ↦ elim (cases_lt 0 (times m (named L k))) [
          | inl x ↦ absurd (h k (omega arith) (inr (inl (m, w, inl ((named_where L N m k).0 x)))))
          | inr x ↦ omega (arith, times_append m (named L k) (names_of L k))
        ]
      ]
      | inr w ↦ omega (arith, times_append m (named L k) (names_of L k), once_to k (omega arith) m)
    ]

    in_text : (n : ℕ) → n ≤ N → G ≤ n → is_nothing (class_of (L n)) ≡ false
    in_text n q r = elim (cases_Bool (is_nothing (class_of (L n)))) [
      | inl e ↦ absurd (h n q (inr (inr (inr (inl ((finds_late L N G front back n q).0 (and_from (leb G n) (is_nothing (class_of (L n))) (le-leb G n r) e)))))))
      | inr e ↦ e
    ]

    pub faultless_form : InForm L N G
    faultless_form = record {
      fit = right;
      once = once_to (suc N) (omega arith);
      used = λ n q r. elim (cases_lt 0 (times n (named L (suc N)))) [
        | inl w ↦ w
        | inr w ↦ absurd (h n (omega arith) (inr (inr (inl (q, in_text n (omega arith) r, λ j b c. omega (arith, named_part L n (suc N) j (omega arith)))))))
      ];
      kinds = in_text;
      ends = elim (cases_Bool (is_statement (class_of (L N)))) [ inl e ↦ e | inr e ↦ absurd (h N (omega arith) (inr (inr (inr (inr (refl, e)))))) ];
    }

-- ## What is handed down to each line

-- V is said of a part and what is around it (y), Own of a line alone. Where V holds of a line's part exactly if Own holds of the line and V of
-- the parts that it names, with what the line hands on around them (`inner`), V holds of the whole text exactly if Own holds of every line.
module _ (L : ℕ → Line) (N G : ℕ) (front : (n : ℕ) → n < G → is_nothing (class_of (L n)) ≡ true) (i : InForm L N G)
    {X : Type 0} (inner : (ℕ → Part) → ℕ → Line → X → X) (x : X) (V : X → Part → Type 0) (Own : X → ℕ → Line → Type 0)
    (step : (n : ℕ) (ps : List Part) (y : X) (l : Line) → Something (grown n ps l)
    → V y (grown n ps l) ↔ (Own y n l × Each (λ m. V (inner (λ m. get_or ps m other) n l y) (get_or ps m other)) (named_in (fields l))))
    (same : (P Q : ℕ → Part) (n : ℕ) (l : Line) (y : X) → Each (λ m. P m ≡ Q m) (named_in (fields l)) → inner P n l y ≡ inner Q n l y) where
  abbrev here : ℕ → X
  here n = around (inner (part L)) x L N N n

  abbrev Whole : ℕ → Type 0
  Whole n = V (here n) (part L n)

  abbrev handed_on : ℕ → X
  handed_on n = inner (λ m. get_or (grow grown L n) m other) n (L n) (here n)

  abbrev There : ℕ → ℕ → Type 0
  There n m = V (handed_on n) (get_or (grow grown L n) m other)

  -- what line n hands on is what is around the lines that it names, and their parts are those that it grows from
  abbrev Moved : ℕ → ℕ → Type 0
  Moved n m = (handed_on n ≡ here m) × (get_or (grow grown L n) m other ≡ part L m)

  moved : (n : ℕ) → n ≤ N → Each (Moved n) (names_of L n)
  moved n q = each_from (Moved n) (names_of L n) (λ m h. (
    same (λ m. get_or (grow grown L n) m other) (part L) n (L n) (here n) (each_map (λ m. m < n) (λ m. get_or (grow grown L n) m other ≡ part L m) (λ m b. grow_at grown L other n m b) (names_of L n) (valid L N G front i n q))
        ∙ sym (around_named L N G front i (inner (part L)) x n m q h),
    grow_at grown L other n m (times_each (λ m. m < n) m (names_of L n) (valid L N G front i n q) h),
  ))

  own_step : (n : ℕ) → G ≤ n → n ≤ N → Whole n ↔ (Own (here n) n (L n) × Each Whole (names_of L n))
  own_step n q r =
      let e : Whole n ↔ (Own (here n) n (L n) × Each (There n) (names_of L n)) = step n (grow grown L n) (here n) (L n) (some_part L N G front i n q r) in (
        (λ w. ((e.0 w).0, each_zip (Moved n) (There n) Whole (λ m p t. subst₂ V p.0 p.1 t) (names_of L n) (moved n r) (e.0 w).1)),
        (λ w. e.1 (w.0, each_zip (Moved n) Whole (There n) (λ m p t. subst₂ V (sym p.0) (sym p.1) t) (names_of L n) (moved n r) w.1)),
      )

  pub everywhere : ((n : ℕ) → G ≤ n → n ≤ N → Own (here n) n (L n)) ↔ V x (part L N)
  everywhere = (
    (λ h. subst (λ y. V y (part L N)) (around_last L N G front i (inner (part L)) x N)
        (gathers L N G front i Whole (λ n. Own (here n) n (L n)) own_step h (suc N) N (omega arith) (last_behind L N G front i) (omega arith))),
    (λ v. spreads L N G front i Whole (λ n. Own (here n) n (L n)) own_step (subst (λ y. V y (part L N)) (sym (around_last L N G front i (inner (part L)) x N)) v)),
  )

-- ## Names, declared and distinct

-- equal parts have equal procedures
pub listed_same : (P Q : ℕ → Part) (l : Line) → Each (λ m. P m ≡ Q m) (named_in (fields l)) → Each (λ m. procedures_of (P m) ≡ procedures_of (Q m)) (passed (naming l))
listed_same P Q l e = passed_named (λ m. procedures_of (P m) ≡ procedures_of (Q m)) l (each_map (λ m. P m ≡ Q m) (λ m. procedures_of (P m) ≡ procedures_of (Q m)) (λ m. ap procedures_of) (named_in (fields l)) e)

module _ (L : ℕ → Line) (N G : ℕ) (front : (n : ℕ) → n < G → is_nothing (class_of (L n)) ≡ true) (i : InForm L N G) where
  -- a test that passes every global passes all lines if it passes those behind the globals
  all_lines : (t : ℕ → Line → Bool) (b : Bool) → ((n c d : ℕ) → t n (Line.Global c d) ≡ b) → ((n : ℕ) → G ≤ n → n ≤ N → t n (L n) ≡ b) → (n : ℕ) → n ≤ N → t n (L n) ≡ b
  all_lines t b h r n q = elim (cases_lt n G) [
    | inl w ↦ let g : (a b : ℕ) × (L n ≡ Line.Global a b) = a_global (L n) (front n w) in ap (t n) g.2 ∙ h n g.0 g.1
    | inr w ↦ r n w q
  ]

  -- every line uses names of the scope that it stands in exactly if the text is well scoped
  pub scoped_lines : (s : Scope) → ((n : ℕ) → n ≤ N → declared (scope_at L N s n) (L n) ≡ true) ↔ ScopedPart s (part L N)
  scoped_lines s = ((λ h. there.0 (λ n q r. h n r)), (λ v. all_lines (λ n l. declared (scope_at L N s n) l) true (λ n c d. refl) (there.1 v)))
    where
      there : ((n : ℕ) → G ≤ n → n ≤ N → declared (scope_at L N s n) (L n) ≡ true) ↔ ScopedPart s (part L N)
      there = everywhere L N G front i (λ P. inside (λ m. procedures_of (P m))) s ScopedPart (λ y n l. declared y l ≡ true) scoped_step
          (λ P Q n l y e. inside_same (λ m. procedures_of (P m)) (λ m. procedures_of (Q m)) n (naming l) y (listed_same P Q l e))

  -- no procedure's line repeats a name exactly if the names of the text differ
  pub distinct_lines : ((n : ℕ) → n ≤ N → repeats (fellows_at L N n) n (L n) ≡ false) ↔ DifferPart [] (part L N)
  distinct_lines = ((λ h. there.0 (λ n q r. h n r)), (λ v. all_lines (λ n l. repeats (fellows_at L N n) n l) false (λ n c d. refl) (there.1 v)))
    where
      there : ((n : ℕ) → G ≤ n → n ≤ N → repeats (fellows_at L N n) n (L n) ≡ false) ↔ DifferPart [] (part L N)
      there = everywhere L N G front i (λ P. fellows (λ m. procedures_of (P m))) [] DifferPart (λ y n l. repeats y n l ≡ false) differ_step
          (λ P Q n l y e. fellows_same (λ m. procedures_of (P m)) (λ m. procedures_of (Q m)) (naming l) y (listed_same P Q l e))

-- ## The theorem

module _ (low high : ℤ) (ls : List Line) where
  abbrev L : ℕ → Line
  L = line ls

  abbrev N : ℕ
  N = length ls

  abbrev G : ℕ
  G = past_globals ls

  abbrev outer : Scope
  outer = (globals_of ls).scope

  pub the_form : IsScript low high ls → InForm L N G
  the_form s = tree_is_form L N G (front_of ls) (record { text = s.text; is = s.is; each_once = s.each_once })

  abbrev pub Faultless : Type 0
  Faultless = (r : Reason) (n : ℕ) → n ≤ N → ¬ (Fault low high ls r n)

  pub script_faultless : IsScript low high ls → Faultless
  script_faultless s out_of_form n q c = form_faultless L N G (front_of ls) (the_form s) n q c
  script_faultless s name_again n q (inl (m, a, b, c, z, r, e, f, w)) = both_ways (same_sort b c) (s.globals_differ m n a b c z r q e f) w
  script_faultless s name_again n q (inr p) = both_ways (repeats (fellows_at L N n) n (L n))
      ((distinct_lines L N G (front_of ls) (the_form s)).1 (subst (DifferPart []) (sym s.is) (distinct_differ s.text s.distinct)) n q) ((finds_repeats (fellows_at L N n) n (L n)).1 p)
  script_faultless s undeclared n q c = both_ways (declared (scope_at L N outer n) (L n))
      (not-true (declared (scope_at L N outer n) (L n)) ((finds_use L N (scope_at L N outer n) (L n)).1 c))
      ((scoped_lines L N G (front_of ls) (the_form s) outer).1 (subst (ScopedPart outer) (sym s.is) s.scoped) n q)
  script_faultless s too_deep n q c = omega (arith, s.shallow n q)
  script_faultless s out_of_kind n q (k, e, u) = u (s.of_kind n k q e)

  pub faultless_script : Faultless → IsScript low high ls
  faultless_script h =
      let i : InForm L N G = faultless_form L N G (front_of ls) (back_of ls) (h out_of_form) in
      let t : OneTree L N G = form_is_tree L N G (front_of ls) i in
      record {
        text = t.text;
        is = t.is;
        each_once = t.each_once;
        globals_differ = λ m n a b c z r q e f. elim (cases_Bool (same_sort b c)) [ inl w ↦ absurd (h name_again n q (inl (m, a, b, c, z, r, e, f, w))) | inr w ↦ w ];
        distinct = differ_distinct t.text (subst (λ p. (l : ℕ) → times l (declaring_lines_in p) ≤ 1) t.is (declares_once L N G (front_of ls) i)) (subst (DifferPart []) t.is
            ((distinct_lines L N G (front_of ls) i).0 (λ n q. (finds_none (repeats (fellows_at L N n) n (L n)) (finds_repeats (fellows_at L N n) n (L n))).1 (λ p. h name_again n q (inr p)))));
        scoped = subst (ScopedPart outer) t.is ((scoped_lines L N G (front_of ls) i outer).0
            (λ n q. not-false (declared (scope_at L N outer n) (L n)) ((finds_none (not (declared (scope_at L N outer n) (L n))) (finds_use L N (scope_at L N outer n) (L n))).1 (h undeclared n q))));
        shallow = λ n q. elim (cases_lt deepest_allowed (depth (part L n))) [ inl w ↦ absurd (h too_deep n q w) | inr w ↦ w ];
        of_kind = λ n k q e. elim (decided (le_z low k && le_z k high) (finds_in_kind low high k)) [ inl x ↦ x | inr u ↦ absurd (h out_of_kind n q (k, e, u)) ];
      }
