-- A sheet is in form exactly if it is the lines of one statement's tree behind some globals, each once.
use Rattle.std.proofs.Common.{◌≡◌, ℕ, zero, suc, ◌+◌, ◌*◌, ◌<◌, ◌≤◌, Bool, true, false, eqb, ◌⊎◌, List, [], ◌∷◌, get_or, sym, refl, ap, ◌∙◌, subst, ap₂, inl, inr, mul-le-mul_right, arith}
use Rattle.std.proofs.lemmas.Bool.{both_ways, cases_eq, cases_lt, eq-eqb, eqb-true, ne_eqb}
use Rattle.lines.specs.declared.records.Line.{Line}
use Rattle.script.specs.Script.{Statement}
use Rattle.script.specs.Tree.{Part, condition, declarations, expression, grow, grown, other, part, place, statement}
use Rattle.script.specs.Lists.{Each, one, times}
use Rattle.script.specs.Fields.{Class, Field, class_of, fields, fits, gathered, is_nothing, is_statement, named_in, of_condition, of_declarations, of_expression, of_nothing, of_place, of_statement, tree, tree_of}
use Rattle.script.specs.Tests.{named}
use Rattle.script.proofs.Lists.{each_append, each_map, each_zip, one_false, one_true, times_append, times_each, times_none}
use Rattle.script.proofs.Grow.{grow_at, grow_beyond}
use Rattle.script.proofs.Sums.{sum_add, sum_here, sum_le, sum_pick, sum_to, total, total_append, total_by_times, total_each}
use Rattle.script.proofs.Made.{Something, fitted, part_class}
use Rattle.script.proofs.Globals.{no_fields}

pub each_named : (P : ℕ → Type 0) (fs : List Field) → Each (λ f. P f.1) fs → Each P (named_in fs)
each_named P [] e = tt
each_named P (f ∷ fs) e = (e.0, each_named P fs e.1)

pub fits_nothing : (w : Class) → fits w of_nothing ≡ false
fits_nothing w = refl

pub fits_something : (w c : Class) → fits w c ≡ true → is_nothing c ≡ false
fits_something w of_nothing h = absurd (both_ways false refl h)
fits_something w of_place h = refl
fits_something w of_expression h = refl
fits_something w of_condition h = refl
fits_something w of_statement h = refl
fits_something w of_declarations h = refl

pub statement_part : (P : Part) → is_statement (part_class P) ≡ true → (s : Statement) × (P ≡ statement s)
statement_part (place p) h = absurd (both_ways false refl h)
statement_part (expression e) h = absurd (both_ways false refl h)
statement_part (condition c) h = absurd (both_ways false refl h)
statement_part (statement s) h = (s, refl)
statement_part (declarations d) h = absurd (both_ways false refl h)
statement_part other h = absurd (both_ways false refl h)

-- ## Counting the lines of the trees

times_gathered : (l : ℕ) (ts : List (List ℕ)) (ms : List ℕ) → times l (gathered ts ms) ≡ total (λ m. times l (get_or ts m [])) ms
times_gathered l ts [] = refl
times_gathered l ts (m ∷ ms) = times_append l (get_or ts m []) (gathered ts ms) ∙ omega (arith, times_gathered l ts ms)

pub total_some : (P : Type 0) (f : ℕ → ℕ) (ms : List ℕ) → Each (λ m. 1 ≤ f m → P) ms → 1 ≤ total f ms → P
total_some P f [] e h = absurd (omega arith)
total_some P f (m ∷ ms) e h = elim (cases_lt 0 (f m)) [ inl q ↦ e.0 q | inr q ↦ total_some P f ms e.1 (omega arith) ]

total_none : (f : ℕ → ℕ) (ms : List ℕ) → Each (λ m. f m ≡ 0) ms → total f ms ≡ 0
total_none f [] e = refl
total_none f (m ∷ ms) e = omega (arith, e.0, total_none f ms e.1)

module _ (L : ℕ → Line) where
  abbrev pub names_of : ℕ → List ℕ
  names_of n = named_in (fields (L n))

  abbrev pub count : ℕ → ℕ → ℕ
  count l j = times l (tree L j)

  pub count_step : (l j : ℕ) → Each (λ m. m < j) (names_of j) → count l j ≡ one (eqb j l) + total (count l) (names_of j)
  count_step l j v = ap (λ x. one (eqb j l) + x)
      (times_gathered l (grow tree_of L j) (names_of j)
      ∙ total_each (λ m. times l (get_or (grow tree_of L j) m [])) (count l) (names_of j)
      (each_map (λ m. m < j) (λ m. times l (get_or (grow tree_of L j) m []) ≡ count l m) (λ m q. ap (times l) (grow_at tree_of L [] j m q)) (names_of j) v))

  pub named_each : (P : ℕ → Type 0) (k : ℕ) → ((j : ℕ) → j < k → Each P (names_of j)) → Each P (named L k)
  named_each P zero h = tt
  named_each P (suc k) h = each_append P (named L k) (names_of k) (named_each P k (λ j q. h j (omega arith))) (h k (omega arith))

  telescoped : (l k : ℕ) → ((j : ℕ) → j < k → Each (λ m. m < j) (names_of j)) → sum_to (count l) k ≡ sum_to (λ j. one (eqb j l)) k + total (count l) (named L k)
  telescoped l zero v = refl
  telescoped l (suc k) v = omega (arith, telescoped l k (λ j q. v j (omega arith)), count_step l k (v k (omega arith)), total_append (count l) (named L k) (names_of k))

  pub named_part : (l k j : ℕ) → j < k → times l (names_of j) ≤ times l (named L k)
  named_part l zero j q = absurd (omega arith)
  named_part l (suc k) j q = elim (cases_eq j k) [
    | inl e ↦ omega (arith, times_append l (named L k) (names_of k), ap (λ i. times l (names_of i)) e)
    | inr e ↦ omega (arith, times_append l (named L k) (names_of k), named_part l k j (omega arith))
  ]

  module _ (N : ℕ) (v : (j : ℕ) → j ≤ N → Each (λ m. m < j) (names_of j)) where
    abbrev uses : ℕ → ℕ
    uses j = times j (named L (suc N))

    balance : (l : ℕ) → l ≤ N → sum_to (count l) N + count l N ≡ 1 + sum_to (λ j. uses j * count l j) N
    balance l q = telescoped l (suc N) (λ j r. v j (omega arith)) ∙ ap₂ (λ x y. x + y) (sum_here l (suc N) (omega arith))
        (total_by_times (count l) N (named L (suc N)) (named_each (λ m. m < N) (suc N)
        (λ j r. each_map (λ m. m < j) (λ m. m < N) (λ m s. omega arith) (names_of j) (v j (omega arith)))))

    pub at_most_once : ((j : ℕ) → uses j ≤ 1) → (l : ℕ) → l ≤ N → count l N ≤ 1
    at_most_once h l q = omega (arith, balance l q, sum_le (λ j. uses j * count l j) (count l) N (λ j r. omega (arith, mul-le-mul_right (count l j) (h j))))

    at_least_once : (l : ℕ) → l ≤ N → ((j : ℕ) → j < N → (1 ≤ uses j) ⊎ (count l j ≡ 0)) → 1 ≤ count l N
    at_least_once l q h = omega (arith, balance l q, sum_le (count l) (λ j. uses j * count l j) N (λ j r. go j (h j r)))
      where
        go : (j : ℕ) → (1 ≤ uses j) ⊎ (count l j ≡ 0) → count l j ≤ uses j * count l j
        go j (inl u) = omega (arith, mul-le-mul_right (count l j) u)
        go j (inr u) = omega arith

    -- a line that none names stands in no tree but its own
    unnamed_count : (l : ℕ) → uses l ≡ 0 → (k j : ℕ) → j < k → j ≤ N → count l j ≡ one (eqb j l)
    unnamed_count l u zero j q r = absurd (omega arith)
    unnamed_count l u (suc k) j q r =
        let z : total (count l) (names_of j) ≡ 0 = total_none (count l) (names_of j)
        (each_zip (λ m. m < j) (λ m. eqb m l ≡ false) (λ m. count l m ≡ 0)
        (λ m d e. unnamed_count l u k m (omega arith) (omega arith) ∙ one_false (eqb m l) e)
        (names_of j) (v j r) (times_none l (names_of j) (omega (arith, named_part l (suc N) j (omega arith))))) in
        omega (arith, count_step l j (v j r))

    -- the other way: a line named twice stands twice in the whole
    twice : (m : ℕ) → m < N → 2 ≤ uses m → ((j : ℕ) → j < N → (1 ≤ uses j) ⊎ (count m j ≡ 0)) → 2 ≤ count m N
    twice m q u h = omega (
      arith,
      balance m (omega arith),
      sum_add (count m) (λ j. one (eqb m j) * count m j) N,
      sum_pick (count m) m N q,
      one_true (eqb m m) (eq-eqb m m refl),
      sum_le (λ j. count m j + one (eqb m j) * count m j) (λ j. uses j * count m j) N (λ j r. at j (h j r) (eqb m j) refl),
    )
      where
        more : (j : ℕ) → (1 ≤ uses j) ⊎ (count m j ≡ 0) → count m j ≤ uses j * count m j
        more j (inl w) = omega (arith, mul-le-mul_right (count m j) w)
        more j (inr w) = omega arith

        at : (j : ℕ) → (1 ≤ uses j) ⊎ (count m j ≡ 0) → (b : Bool) → eqb m j ≡ b → count m j + one b * count m j ≤ uses j * count m j
        at j w true e = let d : 2 ≤ uses j = subst (λ i. 2 ≤ uses i) (eqb-true m j e) u in omega (arith, mul-le-mul_right (count m j) d)
        at j w false e = omega (arith, more j w)

-- ## In form

-- N is the last line, and G the first behind the globals: every field names an earlier line of the class wanted, every line behind the
-- globals is of the text and is named once, but for the last, a statement
pub record InForm (L : ℕ → Line) (N G : ℕ) : Type 0 where
  pub fit : (n : ℕ) → n ≤ N → Each (λ f. (f.1 < n) × (fits f.0 (class_of (L f.1)) ≡ true)) (fields (L n))
  pub once : (m : ℕ) → times m (named L (suc N)) ≤ 1
  pub used : (n : ℕ) → n < N → G ≤ n → 1 ≤ times n (named L (suc N))
  pub kinds : (n : ℕ) → n ≤ N → G ≤ n → is_nothing (class_of (L n)) ≡ false
  pub ends : is_statement (class_of (L N)) ≡ true

-- a tree of all lines behind the globals, each once
pub record OneTree (L : ℕ → Line) (N G : ℕ) : Type 0 where
  pub text : Statement
  pub is : part L N ≡ statement text
  pub each_once : (l : ℕ) → G ≤ l → l ≤ N → times l (tree L N) ≡ 1

module _ (L : ℕ → Line) (N G : ℕ) (front : (n : ℕ) → n < G → is_nothing (class_of (L n)) ≡ true) where
  global_count : (l j : ℕ) → j < G → G ≤ l → count L l j ≡ 0
  global_count l j q r = ap (λ fs. one (eqb j l) + times l (gathered (grow tree_of L j) (named_in fs))) (no_fields (L j) (front j q))
      ∙ omega (arith, one_false (eqb j l) (ne_eqb j l (λ e. omega arith)))

  module _ (i : InForm L N G) where
    pub valid : (j : ℕ) → j ≤ N → Each (λ m. m < j) (names_of L j)
    valid j q = each_named (λ m. m < j) (fields (L j)) (each_map (λ f. (f.1 < j) × (fits f.0 (class_of (L f.1)) ≡ true)) (λ f. f.1 < j) (λ f h. h.0) (fields (L j)) (i.fit j q))

    pub part_classes : (k n : ℕ) → n < k → n ≤ N → part_class (part L n) ≡ class_of (L n)
    part_classes zero n q r = absurd (omega arith)
    part_classes (suc k) n q r = (fitted n (grow grown L n) (L n)).0
        (each_map (λ f. (f.1 < n) × (fits f.0 (class_of (L f.1)) ≡ true)) (λ f. fits f.0 (part_class (get_or (grow grown L n) f.1 other)) ≡ true)
        (λ f h. ap (λ p. fits f.0 (part_class p)) (grow_at grown L other n f.1 h.0) ∙ ap (fits f.0) (part_classes k f.1 (omega arith) (omega arith)) ∙ h.1)
        (fields (L n)) (i.fit n r))

    pub some_part : (n : ℕ) → G ≤ n → n ≤ N → Something (part L n)
    some_part n q r = ap is_nothing (part_classes (suc n) n (omega arith) r) ∙ i.kinds n r q

    pub form_is_tree : OneTree L N G
    form_is_tree = record {
      text = t.0;
      is = t.1;
      each_once = λ l q r. omega (arith, at_most_once L N valid i.once l r, at_least_once L N valid l r (λ j s. named_or_front l j q s (cases_lt j G)));
    }
      where
        t : (s : Statement) × (part L N ≡ statement s)
        t = statement_part (part L N) (ap is_statement (part_classes (suc N) N (omega arith) (omega arith)) ∙ i.ends)

        named_or_front : (l j : ℕ) → G ≤ l → j < N → (j < G) ⊎ (G ≤ j) → (1 ≤ times j (named L (suc N))) ⊎ (count L l j ≡ 0)
        named_or_front l j q s (inl w) = inr (global_count l j w q)
        named_or_front l j q s (inr w) = inl (i.used j s w)

  -- a part that is something has parts that fit
  pub something : (n : ℕ) → Something (part L n)
      → (part_class (part L n) ≡ class_of (L n)) × Each (λ f. (f.1 < n) × (fits f.0 (part_class (part L f.1)) ≡ true)) (fields (L n))
  something n h = (
    (fitted n (grow grown L n) (L n)).0 e,
    each_map (λ f. fits f.0 (s f.1) ≡ true) (λ f. (f.1 < n) × (fits f.0 (part_class (part L f.1)) ≡ true)) (λ f w. at f w (cases_lt f.1 n)) (fields (L n)) e,
  )
    where
      s : ℕ → Class
      s m = part_class (get_or (grow grown L n) m other)

      e : Each (λ f. fits f.0 (s f.1) ≡ true) (fields (L n))
      e = (fitted n (grow grown L n) (L n)).1 h

      at : (f : Field) → fits f.0 (s f.1) ≡ true → (f.1 < n) ⊎ (n ≤ f.1) → (f.1 < n) × (fits f.0 (part_class (part L f.1)) ≡ true)
      at f w (inl q) = (q, ap (λ p. fits f.0 (part_class p)) (sym (grow_at grown L other n f.1 q)) ∙ w)
      at f w (inr q) = absurd (both_ways (fits f.0 of_nothing) (fits_nothing f.0) (ap (λ p. fits f.0 (part_class p)) (sym (grow_beyond grown L other n f.1 q)) ∙ w))

  pub reached : (l k n : ℕ) → n < k → Something (part L n) → 1 ≤ count L l n → Something (part L l)
  reached l zero n q h c = absurd (omega arith)
  reached l (suc k) n q h c =
      let w : Each (λ f. (f.1 < n) × (fits f.0 (part_class (part L f.1)) ≡ true)) (fields (L n)) = (something n h).1 in
      let v : Each (λ m. m < n) (names_of L n) = each_named (λ m. m < n) (fields (L n))
      (each_map (λ f. (f.1 < n) × (fits f.0 (part_class (part L f.1)) ≡ true)) (λ f. f.1 < n) (λ f x. x.0) (fields (L n)) w) in
      let u : Each (λ m. 1 ≤ count L l m → Something (part L l)) (names_of L n)
      = each_named (λ m. 1 ≤ count L l m → Something (part L l)) (fields (L n))
      (each_map (λ f. (f.1 < n) × (fits f.0 (part_class (part L f.1)) ≡ true)) (λ f. 1 ≤ count L l f.1 → Something (part L l))
      (λ f x d. reached l k f.1 (omega arith) (fits_something f.0 (part_class (part L f.1)) x.1) d) (fields (L n)) w) in
      elim (cases_eq n l) [
        | inl e ↦ ap (λ i. is_nothing (part_class (part L i))) (sym e) ∙ h
        | inr e ↦ total_some (Something (part L l)) (count L l) (names_of L n) u
            (omega (arith, count_step L l n v, one_false (eqb n l) (ne_eqb n l e)))
      ]

  module _ (t : OneTree L N G) where
    abbrev Fit : ℕ → Field → Type 0
    Fit n f = (f.1 < n) × (fits f.0 (class_of (L f.1)) ≡ true)

    all_parts : (l : ℕ) → G ≤ l → l ≤ N → Something (part L l)
    all_parts l q r = reached l (suc N) N (omega arith) (ap (λ p. is_nothing (part_class p)) t.is) (omega (arith, t.each_once l q r))

    all_fit : (n : ℕ) → n ≤ N → Each (Fit n) (fields (L n))
    all_fit n q = elim (cases_lt n G) [
      | inl w ↦ subst (Each (Fit n)) (sym (no_fields (L n) (front n w))) tt
      | inr w ↦ each_map (λ f. (f.1 < n) × (fits f.0 (part_class (part L f.1)) ≡ true)) (Fit n)
          (λ f x. (x.0, ap (fits f.0) (sym (something f.1 (fits_something f.0 (part_class (part L f.1)) x.1)).0) ∙ x.1)) (fields (L n)) (something n (all_parts n w q)).1
    ]

    earlier : (j : ℕ) → j ≤ N → Each (λ m. m < j) (names_of L j)
    earlier j q = each_named (λ m. m < j) (fields (L j)) (each_map (Fit j) (λ f. f.1 < j) (λ f x. x.0) (fields (L j)) (all_fit j q))

    all_used : (n : ℕ) → n < N → G ≤ n → 1 ≤ times n (named L (suc N))
    all_used n q r = elim (cases_lt 0 (times n (named L (suc N)))) [
      | inl w ↦ w
      | inr w ↦ absurd (omega (arith, unnamed_count L N earlier n (omega arith) (suc N) N (omega arith) (omega arith), one_false (eqb N n) (ne_eqb N n (λ e. omega arith)), t.each_once n r (omega arith)))
    ]

    abbrev Nameable : ℕ → Type 0
    Nameable m = (m < N) × (is_nothing (class_of (L m)) ≡ false)

    nameable : Each Nameable (named L (suc N))
    nameable = named_each L Nameable (suc N) (λ j q. each_named Nameable (fields (L j))
        (each_map (Fit j) (λ f. Nameable f.1) (λ f x. (omega arith, fits_something f.0 (class_of (L f.1)) x.1)) (fields (L j)) (all_fit j (omega arith))))

    behind : (m : ℕ) → is_nothing (class_of (L m)) ≡ false → G ≤ m
    behind m h = elim (cases_lt m G) [ inl w ↦ absurd (both_ways (is_nothing (class_of (L m))) h (front m w)) | inr w ↦ w ]

    used_or_front : (l j : ℕ) → G ≤ l → j < N → (1 ≤ times j (named L (suc N))) ⊎ (count L l j ≡ 0)
    used_or_front l j q r = elim (cases_lt j G) [ inl w ↦ inr (global_count l j w q) | inr w ↦ inl (all_used j r w) ]

    all_once : (m : ℕ) → times m (named L (suc N)) ≤ 1
    all_once m = elim (cases_lt 1 (times m (named L (suc N)))) [
      | inl w ↦
          let x : Nameable m = times_each Nameable m (named L (suc N)) nameable (omega arith) in
          let g : G ≤ m = behind m x.1 in
          absurd (omega (arith, twice L N earlier m x.0 w (λ j r. used_or_front m j g r), t.each_once m g (omega arith)))
      | inr w ↦ w
    ]

    pub tree_is_form : InForm L N G
    tree_is_form = record {
      fit = all_fit;
      once = all_once;
      used = all_used;
      kinds = λ n q r. ap is_nothing (sym (something n (all_parts n r q)).0) ∙ all_parts n r q;
      ends = ap is_statement (sym (something N (ap (λ p. is_nothing (part_class p)) t.is)).0) ∙ ap (λ p. is_statement (part_class p)) t.is;
    }
