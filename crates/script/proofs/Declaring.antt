-- The lines of a sheet in form that declare something are distinct, and behind the globals.
use Rattle.std.proofs.Common.{◌≡◌, ℕ, zero, suc, ◌+◌, ◌<◌, ◌≤◌, true, false, eqb, List, [], ◌∷◌, get_or, sym, ap, ◌∙◌, inl, inr, arith}
use Rattle.std.proofs.lemmas.Bool.{both_ways, cases_eq, cases_lt, ne_eqb}
use Rattle.lines.specs.declared.records.Line.{Line}
use Rattle.script.specs.Tree.{Part, condition, declarations, expression, grow, grown, other, part, place, statement}
use Rattle.script.specs.Lists.{Each, one, times}
use Rattle.script.specs.Scoped.{declaring_lines, declaring_lines_of}
use Rattle.script.specs.Fields.{class_of, fields, is_nothing, named_in}
use Rattle.script.proofs.Lists.{each_map, one_false, times_append}
use Rattle.script.proofs.Grow.{grow_at}
use Rattle.script.proofs.Sums.{total}
use Rattle.script.proofs.Made.{Made, made, part_class}
use Rattle.script.proofs.Form.{InForm, at_most_once, count, count_step, names_of, reached, some_part, something, total_some, valid}
use Rattle.script.proofs.Spread.{last_behind}

abbrev pub declaring_lines_in : Part → List ℕ
declaring_lines_in (place p) = []
declaring_lines_in (expression e) = []
declaring_lines_in (condition c) = []
declaring_lines_in (statement s) = declaring_lines s
declaring_lines_in (declarations d) = declaring_lines_of d
declaring_lines_in other = []

-- a line declares at most its own, and what the lines that it names declare
module _ (l n : ℕ) (ps : List Part) where
  abbrev at : ℕ → Part
  at m = get_or ps m other

  abbrev held : Part → ℕ
  held P = times l (declaring_lines_in P)

  abbrev Few : Line → Part → Type 0
  Few k Q = held Q ≤ one (eqb n l) + total (λ m. held (at m)) (named_in (fields k))

  few_cases : (k : Line) → Made (Few k) n at k
  few_cases (Line.Global a b) = omega arith
  few_cases (Line.Constant k) = omega arith
  few_cases (Line.Simple a) = omega arith
  few_cases (Line.Element a b) = λ x u. omega arith
  few_cases (Line.Operation o a b) = λ x u y v. omega arith
  few_cases (Line.Comparison r a b) = λ x u y v. omega arith
  few_cases (Line.Choice a b c) = λ x u y v z w. omega arith
  few_cases (Line.Truth b) = omega arith
  few_cases (Line.Negation a) = λ x u. omega arith
  few_cases (Line.Implication a b) = λ x u y v. omega arith
  few_cases (Line.Assignment a b) = λ x u y v. omega arith
  few_cases (Line.Sequence a b) = λ x u y v. omega (arith, times_append l (declaring_lines x) (declaring_lines y), ap held u, ap held v)
  few_cases (Line.Branch a b c) = λ x u y v z w. omega (arith, times_append l (declaring_lines y) (declaring_lines z), ap held v, ap held w)
  few_cases (Line.Call a b c) = λ x u y v. omega arith
  few_cases (Line.NewSimple a b) = λ x u. omega (arith, ap held u)
  few_cases (Line.NewArray a b c) = λ x u. omega (arith, ap held u)
  few_cases (Line.System a b) = λ x u y v. omega (arith, times_append l (declaring_lines_of x) (declaring_lines y), ap held u, ap held v)
  few_cases (Line.Procedure a b c d) = λ x u. omega (arith, ap held u)
  few_cases (Line.Join a b) = λ x u y v. omega (arith, times_append l (declaring_lines_of x) (declaring_lines_of y), ap held u, ap held v)

  few_step : (k : Line) → Few k (grown n ps k)
  few_step k = made (Few k) n ps k (λ u. omega arith) (few_cases k)

total_le : (f g : ℕ → ℕ) (ms : List ℕ) → Each (λ m. f m ≤ g m) ms → total f ms ≤ total g ms
total_le f g [] e = omega arith
total_le f g (m ∷ ms) e = omega (arith, e.0, total_le f g ms e.1)

module _ (L : ℕ → Line) (N G : ℕ) (front : (n : ℕ) → n < G → is_nothing (class_of (L n)) ≡ true) (i : InForm L N G) where
  few : (l k n : ℕ) → n < k → n ≤ N → times l (declaring_lines_in (part L n)) ≤ count L l n
  few l zero n q r = absurd (omega arith)
  few l (suc k) n q r =
      let w : total (λ m. times l (declaring_lines_in (get_or (grow grown L n) m other))) (names_of L n) ≤ total (count L l) (names_of L n)
      = total_le (λ m. times l (declaring_lines_in (get_or (grow grown L n) m other))) (count L l) (names_of L n)
      (each_map (λ m. m < n) (λ m. times l (declaring_lines_in (get_or (grow grown L n) m other)) ≤ count L l m)
      (λ m b. omega (arith, few l k m (omega arith) (omega arith), ap (λ p. times l (declaring_lines_in p)) (grow_at grown L other n m b))) (names_of L n) (valid L N G front i n r)) in
      omega (arith, few_step l n (grow grown L n) (L n), count_step L l n (valid L N G front i n r))

  no_later : (l k n : ℕ) → n < k → n ≤ N → 1 ≤ count L l n → l ≤ n
  no_later l zero n q r h = absurd (omega arith)
  no_later l (suc k) n q r h = elim (cases_eq n l) [
    | inl e ↦ omega arith
    | inr e ↦ total_some (l ≤ n) (count L l) (names_of L n)
        (each_map (λ m. m < n) (λ m. 1 ≤ count L l m → l ≤ n) (λ m b c. omega (arith, no_later l k m (omega arith) (omega arith) c)) (names_of L n) (valid L N G front i n r))
        (omega (arith, count_step L l n (valid L N G front i n r), one_false (eqb n l) (ne_eqb n l e)))
  ]

  pub declares_range : (l : ℕ) → 1 ≤ times l (declaring_lines_in (part L N)) → (G ≤ l) × (l ≤ N)
  declares_range l h = (behind, no_later l (suc N) N (omega arith) (omega arith) stands)
    where
      stands : 1 ≤ count L l N
      stands = omega (arith, few l (suc N) N (omega arith) (omega arith))

      some_kind : is_nothing (class_of (L l)) ≡ false
      some_kind =
          let r : is_nothing (part_class (part L l)) ≡ false = reached L N G front l (suc N) N (omega arith) (some_part L N G front i N (last_behind L N G front i) (omega arith)) stands in
          ap is_nothing (sym (something L N G front l r).0) ∙ r

      behind : G ≤ l
      behind = elim (cases_lt l G) [ inl w ↦ absurd (both_ways (is_nothing (class_of (L l))) some_kind (front l w)) | inr w ↦ w ]

  pub declares_once : (l : ℕ) → times l (declaring_lines_in (part L N)) ≤ 1
  declares_once l = elim (cases_lt 0 (times l (declaring_lines_in (part L N)))) [
    | inl w ↦ omega (arith, few l (suc N) N (omega arith) (omega arith), at_most_once L N (valid L N G front i) i.once l (declares_range l w).1)
    | inr w ↦ omega arith
  ]
