-- What a program's passes over the lines need of the tests.
use Rattle.std.proofs.Common.{◌≡◌, ℕ, suc, ◌+◌, ◌<◌, Bool, true, false, ◌||◌, eqb, ltb, leb, List, [], ◌∷◌, length, ℤ, sym, refl, ap, ◌∙◌, ap₂, arith}
use Rattle.std.proofs.lemmas.Bool.{and_left, and_right, lt-leb, ne_eqb, or_from}
use Rattle.std.proofs.Math.Bool.{or_assoc}
use Rattle.lines.specs.declared.records.Line.{Line}
use Rattle.script.specs.Tree.{line}
use Rattle.script.specs.Apart.{Scope, past_globals}
use Rattle.script.specs.Lists.{one, times}
use Rattle.script.specs.Fields.{class_of, is_nothing}
use Rattle.script.specs.Around.{Naming, around, handed, inside_by, joins, opens_array, opens_body, opens_simple, opens_system, silent, user, uses_array, uses_procedure, uses_simple, with_listed}
use Rattle.script.specs.Causes.{Reason, name_again, out_of_form, out_of_kind, too_deep, undeclared}
use Rattle.script.specs.Tests.{again, among, ends_amiss, finds_fault, is_unnamed, late_global, named, names_again}
use Rattle.script.proofs.Lists.{times_append}
use Rattle.script.proofs.Form.{InForm, names_of}
use Rattle.script.proofs.Spread.{stable}

-- no test finds line 0 of a sheet with lines: a pass begins at line 1
module _ (low high : ℤ) (ls : List Line) (some_line : 0 < length ls) where
  abbrev L : ℕ → Line
  L = line ls

  abbrev N : ℕ
  N = length ls

  abbrev G : ℕ
  G = past_globals ls

  pub none_at_zero : (r : Reason) → finds_fault low high ls r 0 ≡ false
  none_at_zero out_of_form = or_from (names_again L 0) (is_unnamed L N 0 || (late_global L G 0 || ends_amiss L N 0)) refl
      (or_from (is_unnamed L N 0) (late_global L G 0 || ends_amiss L N 0) (and_right (ltb 0 N) false refl)
      (or_from (late_global L G 0) (ends_amiss L N 0) (and_left (leb G 0) true (lt-leb G 0 (omega arith))) (and_left (eqb 0 N) true (ne_eqb 0 N (λ e. omega arith)))))
  none_at_zero name_again = refl
  none_at_zero undeclared = refl
  none_at_zero too_deep = refl
  none_at_zero out_of_kind = refl

-- `again` asks only how often each line was named before: a list of flags does
pub again_flags : (ms us vs : List ℕ) → ((m : ℕ) → times m us ≡ times m vs) → again us ms ≡ again vs ms
again_flags [] us vs h = refl
again_flags (m ∷ ms) us vs h = ap₂ (λ x y. ltb 0 x || y) (h m) (again_flags ms (m ∷ us) (m ∷ vs) (λ j. ap (λ x. one (eqb m j) + x) (h j)))

pub named_next : (L : ℕ → Line) (m n : ℕ) → times m (named L (suc n)) ≡ times m (named L n) + times m (names_of L n)
named_next L m n = times_append m (named L n) (names_of L n)

-- ## The names that a line declares for the lines that it names

abbrev pub declares_simple : Naming → ℕ → Bool
declares_simple silent x = false
declares_simple (uses_simple a) x = false
declares_simple (uses_array a) x = false
declares_simple (uses_procedure a) x = false
declares_simple (opens_simple a) x = eqb a x
declares_simple (opens_array a) x = false
declares_simple (opens_system a) x = false
declares_simple (opens_body q y z) x = eqb z x || eqb y x
declares_simple (joins a b) x = false

abbrev pub declares_array : Naming → ℕ → Bool
declares_array silent x = false
declares_array (uses_simple a) x = false
declares_array (uses_array a) x = false
declares_array (uses_procedure a) x = false
declares_array (opens_simple a) x = false
declares_array (opens_array a) x = eqb a x
declares_array (opens_system a) x = false
declares_array (opens_body q y z) x = false
declares_array (joins a b) x = false

abbrev pub listed : List (ℕ × ℕ) → ℕ → Bool
listed [] q = false
listed (r ∷ rs) q = eqb r.1 q || listed rs q

abbrev pub declares_procedure : (ℕ → List (ℕ × ℕ)) → Naming → ℕ → Bool
declares_procedure Q silent x = false
declares_procedure Q (uses_simple a) x = false
declares_procedure Q (uses_array a) x = false
declares_procedure Q (uses_procedure a) x = false
declares_procedure Q (opens_simple a) x = false
declares_procedure Q (opens_array a) x = false
declares_procedure Q (opens_system a) x = listed (Q a) x
declares_procedure Q (opens_body q y z) x = false
declares_procedure Q (joins a b) x = false

pub or_swap : (a b c : Bool) → (a || (b || c)) ≡ (b || (a || c))
or_swap true true c = refl
or_swap true false c = refl
or_swap false b c = refl

listed_simples : (rs : List (ℕ × ℕ)) (s : Scope) → (with_listed rs s).simples ≡ s.simples
listed_simples [] s = refl
listed_simples (r ∷ rs) s = listed_simples rs _

listed_arrays : (rs : List (ℕ × ℕ)) (s : Scope) → (with_listed rs s).arrays ≡ s.arrays
listed_arrays [] s = refl
listed_arrays (r ∷ rs) s = listed_arrays rs _

listed_procs : (rs : List (ℕ × ℕ)) (s : Scope) (q : ℕ) → among (with_listed rs s).procs q ≡ (listed rs q || among s.procs q)
listed_procs [] s q = refl
listed_procs (r ∷ rs) s q = listed_procs rs _ q ∙ or_swap (listed rs q) (eqb r.1 q) (among s.procs q) ∙ sym (or_assoc (eqb r.1 q) (listed rs q) (among s.procs q))

module _ (Q : ℕ → List (ℕ × ℕ)) (n : ℕ) where
  pub inside_simples : (k : Naming) (s : Scope) (x : ℕ) → among (inside_by Q n k s).simples x ≡ (declares_simple k x || among s.simples x)
  inside_simples silent s x = refl
  inside_simples (uses_simple a) s x = refl
  inside_simples (uses_array a) s x = refl
  inside_simples (uses_procedure a) s x = refl
  inside_simples (opens_simple a) s x = refl
  inside_simples (opens_array a) s x = refl
  inside_simples (opens_system a) s x = ap (λ ps. among ps x) (listed_simples (Q a) s)
  inside_simples (opens_body q y z) s x = sym (or_assoc (eqb z x) (eqb y x) (among s.simples x))
  inside_simples (joins a b) s x = refl

  pub inside_arrays : (k : Naming) (s : Scope) (x : ℕ) → among (inside_by Q n k s).arrays x ≡ (declares_array k x || among s.arrays x)
  inside_arrays silent s x = refl
  inside_arrays (uses_simple a) s x = refl
  inside_arrays (uses_array a) s x = refl
  inside_arrays (uses_procedure a) s x = refl
  inside_arrays (opens_simple a) s x = refl
  inside_arrays (opens_array a) s x = refl
  inside_arrays (opens_system a) s x = ap (λ ps. among ps x) (listed_arrays (Q a) s)
  inside_arrays (opens_body q y z) s x = refl
  inside_arrays (joins a b) s x = refl

  pub inside_procs : (k : Naming) (s : Scope) (x : ℕ) → among (inside_by Q n k s).procs x ≡ (declares_procedure Q k x || among s.procs x)
  inside_procs silent s x = refl
  inside_procs (uses_simple a) s x = refl
  inside_procs (uses_array a) s x = refl
  inside_procs (uses_procedure a) s x = refl
  inside_procs (opens_simple a) s x = refl
  inside_procs (opens_array a) s x = refl
  inside_procs (opens_system a) s x = listed_procs (Q a) s x
  inside_procs (opens_body q y z) s x = refl
  inside_procs (joins a b) s x = refl

-- one step outwards, from a line to the line that names it, on a sheet in form
pub outwards : (L : ℕ → Line) (N G : ℕ) (front : (n : ℕ) → n < G → is_nothing (class_of (L n)) ≡ true) (i : InForm L N G) {X : Type 0} (inner : ℕ → Line → X → X) (x : X) (n : ℕ)
    → around inner x L N N n ≡ handed inner x L N (user L (suc N) n) (around inner x L N N (user L (suc N) n))
outwards L N G front i inner x n = stable L N G front i inner x N (suc N) n (omega arith) (omega arith)
