-- The procedures at a line are those of its part, so that what is around a line is told by parts too.
use Rattle.std.proofs.Common.{◌≡◌, ℕ, zero, suc, ◌<◌, ◌≤◌, true, ◌⊎◌, List, [], ◌++◌, get_or, sym, refl, ap, ◌∙◌, ap₂, arith}
use Rattle.lines.specs.declared.records.Line.{Line}
use Rattle.script.specs.Tree.{Part, grow, grown, other, part}
use Rattle.script.specs.Apart.{Scope}
use Rattle.script.specs.Lists.{Each}
use Rattle.script.specs.Fields.{class_of, is_nothing}
use Rattle.script.specs.Around.{around, fellows, fellows_at, handed, inside, naming, procedures_of, scope_at, user}
use Rattle.script.specs.Tests.{fellows_by_lines, procedures_at, procedures_by, scope_by_lines, under}
use Rattle.script.proofs.Lists.{each_map}
use Rattle.script.proofs.Grow.{grow_at}
use Rattle.script.proofs.Made.{Made, Something, made, nothing_there}
use Rattle.script.proofs.Naming.{fellows_same, inside_same, passed, passed_named, procedures_same}
use Rattle.script.proofs.Form.{InForm, names_of, some_part, valid}
use Rattle.script.proofs.Spread.{Behind, behind, user_behind}

module _ (n : ℕ) (ps : List Part) where
  abbrev at : ℕ → Part
  at m = get_or ps m other

  abbrev Lists : Line → Part → Type 0
  Lists l Q = Something Q → procedures_of Q ≡ procedures_by (λ m. procedures_of (at m)) n (naming l)

  list_cases : (l : Line) → Made (Lists l) n at l
  list_cases (Line.Global a b) = λ h. refl
  list_cases (Line.Constant k) = λ h. refl
  list_cases (Line.Simple a) = λ h. refl
  list_cases (Line.Element a b) = λ x u h. refl
  list_cases (Line.Operation o a b) = λ x u y v h. refl
  list_cases (Line.Comparison r a b) = λ x u y v h. refl
  list_cases (Line.Choice a b c) = λ x u y v z w h. refl
  list_cases (Line.Truth b) = λ h. refl
  list_cases (Line.Negation a) = λ x u h. refl
  list_cases (Line.Implication a b) = λ x u y v h. refl
  list_cases (Line.Assignment a b) = λ x u y v h. refl
  list_cases (Line.Sequence a b) = λ x u y v h. refl
  list_cases (Line.Branch a b c) = λ x u y v z w h. refl
  list_cases (Line.Call a b c) = λ x u y v h. refl
  list_cases (Line.NewSimple a b) = λ x u h. refl
  list_cases (Line.NewArray a b c) = λ x u h. refl
  list_cases (Line.System a b) = λ x u y v h. refl
  list_cases (Line.Procedure a b c d) = λ x u h. refl
  list_cases (Line.Join a b) = λ x u y v h. sym (ap₂ (λ p q. procedures_of p ++ procedures_of q) u v)

  pub list_step : (l : Line) → Lists l (grown n ps l)
  list_step l = made (Lists l) n ps l (λ u. nothing_there) (list_cases l)

module _ (L : ℕ → Line) (N G : ℕ) (front : (n : ℕ) → n < G → is_nothing (class_of (L n)) ≡ true) (i : InForm L N G) where
  abbrev listed : ℕ → List (ℕ × ℕ)
  listed m = procedures_of (part L m)

  under_is : (k n : ℕ) → n < k → G ≤ n → n ≤ N → under L n ≡ listed n
  under_is zero n q r s = absurd (omega arith)
  under_is (suc k) n q r s =
      procedures_same by_lines by_parts n (naming (L n)) (passed_named (λ m. by_lines m ≡ by_parts m) (L n)
      (each_map (Behind L N G front i n) (λ m. by_lines m ≡ by_parts m)
      (λ m b. grow_at procedures_at L [] n m b.1 ∙ under_is k m (omega arith) b.0 (omega arith) ∙ sym (ap procedures_of (grow_at grown L other n m b.1))) (names_of L n) (behind L N G front i n s)))
      ∙ sym (list_step n (grow grown L n) (L n) (some_part L N G front i n r s))
    where
      by_lines : ℕ → List (ℕ × ℕ)
      by_lines m = get_or (grow procedures_at L n) m []

      by_parts : ℕ → List (ℕ × ℕ)
      by_parts m = procedures_of (get_or (grow grown L n) m other)

  all_under : (n : ℕ) → n ≤ N → Each (λ m. under L m ≡ listed m) (passed (naming (L n)))
  all_under n q = passed_named (λ m. under L m ≡ listed m) (L n)
      (each_map (Behind L N G front i n) (λ m. under L m ≡ listed m) (λ m b. under_is (suc m) m (omega arith) b.0 (omega arith)) (names_of L n) (behind L N G front i n q))

  around_same : {X : Type 0} (f g : ℕ → Line → X → X) (x : X) → ((n : ℕ) (y : X) → n ≤ N → f n (L n) y ≡ g n (L n) y) → (k n : ℕ) → around f x L N k n ≡ around g x L N k n
  around_same f g x h zero n = refl
  around_same f g x h (suc k) n = go (user L (suc N) n) (around_same f g x h k (user L (suc N) n)) (user_behind L n (suc N) (λ j q. valid L N G front i j (omega arith)))
    where
      go : (u : ℕ) → around f x L N k u ≡ around g x L N k u → (u ≡ 0) ⊎ ((n < u) × (u < suc N)) → handed f x L N u (around f x L N k u) ≡ handed g x L N u (around g x L N k u)
      go zero e w = refl
      go (suc u) e w = h (suc u) (around f x L N k (suc u)) (omega arith) ∙ ap (g (suc u) (L (suc u))) e

  pub scope_listed : (s : Scope) (n : ℕ) → scope_by_lines L N s n ≡ scope_at L N s n
  scope_listed s n = around_same (inside (under L)) (inside listed) s (λ m y q. inside_same (under L) listed m (naming (L m)) y (all_under m q)) N n

  pub fellows_listed : (n : ℕ) → fellows_by_lines L N n ≡ fellows_at L N n
  fellows_listed n = around_same (fellows (under L)) (fellows listed) [] (λ m y q. fellows_same (under L) listed (naming (L m)) y (all_under m q)) N n
