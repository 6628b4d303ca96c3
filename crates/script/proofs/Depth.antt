-- Depths are told by lines.
use Rattle.std.proofs.Common.{◌≡◌, ℕ, zero, suc, ◌<◌, ◌≤◌, max, Bool, true, false, List, [], ◌∷◌, get_or, sym, refl, ap, ◌∙◌, ap₂, inl, inr, arith}
use Rattle.std.proofs.lemmas.Bool.{cases_lt}
use Rattle.lines.specs.declared.records.Line.{Line}
use Rattle.script.specs.Script.{Expression}
use Rattle.script.specs.Tree.{Part, at_line, expression, grow, grown, other, part}
use Rattle.script.specs.Lists.{Each}
use Rattle.script.specs.Fields.{class_of, fields, is_nothing, named_in}
use Rattle.script.specs.Depth.{depth, expression_depth}
use Rattle.script.specs.Tests.{deepest, depth_of, has_depth}
use Rattle.script.proofs.Lists.{each_map}
use Rattle.script.proofs.Grow.{grow_at}
use Rattle.script.proofs.Made.{Made, Something, made, nothing_there, worded, worded_same}
use Rattle.script.proofs.Globals.{a_global}
use Rattle.script.proofs.Form.{InForm, names_of, some_part}
use Rattle.script.proofs.Spread.{Behind, behind}

module _ (n : ℕ) (ps : List Part) where
  abbrev at : ℕ → Part
  at m = get_or ps m other

  abbrev Deep : Line → Part → Type 0
  Deep l Q = Something Q → depth Q ≡ elim (has_depth (class_of l)) [ true ↦ suc (deepest (λ m. depth (at m)) (named_in (fields l))) | false ↦ 0 ]

  word : (m : ℕ) (e : Expression) → worded (at m) ≡ expression e → depth (at m) ≡ expression_depth e
  word m e u = worded_same depth (λ p. refl) (at m) e u

  deep_cases : (l : Line) → Made (Deep l) n at l
  deep_cases (Line.Global a b) = λ h. refl
  deep_cases (Line.Constant k) = λ h. refl
  deep_cases (Line.Simple a) = λ h. refl
  deep_cases (Line.Element a b) = λ x u h. omega (arith, word b x u)
  deep_cases (Line.Operation o a b) = λ x u y v h. omega (arith, word a x u, word b y v)
  deep_cases (Line.Comparison r a b) = λ x u y v h. omega (arith, word a x u, word b y v)
  deep_cases (Line.Choice a b c) = λ x u y v z w h. omega (arith, ap depth u, word b y v, word c z w)
  deep_cases (Line.Truth b) = λ h. refl
  deep_cases (Line.Negation a) = λ x u h. omega (arith, ap depth u)
  deep_cases (Line.Implication a b) = λ x u y v h. omega (arith, ap depth u, ap depth v)
  deep_cases (Line.Assignment a b) = λ x u y v h. refl
  deep_cases (Line.Sequence a b) = λ x u y v h. refl
  deep_cases (Line.Branch a b c) = λ x u y v z w h. refl
  deep_cases (Line.Call a b c) = λ x u y v h. refl
  deep_cases (Line.NewSimple a b) = λ x u h. refl
  deep_cases (Line.NewArray a b c) = λ x u h. refl
  deep_cases (Line.System a b) = λ x u y v h. refl
  deep_cases (Line.Procedure a b c d) = λ x u h. refl
  deep_cases (Line.Join a b) = λ x u y v h. refl

  depth_step : (l : Line) → Deep l (grown n ps l)
  depth_step l = made (Deep l) n ps l (λ u. nothing_there) (deep_cases l)

deepest_same : (f g : ℕ → ℕ) (ms : List ℕ) → Each (λ m. f m ≡ g m) ms → deepest f ms ≡ deepest g ms
deepest_same f g [] e = refl
deepest_same f g (m ∷ ms) e = ap₂ max e.0 (deepest_same f g ms e.1)

module _ (L : ℕ → Line) (N G : ℕ) (front : (n : ℕ) → n < G → is_nothing (class_of (L n)) ≡ true) (i : InForm L N G) where
  abbrev when_deep : Bool → ℕ → ℕ
  when_deep b d = elim b [ true ↦ suc d | false ↦ 0 ]

  depth_is : (k n : ℕ) → n < k → G ≤ n → n ≤ N → at_line depth_of L n ≡ depth (part L n)
  depth_is zero n q r s = absurd (omega arith)
  depth_is (suc k) n q r s = ap (when_deep (has_depth (class_of (L n))))
      (deepest_same (λ m. get_or (grow depth_of L n) m 0) (λ m. depth (get_or (grow grown L n) m other)) (names_of L n)
      (each_map (Behind L N G front i n) (λ m. get_or (grow depth_of L n) m 0 ≡ depth (get_or (grow grown L n) m other))
      (λ m b. grow_at depth_of L 0 n m b.1 ∙ depth_is k m (omega arith) b.0 (omega arith) ∙ sym (ap depth (grow_at grown L other n m b.1))) (names_of L n) (behind L N G front i n s)))
      ∙ sym (depth_step n (grow grown L n) (L n) (some_part L N G front i n r s))

  pub depth_here : (n : ℕ) → n ≤ N → at_line depth_of L n ≡ depth (part L n)
  depth_here n q = elim (cases_lt n G) [
    | inl w ↦ let g : (a b : ℕ) × (L n ≡ Line.Global a b) = a_global (L n) (front n w) in
        ap (depth_of n (grow depth_of L n)) g.2 ∙ sym (ap (λ l. depth (grown n (grow grown L n) l)) g.2)
    | inr w ↦ depth_is (suc n) n (omega arith) w q
  ]
