-- The depth of the part at a line, from those at the lines that it names.
use Rattle.std.proofs.Common.{◌≡◌, ℕ, suc, min, max, Bool, false, cond, ltb, get_or, ℤ, Some, None, Option, sym, refl, ap, ◌∙◌, ap₂, inl, inr, arith}
use Rattle.std.proofs.lemmas.Bool.{cases_lt, le-ltb, lt-ltb}
use Rattle.lines.specs.declared.records.Line.{Line}
use Rattle.lines.specs.declared.sorts.Operator.{Operator}
use Rattle.lines.specs.declared.sorts.Relation.{Relation}
use Rattle.lines.specs.Ranges.{given}
use Rattle.script.specs.Script.{Condition, Declarations, Expression, Place, Statement, word_of}
use Rattle.script.specs.Tree.{Part, as_condition, as_declarations, as_expression, as_place, as_statement, condition, declarations, expression, grow, grown, other, part, place, statement}
use Rattle.script.specs.Depth.{condition_depth, deepest_allowed, depth, expression_depth, place_depth}
use Rattle.script.proofs.Grow.{grow_at, grow_beyond}
use Rattle.acceptance.proofs.Optional.{tested}
use Rattle.acceptance.specs.Depths.{above, as_condition_deep, as_expression_deep, counted, deeper, if_below}

-- what a line makes of the depths of the lines before it
module _ (E C : ℕ → Option ℕ) (n : ℕ) where
  abbrev pub expression_step : Line → Option ℕ
  expression_step (Line.Global a b) = None
  expression_step (Line.Constant k) = Some 1
  expression_step (Line.Simple a) = Some 1
  expression_step (Line.Element a b) = above (if_below n b (E b))
  expression_step (Line.Operation o a b) = above (deeper (if_below n a (E a)) (if_below n b (E b)))
  expression_step (Line.Comparison r a b) = None
  expression_step (Line.Choice a b c) = above (deeper (if_below n a (C a)) (deeper (if_below n b (E b)) (if_below n c (E c))))
  expression_step (Line.Truth b) = None
  expression_step (Line.Negation a) = None
  expression_step (Line.Implication a b) = None
  expression_step (Line.Assignment a b) = None
  expression_step (Line.Sequence a b) = None
  expression_step (Line.Branch a b c) = None
  expression_step (Line.Call a b c) = None
  expression_step (Line.NewSimple a b) = None
  expression_step (Line.NewArray a b c) = None
  expression_step (Line.System a b) = None
  expression_step (Line.Procedure a b c d) = None
  expression_step (Line.Join a b) = None

  abbrev pub condition_step : Line → Option ℕ
  condition_step (Line.Global a b) = None
  condition_step (Line.Constant k) = None
  condition_step (Line.Simple a) = None
  condition_step (Line.Element a b) = None
  condition_step (Line.Operation o a b) = None
  condition_step (Line.Comparison r a b) = above (deeper (if_below n a (E a)) (if_below n b (E b)))
  condition_step (Line.Choice a b c) = None
  condition_step (Line.Truth b) = Some 1
  condition_step (Line.Negation a) = above (if_below n a (C a))
  condition_step (Line.Implication a b) = above (deeper (if_below n a (C a)) (if_below n b (C b)))
  condition_step (Line.Assignment a b) = None
  condition_step (Line.Sequence a b) = None
  condition_step (Line.Branch a b c) = None
  condition_step (Line.Call a b c) = None
  condition_step (Line.NewSimple a b) = None
  condition_step (Line.NewArray a b c) = None
  condition_step (Line.System a b) = None
  condition_step (Line.Procedure a b c d) = None
  condition_step (Line.Join a b) = None

module _ (D : Part → Option ℕ) (none : D other ≡ None) where
  by_expression : (P : Part) (k : Expression → Part) (f : ℕ → Option ℕ) → ((x : Expression) → D (k x) ≡ f (expression_depth x)) → D (as_expression P k) ≡ given (as_expression_deep P) f
  by_expression (place p) k f h = h (word_of p)
  by_expression (expression e) k f h = h e
  by_expression (condition c) k f h = none
  by_expression (statement s) k f h = none
  by_expression (declarations d) k f h = none
  by_expression other k f h = none

  by_condition : (P : Part) (k : Condition → Part) (f : ℕ → Option ℕ) → ((x : Condition) → D (k x) ≡ f (condition_depth x)) → D (as_condition P k) ≡ given (as_condition_deep P) f
  by_condition (place p) k f h = none
  by_condition (expression e) k f h = none
  by_condition (condition c) k f h = h c
  by_condition (statement s) k f h = none
  by_condition (declarations d) k f h = none
  by_condition other k f h = none

  no_place : (P : Part) (k : Place → Part) → ((x : Place) → D (k x) ≡ None) → D (as_place P k) ≡ None
  no_place (place p) k h = h p
  no_place (expression e) k h = none
  no_place (condition c) k h = none
  no_place (statement s) k h = none
  no_place (declarations d) k h = none
  no_place other k h = none

  no_expression : (P : Part) (k : Expression → Part) → ((x : Expression) → D (k x) ≡ None) → D (as_expression P k) ≡ None
  no_expression (place p) k h = h (word_of p)
  no_expression (expression e) k h = h e
  no_expression (condition c) k h = none
  no_expression (statement s) k h = none
  no_expression (declarations d) k h = none
  no_expression other k h = none

  no_condition : (P : Part) (k : Condition → Part) → ((x : Condition) → D (k x) ≡ None) → D (as_condition P k) ≡ None
  no_condition (place p) k h = none
  no_condition (expression e) k h = none
  no_condition (condition c) k h = h c
  no_condition (statement s) k h = none
  no_condition (declarations d) k h = none
  no_condition other k h = none

  no_statement : (P : Part) (k : Statement → Part) → ((x : Statement) → D (k x) ≡ None) → D (as_statement P k) ≡ None
  no_statement (place p) k h = none
  no_statement (expression e) k h = none
  no_statement (condition c) k h = none
  no_statement (statement s) k h = h s
  no_statement (declarations d) k h = none
  no_statement other k h = none

  no_declarations : (P : Part) (k : Declarations → Part) → ((x : Declarations) → D (k x) ≡ None) → D (as_declarations P k) ≡ None
  no_declarations (place p) k h = none
  no_declarations (expression e) k h = none
  no_declarations (condition c) k h = none
  no_declarations (statement s) k h = none
  no_declarations (declarations d) k h = h d
  no_declarations other k h = none

counted_one : (o : Option ℕ) → counted (given o (λ a. Some (suc a))) ≡ above (counted o)
counted_one None = refl
counted_one (Some a) = ap Some (omega arith)

counted_two : (o p : Option ℕ) → counted (given o (λ a. given p (λ b. Some (suc (max a b))))) ≡ above (deeper (counted o) (counted p))
counted_two None p = refl
counted_two (Some a) None = refl
counted_two (Some a) (Some b) = ap Some (omega arith)

counted_three : (o p q : Option ℕ) → counted (given o (λ a. given p (λ b. given q (λ c. Some (suc (max a (max b c))))))) ≡ above (deeper (counted o) (deeper (counted p) (counted q)))
counted_three None p q = refl
counted_three (Some a) None q = refl
counted_three (Some a) (Some b) None = refl
counted_three (Some a) (Some b) (Some c) = ap Some (omega arith)

module _ (L : ℕ → Line) where
  abbrev pub expression_deep : ℕ → Option ℕ
  expression_deep m = counted (as_expression_deep (part L m))

  abbrev pub condition_deep : ℕ → Option ℕ
  condition_deep m = counted (as_condition_deep (part L m))

  module _ (n : ℕ) where
    abbrev at : ℕ → Part
    at m = get_or (grow grown L n) m other

    before : (F : Part → Option ℕ) → F other ≡ None → (m : ℕ) → F (at m) ≡ if_below n m (F (part L m))
    before F e m = elim (cases_lt m n) [
      | inl w ↦ ap F (grow_at grown L other n m w) ∙ sym (ap (λ b. cond b (F (part L m)) None) (lt-ltb m n w))
      | inr w ↦ ap F (grow_beyond grown L other n m w) ∙ (e ∙ sym (ap (λ b. cond b (F (part L m)) None) (le-ltb m n w)))
    ]

    E : (m : ℕ) → counted (as_expression_deep (at m)) ≡ if_below n m (expression_deep m)
    E m = before (λ P. counted (as_expression_deep P)) refl m

    C : (m : ℕ) → counted (as_condition_deep (at m)) ≡ if_below n m (condition_deep m)
    C m = before (λ P. counted (as_condition_deep P)) refl m

    one : (o X : Option ℕ) → counted o ≡ X → counted (given o (λ a. Some (suc a))) ≡ above X
    one o X e = counted_one o ∙ ap above e

    two : (o p X Y : Option ℕ) → counted o ≡ X → counted p ≡ Y → counted (given o (λ a. given p (λ c. Some (suc (max a c))))) ≡ above (deeper X Y)
    two o p X Y e f = counted_two o p ∙ ap above (ap₂ deeper e f)

    three : (o p q X Y Z : Option ℕ) → counted o ≡ X → counted p ≡ Y → counted q ≡ Z
        → counted (given o (λ a. given p (λ c. given q (λ u. Some (suc (max a (max c u))))))) ≡ above (deeper X (deeper Y Z))
    three o p q X Y Z e f g = counted_three o p q ∙ ap above (ap₂ deeper e (ap₂ deeper f g))

    expression_cases : (l : Line) → counted (as_expression_deep (grown n (grow grown L n) l)) ≡ expression_step expression_deep condition_deep n l
    expression_cases (Line.Global a b) = refl
    expression_cases (Line.Constant k) = refl
    expression_cases (Line.Simple a) = refl
    expression_cases (Line.Element a b) = ap counted (by_expression as_expression_deep refl (at b) _ (λ u. Some (suc (u))) (λ x. refl))
        ∙ one (as_expression_deep (at b)) _ (E b)
    expression_cases (Line.Operation o a b) = ap counted (by_expression as_expression_deep refl (at a) _ (λ u. given (as_expression_deep (at b)) (λ v. Some (suc (max u v)))) (λ x. by_expression as_expression_deep refl (at b) _ (λ v. Some (suc (max (expression_depth x) v))) (λ y. refl)))
        ∙ two (as_expression_deep (at a)) (as_expression_deep (at b)) _ _ (E a) (E b)
    expression_cases (Line.Comparison r a b) = ap counted (no_expression as_expression_deep refl (at a) _ (λ x. no_expression as_expression_deep refl (at b) _ (λ y. refl)))
    expression_cases (Line.Choice a b c) = ap counted (by_condition as_expression_deep refl (at a) _ (λ u. given (as_expression_deep (at b)) (λ v. given (as_expression_deep (at c)) (λ w. Some (suc (max u (max v w)))))) (λ x. by_expression as_expression_deep refl (at b) _ (λ v. given (as_expression_deep (at c)) (λ w. Some (suc (max (condition_depth x) (max v w))))) (λ y. by_expression as_expression_deep refl (at c) _ (λ w. Some (suc (max (condition_depth x) (max (expression_depth y) w)))) (λ z. refl))))
        ∙ three (as_condition_deep (at a)) (as_expression_deep (at b)) (as_expression_deep (at c)) _ _ _ (C a) (E b) (E c)
    expression_cases (Line.Truth b) = refl
    expression_cases (Line.Negation a) = ap counted (no_condition as_expression_deep refl (at a) _ (λ x. refl))
    expression_cases (Line.Implication a b) = ap counted (no_condition as_expression_deep refl (at a) _ (λ x. no_condition as_expression_deep refl (at b) _ (λ y. refl)))
    expression_cases (Line.Assignment a b) = ap counted (no_place as_expression_deep refl (at a) _ (λ x. no_expression as_expression_deep refl (at b) _ (λ y. refl)))
    expression_cases (Line.Sequence a b) = ap counted (no_statement as_expression_deep refl (at a) _ (λ x. no_statement as_expression_deep refl (at b) _ (λ y. refl)))
    expression_cases (Line.Branch a b c) = ap counted (no_condition as_expression_deep refl (at a) _ (λ x. no_statement as_expression_deep refl (at b) _ (λ y. no_statement as_expression_deep refl (at c) _ (λ z. refl))))
    expression_cases (Line.Call a b c) = ap counted (no_expression as_expression_deep refl (at b) _ (λ x. no_place as_expression_deep refl (at c) _ (λ y. refl)))
    expression_cases (Line.NewSimple a b) = ap counted (no_statement as_expression_deep refl (at b) _ (λ x. refl))
    expression_cases (Line.NewArray a b c) = ap counted (no_statement as_expression_deep refl (at c) _ (λ x. refl))
    expression_cases (Line.System a b) = ap counted (no_declarations as_expression_deep refl (at a) _ (λ x. no_statement as_expression_deep refl (at b) _ (λ y. refl)))
    expression_cases (Line.Procedure a b c d) = ap counted (no_statement as_expression_deep refl (at d) _ (λ x. refl))
    expression_cases (Line.Join a b) = ap counted (no_declarations as_expression_deep refl (at a) _ (λ x. no_declarations as_expression_deep refl (at b) _ (λ y. refl)))

    pub expression_at : (l : Line) → l ≡ L n → expression_deep n ≡ expression_step expression_deep condition_deep n l
    expression_at l e = expression_cases (L n) ∙ ap (expression_step expression_deep condition_deep n) (sym e)

    condition_cases : (l : Line) → counted (as_condition_deep (grown n (grow grown L n) l)) ≡ condition_step expression_deep condition_deep n l
    condition_cases (Line.Global a b) = refl
    condition_cases (Line.Constant k) = refl
    condition_cases (Line.Simple a) = refl
    condition_cases (Line.Element a b) = ap counted (no_expression as_condition_deep refl (at b) _ (λ x. refl))
    condition_cases (Line.Operation o a b) = ap counted (no_expression as_condition_deep refl (at a) _ (λ x. no_expression as_condition_deep refl (at b) _ (λ y. refl)))
    condition_cases (Line.Comparison r a b) = ap counted (by_expression as_condition_deep refl (at a) _ (λ u. given (as_expression_deep (at b)) (λ v. Some (suc (max u v)))) (λ x. by_expression as_condition_deep refl (at b) _ (λ v. Some (suc (max (expression_depth x) v))) (λ y. refl)))
        ∙ two (as_expression_deep (at a)) (as_expression_deep (at b)) _ _ (E a) (E b)
    condition_cases (Line.Choice a b c) = ap counted (no_condition as_condition_deep refl (at a) _ (λ x. no_expression as_condition_deep refl (at b) _ (λ y. no_expression as_condition_deep refl (at c) _ (λ z. refl))))
    condition_cases (Line.Truth b) = refl
    condition_cases (Line.Negation a) = ap counted (by_condition as_condition_deep refl (at a) _ (λ u. Some (suc (u))) (λ x. refl))
        ∙ one (as_condition_deep (at a)) _ (C a)
    condition_cases (Line.Implication a b) = ap counted (by_condition as_condition_deep refl (at a) _ (λ u. given (as_condition_deep (at b)) (λ v. Some (suc (max u v)))) (λ x. by_condition as_condition_deep refl (at b) _ (λ v. Some (suc (max (condition_depth x) v))) (λ y. refl)))
        ∙ two (as_condition_deep (at a)) (as_condition_deep (at b)) _ _ (C a) (C b)
    condition_cases (Line.Assignment a b) = ap counted (no_place as_condition_deep refl (at a) _ (λ x. no_expression as_condition_deep refl (at b) _ (λ y. refl)))
    condition_cases (Line.Sequence a b) = ap counted (no_statement as_condition_deep refl (at a) _ (λ x. no_statement as_condition_deep refl (at b) _ (λ y. refl)))
    condition_cases (Line.Branch a b c) = ap counted (no_condition as_condition_deep refl (at a) _ (λ x. no_statement as_condition_deep refl (at b) _ (λ y. no_statement as_condition_deep refl (at c) _ (λ z. refl))))
    condition_cases (Line.Call a b c) = ap counted (no_expression as_condition_deep refl (at b) _ (λ x. no_place as_condition_deep refl (at c) _ (λ y. refl)))
    condition_cases (Line.NewSimple a b) = ap counted (no_statement as_condition_deep refl (at b) _ (λ x. refl))
    condition_cases (Line.NewArray a b c) = ap counted (no_statement as_condition_deep refl (at c) _ (λ x. refl))
    condition_cases (Line.System a b) = ap counted (no_declarations as_condition_deep refl (at a) _ (λ x. no_statement as_condition_deep refl (at b) _ (λ y. refl)))
    condition_cases (Line.Procedure a b c d) = ap counted (no_statement as_condition_deep refl (at d) _ (λ x. refl))
    condition_cases (Line.Join a b) = ap counted (no_declarations as_condition_deep refl (at a) _ (λ x. no_declarations as_condition_deep refl (at b) _ (λ y. refl)))

    pub condition_at : (l : Line) → l ≡ L n → condition_deep n ≡ condition_step expression_deep condition_deep n l
    condition_at l e = condition_cases (L n) ∙ ap (condition_step expression_deep condition_deep n) (sym e)

-- of no other sort of line
pub expression_rest : (E C : ℕ → Option ℕ) (n : ℕ) (x : Line)
    → ((k : ℤ) → x ≡ Line.Constant k → ⊥) → ((a : ℕ) → x ≡ Line.Simple a → ⊥) → ((a b : ℕ) → x ≡ Line.Element a b → ⊥) → ((o : Operator) (a b : ℕ) → x ≡ Line.Operation o a b → ⊥) → ((a b c : ℕ) → x ≡ Line.Choice a b c → ⊥)
    → expression_step E C n x ≡ None
expression_rest E C n (Line.Global a b) h0 h1 h2 h3 h4 = refl
expression_rest E C n (Line.Constant k) h0 h1 h2 h3 h4 = absurd (h0 k refl)
expression_rest E C n (Line.Simple a) h0 h1 h2 h3 h4 = absurd (h1 a refl)
expression_rest E C n (Line.Element a b) h0 h1 h2 h3 h4 = absurd (h2 a b refl)
expression_rest E C n (Line.Operation o a b) h0 h1 h2 h3 h4 = absurd (h3 o a b refl)
expression_rest E C n (Line.Comparison r a b) h0 h1 h2 h3 h4 = refl
expression_rest E C n (Line.Choice a b c) h0 h1 h2 h3 h4 = absurd (h4 a b c refl)
expression_rest E C n (Line.Truth b) h0 h1 h2 h3 h4 = refl
expression_rest E C n (Line.Negation a) h0 h1 h2 h3 h4 = refl
expression_rest E C n (Line.Implication a b) h0 h1 h2 h3 h4 = refl
expression_rest E C n (Line.Assignment a b) h0 h1 h2 h3 h4 = refl
expression_rest E C n (Line.Sequence a b) h0 h1 h2 h3 h4 = refl
expression_rest E C n (Line.Branch a b c) h0 h1 h2 h3 h4 = refl
expression_rest E C n (Line.Call a b c) h0 h1 h2 h3 h4 = refl
expression_rest E C n (Line.NewSimple a b) h0 h1 h2 h3 h4 = refl
expression_rest E C n (Line.NewArray a b c) h0 h1 h2 h3 h4 = refl
expression_rest E C n (Line.System a b) h0 h1 h2 h3 h4 = refl
expression_rest E C n (Line.Procedure a b c d) h0 h1 h2 h3 h4 = refl
expression_rest E C n (Line.Join a b) h0 h1 h2 h3 h4 = refl

pub condition_rest : (E C : ℕ → Option ℕ) (n : ℕ) (x : Line)
    → ((b : Bool) → x ≡ Line.Truth b → ⊥) → ((r : Relation) (a b : ℕ) → x ≡ Line.Comparison r a b → ⊥) → ((a : ℕ) → x ≡ Line.Negation a → ⊥) → ((a b : ℕ) → x ≡ Line.Implication a b → ⊥)
    → condition_step E C n x ≡ None
condition_rest E C n (Line.Global a b) h0 h1 h2 h3 = refl
condition_rest E C n (Line.Constant k) h0 h1 h2 h3 = refl
condition_rest E C n (Line.Simple a) h0 h1 h2 h3 = refl
condition_rest E C n (Line.Element a b) h0 h1 h2 h3 = refl
condition_rest E C n (Line.Operation o a b) h0 h1 h2 h3 = refl
condition_rest E C n (Line.Comparison r a b) h0 h1 h2 h3 = absurd (h1 r a b refl)
condition_rest E C n (Line.Choice a b c) h0 h1 h2 h3 = refl
condition_rest E C n (Line.Truth b) h0 h1 h2 h3 = absurd (h0 b refl)
condition_rest E C n (Line.Negation a) h0 h1 h2 h3 = absurd (h2 a refl)
condition_rest E C n (Line.Implication a b) h0 h1 h2 h3 = absurd (h3 a b refl)
condition_rest E C n (Line.Assignment a b) h0 h1 h2 h3 = refl
condition_rest E C n (Line.Sequence a b) h0 h1 h2 h3 = refl
condition_rest E C n (Line.Branch a b c) h0 h1 h2 h3 = refl
condition_rest E C n (Line.Call a b c) h0 h1 h2 h3 = refl
condition_rest E C n (Line.NewSimple a b) h0 h1 h2 h3 = refl
condition_rest E C n (Line.NewArray a b c) h0 h1 h2 h3 = refl
condition_rest E C n (Line.System a b) h0 h1 h2 h3 = refl
condition_rest E C n (Line.Procedure a b c d) h0 h1 h2 h3 = refl
condition_rest E C n (Line.Join a b) h0 h1 h2 h3 = refl

-- whether a part is too deep is told by its depth counted up to 255
abbrev pub either_over : Option ℕ → Option ℕ → Bool
either_over (Some d) o = ltb deepest_allowed d
either_over None (Some d) = ltb deepest_allowed d
either_over None None = false

pub over_none : (o : Option ℕ) → tested (ltb 64) o ≡ either_over None o
over_none None = refl
over_none (Some d) = refl

counted_over : (d : ℕ) → ltb deepest_allowed d ≡ ltb deepest_allowed (min 255 d)
counted_over d = elim (cases_lt deepest_allowed d) [
  | inl w ↦ lt-ltb deepest_allowed d w ∙ sym (lt-ltb deepest_allowed (min 255 d) (omega arith))
  | inr w ↦ le-ltb deepest_allowed d w ∙ sym (le-ltb deepest_allowed (min 255 d) (omega arith))
]

pub over_is : (P : Part) → ltb deepest_allowed (depth P) ≡ either_over (counted (as_expression_deep P)) (counted (as_condition_deep P))
over_is (place p) = counted_over (place_depth p)
over_is (expression e) = counted_over (expression_depth e)
over_is (condition c) = counted_over (condition_depth c)
over_is (statement s) = refl
over_is (declarations d) = refl
over_is other = refl
