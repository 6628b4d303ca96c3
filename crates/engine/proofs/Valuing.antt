-- What a record says of the text that it stands for.
use Rattle.std.proofs.Common.{◌≡◌, ℕ, ◌<◌, Bool, true, false, cond, not, T, List, ℤ, Some, None, Option, Result, ok_or, ◌⊎◌, ⊎_elim, sym, refl, ap, ◌∙◌, subst, arith}
use Rattle.kinds.specs.Arithmetic.{Arithmetic, constant_word, holds as is_constant}
use Rattle.lines.specs.declared.sorts.Operator.{Operator}
use Rattle.lines.specs.declared.sorts.Relation.{Relation}
use Rattle.lines.specs.declared.records.Line.{Line}
use Rattle.lines.specs.declared.records.Declaration.{Declaration}
use Rattle.lines.specs.declared.records.Record.{Record}
use Rattle.script.specs.Names.{Names, cell, cells}
use Rattle.script.specs.Script.{Place, simple, element, fixed, Expression, constant, word_of, work, choose, Condition, truth, compared, negated, implies}
use Rattle.standing.specs.Records.{record_at, line_in, declaration_in, Tells}
use Rattle.standing.specs.Standing.{Says, StandsPlace, StandsExpression, StandsCondition}
use Rattle.rule.specs.Work.{Work, gives, faults, next}
use Rattle.rule.specs.Fine.{Kinds, a_simple, an_array, FinePlace, FineExpression, FineCondition}
use Rattle.rule.specs.Values.{cell_of, element_of, indexed, value, holds, cell_at}
use Rattle.engine.specs.declared.frame.Stand.{Stand}
use Rattle.engine.specs.declared.frame.Stand.TheVariants.{Cell, Cells}
use Rattle.faults.specs.declared.fault.Fault.{Fault}
use Rattle.faults.specs.declared.fault.Fault.TheVariants.{Refused}
use Rattle.faults.specs.Faults.{told}
use Rattle.engine.specs.Frames.{stands_as, SystemIs}
use Rattle.engine.specs.declared.frame.Frame.{Frame}
use Rattle.engine.specs.Working.{known_cell, known_element, OfKind, ValueIs, TruthIs, CellIs}
use mathlib.Core.Path.{transport}

pub inner : {A : Type 0} (a b : A) → Some a ≡ Some b → a ≡ b
inner a b e = cc

pub never : {A : Type 0} (a : A) → Some a ≡ None → ⊥
never a e = let z : ◌≡◌ {A = ℕ} 0 1 = cc in omega arith

module _ (G : Names) (rs : List Record) (κ : Kinds) where
  -- what a place, an expression, a condition is, by the line that it stands at and the declaration that is told there
  abbrev pub OfPlace : Line → Option Declaration → Place → ℕ → Type 0
  OfPlace (Line.Simple a) o p j = (x : ℕ) × (d : Declaration) × (p ≡ simple x) × (o ≡ Some d) × Tells G d x × (κ x ≡ a_simple)
  OfPlace (Line.Element a k) o p j =
      (x : ℕ) × (d : Declaration) × (i : Expression) × (p ≡ element x i) × (o ≡ Some d) × Tells G d x × (κ x ≡ an_array)
      × (k < j) × StandsExpression G rs i k × FineExpression κ i
  OfPlace _ o p j = ⊥

  abbrev pub OfWord : Line → Option Declaration → Expression → ℕ → Type 0
  OfWord (Line.Constant n) o e j = e ≡ constant n
  OfWord (Line.Simple a) o e j = (p : Place) × (e ≡ word_of p) × OfPlace (Line.Simple a) o p j
  OfWord (Line.Element a k) o e j = (p : Place) × (e ≡ word_of p) × OfPlace (Line.Element a k) o p j
  OfWord (Line.Operation q k l) o e j =
      (a : Expression) × (b : Expression) × (e ≡ work q a b)
      × (k < j) × StandsExpression G rs a k × FineExpression κ a × (l < j) × StandsExpression G rs b l × FineExpression κ b
  OfWord (Line.Choice h k l) o e j =
      (c : Condition) × (a : Expression) × (b : Expression) × (e ≡ choose c a b) × (h < j) × StandsCondition G rs c h × FineCondition κ c
      × (k < j) × StandsExpression G rs a k × FineExpression κ a × (l < j) × StandsExpression G rs b l × FineExpression κ b
  OfWord _ o e j = ⊥

  abbrev pub OfTruth : Line → Condition → ℕ → Type 0
  OfTruth (Line.Truth t) e j = e ≡ truth t
  OfTruth (Line.Comparison r k l) e j =
      (a : Expression) × (b : Expression) × (e ≡ compared r a b)
      × (k < j) × StandsExpression G rs a k × FineExpression κ a × (l < j) × StandsExpression G rs b l × FineExpression κ b
  OfTruth (Line.Negation k) e j = (c : Condition) × (e ≡ negated c) × (k < j) × StandsCondition G rs c k × FineCondition κ c
  OfTruth (Line.Implication k l) e j =
      (a : Condition) × (b : Condition) × (e ≡ implies a b)
      × (k < j) × StandsCondition G rs a k × FineCondition κ a × (l < j) × StandsCondition G rs b l × FineCondition κ b
  OfTruth _ e j = ⊥

  -- the line that a text has where it stands
  abbrev SaysPlace : Place → ℕ → Type 0
  SaysPlace p j = (l : Line) × Says rs j l × OfPlace l (declaration_in (record_at rs j)) p j

  says_place : (p : Place) (j : ℕ) → StandsPlace G rs p j → FinePlace κ p → SaysPlace p j
  says_place (simple x) j s f = (Line.Simple s.0, s.2, (x, s.1, refl, s.3, s.4, f))
  says_place (element a i) j s f = (Line.Element s.0 s.1, s.3, (a, s.2, i, refl, s.4, s.5, f.0, s.6, s.7, f.1))
  says_place (fixed a i) j s f = absurd s

  abbrev SaysWord : Expression → ℕ → Type 0
  SaysWord e j = (l : Line) × Says rs j l × OfWord l (declaration_in (record_at rs j)) e j

  says_word_of : (p : Place) (j : ℕ) → StandsPlace G rs p j → FinePlace κ p → SaysWord (word_of p) j
  says_word_of (simple x) j s f = (Line.Simple s.0, s.2, (simple x, refl, (x, s.1, refl, s.3, s.4, f)))
  says_word_of (element a i) j s f = (Line.Element s.0 s.1, s.3, (element a i, refl, (a, s.2, i, refl, s.4, s.5, f.0, s.6, s.7, f.1)))
  says_word_of (fixed a i) j s f = absurd s

  says_word : (e : Expression) (j : ℕ) → StandsExpression G rs e j → FineExpression κ e → SaysWord e j
  says_word (constant n) j s f = (Line.Constant n, s, refl)
  says_word (word_of p) j s f = says_word_of p j s f
  says_word (work o a b) j s f = (Line.Operation o s.0 s.1, s.2, (a, b, refl, s.3, s.4, f.0, s.5, s.6, f.1))
  says_word (choose c a b) j s f = (Line.Choice s.0 s.1 s.2, s.3, (c, a, b, refl, s.4, s.5, f.0, s.6, s.7, f.1, s.8, s.9, f.2))

  abbrev SaysTruth : Condition → ℕ → Type 0
  SaysTruth e j = (l : Line) × Says rs j l × OfTruth l e j

  says_truth : (e : Condition) (j : ℕ) → StandsCondition G rs e j → FineCondition κ e → SaysTruth e j
  says_truth (truth t) j s f = (Line.Truth t, s, refl)
  says_truth (compared r a b) j s f = (Line.Comparison r s.0 s.1, s.2, (a, b, refl, s.3, s.4, f.0, s.5, s.6, f.1))
  says_truth (negated c) j s f = (Line.Negation s.0, s.1, (c, refl, s.2, s.3, f))
  says_truth (implies c d) j s f = (Line.Implication s.0 s.1, s.2, (c, d, refl, s.3, s.4, f.0, s.5, s.6, f.1))

  same_line : (r : Record) (j : ℕ) (l m : Line) → Some r ≡ record_at rs j → r.line ≡ m → Says rs j l → l ≡ m
  same_line r j l m p q s = inner l r.line (sym s ∙ ap line_in (sym p)) ∙ q

  pub of_place : (e : Place) (j : ℕ) (r : Record) (m : Line) → Some r ≡ record_at rs j → r.line ≡ m → StandsPlace G rs e j → FinePlace κ e → OfPlace m r.declaration e j
  of_place e j r m p q s f =
      let t = says_place e j s f in
      subst (λ o. OfPlace m o e j) (ap declaration_in (sym p)) (subst (λ l. OfPlace l (declaration_in (record_at rs j)) e j) (same_line r j t.0 m p q t.1) t.2)

  pub of_word : (e : Expression) (j : ℕ) (r : Record) (m : Line) → Some r ≡ record_at rs j → r.line ≡ m → StandsExpression G rs e j → FineExpression κ e → OfWord m r.declaration e j
  of_word e j r m p q s f =
      let t = says_word e j s f in
      subst (λ o. OfWord m o e j) (ap declaration_in (sym p)) (subst (λ l. OfWord l (declaration_in (record_at rs j)) e j) (same_line r j t.0 m p q t.1) t.2)

  -- a line that is a variable's or an element's
  abbrev pub IsPlace : Line → Type 0
  IsPlace l = ((a : ℕ) × (l ≡ Line.Simple a)) ⊎ ((a : ℕ) × (b : ℕ) × (l ≡ Line.Element a b))

  pub of_variable : (e : Expression) (j : ℕ) (r : Record) → Some r ≡ record_at rs j → IsPlace r.line → StandsExpression G rs e j → FineExpression κ e
      → (p : Place) × (e ≡ word_of p) × StandsPlace G rs p j × FinePlace κ p
  of_variable e j r m v s f =
      let t : (p : Place) × (e ≡ word_of p) =
      ⊎_elim (λ x. let o = of_word e j r (Line.Simple x.0) m x.1 s f in (o.0, o.1)) (λ x. let o = of_word e j r (Line.Element x.0 x.1) m x.2 s f in (o.0, o.1)) v in
      (t.0, t.1, subst (λ z. StandsExpression G rs z j) t.1 s, subst (FineExpression κ) t.1 f)

  pub of_truth : (e : Condition) (j : ℕ) (r : Record) (m : Line) → Some r ≡ record_at rs j → r.line ≡ m → StandsCondition G rs e j → FineCondition κ e → OfTruth m e j
  of_truth e j r m p q s f = let t = says_truth e j s f in subst (λ l. OfTruth l e j) (same_line r j t.0 m p q t.1) t.2

  pub no_place : (e : Place) (j : ℕ) → None ≡ record_at rs j → StandsPlace G rs e j → FinePlace κ e → ⊥
  no_place e j p s f = let t = says_place e j s f in never t.0 (sym t.1 ∙ ap line_in (sym p))

  pub no_word : (e : Expression) (j : ℕ) → None ≡ record_at rs j → StandsExpression G rs e j → FineExpression κ e → ⊥
  no_word e j p s f = let t = says_word e j s f in never t.0 (sym t.1 ∙ ap line_in (sym p))

  pub no_truth : (e : Condition) (j : ℕ) → None ≡ record_at rs j → StandsCondition G rs e j → FineCondition κ e → ⊥
  no_truth e j p s f = let t = says_truth e j s f in never t.0 (sym t.1 ∙ ap line_in (sym p))

  -- a line of another sort
  not_place : (l : Line) (o : Option Declaration) (e : Place) (j : ℕ) → ((a : ℕ) → l ≡ Line.Simple a → ⊥) → ((a k : ℕ) → l ≡ Line.Element a k → ⊥) → OfPlace l o e j → ⊥
  not_place (Line.Simple a) o e j f h t = f a refl
  not_place (Line.Element a k) o e j f h t = h a k refl
  not_place _ o e j f h t = t

  pub other_place : (e : Place) (j : ℕ) (r : Record) → Some r ≡ record_at rs j → ((a : ℕ) → r.line ≡ Line.Simple a → ⊥) → ((a k : ℕ) → r.line ≡ Line.Element a k → ⊥)
      → StandsPlace G rs e j → FinePlace κ e → ⊥
  other_place e j r p f h s i = not_place r.line r.declaration e j f h (of_place e j r r.line p refl s i)

  not_word : (l : Line) (o : Option Declaration) (e : Expression) (j : ℕ) → ((n : ℤ) → l ≡ Line.Constant n → ⊥) → ((a : ℕ) → l ≡ Line.Simple a → ⊥) → ((a k : ℕ) → l ≡ Line.Element a k → ⊥)
      → ((q : Operator) (a b : ℕ) → l ≡ Line.Operation q a b → ⊥) → ((c a b : ℕ) → l ≡ Line.Choice c a b → ⊥) → OfWord l o e j → ⊥
  not_word (Line.Constant n) o e j f g h i k t = f n refl
  not_word (Line.Simple a) o e j f g h i k t = g a refl
  not_word (Line.Element a b) o e j f g h i k t = h a b refl
  not_word (Line.Operation q a b) o e j f g h i k t = i q a b refl
  not_word (Line.Choice c a b) o e j f g h i k t = k c a b refl
  not_word _ o e j f g h i k t = t

  pub other_word : (e : Expression) (j : ℕ) (r : Record) → Some r ≡ record_at rs j → ((n : ℤ) → r.line ≡ Line.Constant n → ⊥) → ((a : ℕ) → r.line ≡ Line.Simple a → ⊥)
      → ((a k : ℕ) → r.line ≡ Line.Element a k → ⊥) → ((q : Operator) (a b : ℕ) → r.line ≡ Line.Operation q a b → ⊥) → ((c a b : ℕ) → r.line ≡ Line.Choice c a b → ⊥)
      → StandsExpression G rs e j → FineExpression κ e → ⊥
  other_word e j r p f g h i k s w = not_word r.line r.declaration e j f g h i k (of_word e j r r.line p refl s w)

  not_truth : (l : Line) (e : Condition) (j : ℕ) → ((t : Bool) → l ≡ Line.Truth t → ⊥) → ((r : Relation) (a b : ℕ) → l ≡ Line.Comparison r a b → ⊥) → ((a : ℕ) → l ≡ Line.Negation a → ⊥)
      → ((a b : ℕ) → l ≡ Line.Implication a b → ⊥) → OfTruth l e j → ⊥
  not_truth (Line.Truth t) e j f g h i w = f t refl
  not_truth (Line.Comparison r a b) e j f g h i w = g r a b refl
  not_truth (Line.Negation a) e j f g h i w = h a refl
  not_truth (Line.Implication a b) e j f g h i w = i a b refl
  not_truth _ e j f g h i w = w

  pub other_truth : (e : Condition) (j : ℕ) (r : Record) → Some r ≡ record_at rs j → ((t : Bool) → r.line ≡ Line.Truth t → ⊥) → ((q : Relation) (a b : ℕ) → r.line ≡ Line.Comparison q a b → ⊥)
      → ((a : ℕ) → r.line ≡ Line.Negation a → ⊥) → ((a b : ℕ) → r.line ≡ Line.Implication a b → ⊥) → StandsCondition G rs e j → FineCondition κ e → ⊥
  other_truth e j r p f g h i s w = not_truth r.line e j f g h i (of_truth e j r r.line p refl s w)

-- a constant of the kind has its word
constant_by : (b : Bool) (w : ℕ) → T b → told (ok_or (cond b (Some w) None) Refused) ≡ gives w
constant_by true w t = refl
constant_by false w t = absurd t

cell_same : (c : ℕ) (s : Option Stand) → stands_as s ≡ cell c → known_cell s ≡ gives c
cell_same c None e = let z : ◌≡◌ {A = ℕ} 0 1 = cc in absurd (omega arith)
cell_same c (Some (Cell b)) e = let z : b ≡ c = cc in ap gives z
cell_same c (Some (Cells b n)) e = let z : ◌≡◌ {A = ℕ} 0 1 = cc in absurd (omega arith)

element_same : (b n : ℕ) (s : Option Stand) → stands_as s ≡ cells b n → known_element s ≡ element_of (cells b n)
element_same b n None e = let z : ◌≡◌ {A = ℕ} 0 1 = cc in absurd (omega arith)
element_same b n (Some (Cell c)) e = let z : ◌≡◌ {A = ℕ} 0 1 = cc in absurd (omega arith)
element_same b n (Some (Cells a m)) e = let z : a ≡ b = cc in let y : m ≡ n = cc in (λ i. element_of (cells (z i) (y i)))

-- what is worked from two parts: of both, or the first fault of them
module _ {A B : Type 0} (g : A → A → Work B) (x y : Work A) (z : Work B) (h : next x (λ v. next y (g v)) ≡ z) where
  pub of_both : (v w : A) → gives v ≡ x → gives w ≡ y → g v w ≡ z
  of_both v w p q = (λ i. next (p i) (λ v. next (q i) (g v))) ∙ h

  pub left_fault : (n : ℕ) → faults n ≡ x → faults n ≡ z
  left_fault n p = ap (λ x. next x (λ v. next y (g v))) p ∙ h

  pub right_fault : (v : A) (n : ℕ) → gives v ≡ x → faults n ≡ y → faults n ≡ z
  right_fault v n p q = (λ i. next (p i) (λ v. next (q i) (g v))) ∙ h

-- the part that is chosen is at the line that is chosen
pub pick : (P : Expression → ℕ → Type 0) (t : Bool) (a b : Expression) (k l : ℕ) → P a k → P b l → P (elim t [ true ↦ a | false ↦ b ]) (cond t k l)
pick P true a b k l x y = x
pick P false a b k l x y = y

-- the values of the texts, from those of their parts
module _ (K : Arithmetic) (E : Names) (f : ℕ → Work ℕ) where
  pub simple_cell : (x c : ℕ) (s : Option Stand) (p : Place) → E x ≡ cell c → E x ≡ stands_as s → p ≡ simple x → known_cell s ≡ cell_at K E f p
  simple_cell x c s p k q h = cell_same c s (sym q ∙ k) ∙ ap cell_of (sym k) ∙ ap (cell_at K E f) (sym h)

  -- the cell of an element, by the index that was worked
  module _ (a : ℕ) (i : Expression) (p : Place) (h : p ≡ element a i) where
    abbrev cell_of_element : Work ℕ → Work ℕ
    cell_of_element x = next x (λ w. next (indexed (K.index w)) (element_of (E a)))

    pub element_cell : (b n : ℕ) (s : Option Stand) (w m : ℕ) → E a ≡ cells b n → E a ≡ stands_as s → gives w ≡ value K E f i → K.index w ≡ Some m
        → known_element s m ≡ cell_at K E f p
    element_cell b n s w m k q r x =
        (λ j. (element_same b n s (sym q ∙ k) ∙ ap element_of (sym k)) j m) ∙ ap (λ o. next (indexed o) (element_of (E a))) (sym x) ∙ ap cell_of_element r ∙ ap (cell_at K E f) (sym h)

    pub element_none : (w : ℕ) → gives w ≡ value K E f i → K.index w ≡ None → faults 23 ≡ cell_at K E f p
    element_none w r x = ap (λ o. next (indexed o) (element_of (E a))) (sym x) ∙ ap cell_of_element r ∙ ap (cell_at K E f) (sym h)

    pub element_fault : (n : ℕ) → faults n ≡ value K E f i → faults n ≡ cell_at K E f p
    element_fault n r = ap cell_of_element r ∙ ap (cell_at K E f) (sym h)

  -- the word of a place, by its cell
  module _ (p : Place) (e : Expression) (h : e ≡ word_of p) where
    pub place_word : (c : ℕ) → gives c ≡ cell_at K E f p → f c ≡ value K E f e
    place_word c q = ap (λ y. next y f) q ∙ ap (value K E f) (sym h)

    pub place_fault : (n : ℕ) → faults n ≡ cell_at K E f p → faults n ≡ value K E f e
    place_fault n q = ap (λ y. next y f) q ∙ ap (value K E f) (sym h)

  abbrev chosen : Expression → Expression → Work Bool → Work ℕ
  chosen a b t = let x = value K E f a in let y = value K E f b in next t (λ u. elim u [ true ↦ x | false ↦ y ])

  pub choose_law : (c : Condition) (a b e : Expression) (t : Bool) → gives t ≡ holds K E f c → e ≡ choose c a b → value K E f (elim t [ true ↦ a | false ↦ b ]) ≡ value K E f e
  choose_law c a b e true p h = ap (chosen a b) p ∙ ap (value K E f) (sym h)
  choose_law c a b e false p h = ap (chosen a b) p ∙ ap (value K E f) (sym h)

  pub choose_fault : (c : Condition) (a b e : Expression) (n : ℕ) → faults n ≡ holds K E f c → e ≡ choose c a b → faults n ≡ value K E f e
  choose_fault c a b e n p h = ap (chosen a b) p ∙ ap (value K E f) (sym h)

  pub negated_law : (c e : Condition) (t : Bool) → gives t ≡ holds K E f c → e ≡ negated c → gives (not t) ≡ holds K E f e
  negated_law c e t p h = ap (λ y. next y (λ t. gives (not t))) p ∙ ap (holds K E f) (sym h)

  pub negated_fault : (c e : Condition) (n : ℕ) → faults n ≡ holds K E f c → e ≡ negated c → faults n ≡ holds K E f e
  negated_fault c e n p h = ap (λ y. next y (λ t. gives (not t))) p ∙ ap (holds K E f) (sym h)

  pub constant_law : (rs : List Record) (r : Record) (j : ℕ) (n : ℤ) (e : Expression) (w : Result ℕ Fault) → OfKind K rs → Some r ≡ record_at rs j → r.line ≡ Line.Constant n
      → w ≡ ok_or (constant_word K n) Refused → e ≡ constant n → told w ≡ value K E f e
  constant_law rs r j n e w o s q p h =
      ap told p ∙ constant_by (is_constant K n) (K.constant n) (o j n (ap line_in (sym s) ∙ ap Some q)) ∙ ap (value K E f) (sym h)

-- what was worked at a scene, said of what the scene was made from
module _ (K : Arithmetic) (below line : ℕ) (rs rs' : List Record) (fs fs' : List Frame) (k k' : ℕ) (σ σ' : List ℕ) (a : rs ≡ rs') (b : fs ≡ fs') (c : k ≡ k') (d : σ ≡ σ') where
  pub value_from : (r : Result ℕ Fault) → ValueIs K rs fs k σ below line r → ValueIs K rs' fs' k' σ' below line r
  value_from r v = transport (λ i. ValueIs K (a i) (b i) (c i) (d i) below line r) v

  pub truth_from : (r : Result Bool Fault) → TruthIs K rs fs k σ below line r → TruthIs K rs' fs' k' σ' below line r
  truth_from r v = transport (λ i. TruthIs K (a i) (b i) (c i) (d i) below line r) v

  pub cell_from : (r : Result ℕ Fault) → CellIs K rs fs k σ below line r → CellIs K rs' fs' k' σ' below line r
  cell_from r v = transport (λ i. CellIs K (a i) (b i) (c i) (d i) below line r) v

module _ (line : ℕ) (rs rs' : List Record) (fs fs' : List Frame) (k k' : ℕ) (a : rs ≡ rs') (b : fs ≡ fs') (c : k ≡ k') where
  pub system_from : (r : Option ℕ) → SystemIs rs fs k line r → SystemIs rs' fs' k' line r
  system_from r v = transport (λ i. SystemIs (a i) (b i) (c i) line r) v
