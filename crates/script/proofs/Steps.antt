-- What a line's part says of its own names and of the parts that it names.
use Rattle.std.proofs.Common.{◌≡◌, ℕ, ◌<◌, Bool, true, false, ◌&&◌, ◌||◌, eqb, ltb, ◌↔◌, List, [], ◌∷◌, ◌++◌, get_or, sym, refl, ap, ◌∙◌, subst, ap₂, inl, inr}
use mathlib.Core.Path.{transport}
use Rattle.std.proofs.lemmas.Bool.{and_left, and_right, both_ways, cases_lt, eq-eqb, eqb-false, le-ltb, lt-ltb, ne_eqb, or_from, or_parts}
use Rattle.lines.specs.declared.records.Line.{Line}
use Rattle.script.specs.Script.{Declarations, Expression, Statement, assign, both, branch, call, joined, new_array, new_simple, procedure, system}
use Rattle.script.specs.Tree.{Part, condition, declarations, expression, grown, other, place, statement}
use Rattle.script.specs.Apart.{Scope, own, own_value, own_variable, with_array, with_procs, with_simple}
use Rattle.script.specs.Lists.{Each}
use Rattle.script.specs.Scoped.{Among, Scoped, ScopedCondition, ScopedDeclarations, ScopedExpression, ScopedPlace}
use Rattle.script.specs.Fields.{fields, named_in}
use Rattle.script.specs.Around.{fellows, inside, procedures, procedures_of, with_listed}
use Rattle.script.specs.Tests.{among, declared, repeats, taken_before}
use Rattle.script.proofs.Made.{Made, Something, made, nothing_there, worded, worded_same}

-- ## A whole's promise, part by part: what holds of the whole, of its own (O) and of its parts

module _ {O : Type 0} (o : O) where
  one_part : {A B : Type 0} → B ≡ A → A ↔ (O × (B × Unit {0}))
  one_part p = ((λ w. (o, (transport (sym p) w, tt))), (λ w. transport p w.1.0))

  two_parts : {A B C D : Type 0} → C ≡ A → D ≡ B → (A × B) ↔ (O × (C × (D × Unit {0})))
  two_parts p q = ((λ w. (o, (transport (sym p) w.0, (transport (sym q) w.1, tt)))), (λ w. (transport p w.1.0, transport q w.1.1.0)))

  three_parts : {A B C D E F : Type 0} → D ≡ A → E ≡ B → F ≡ C → (A × B × C) ↔ (O × (D × (E × (F × Unit {0}))))
  three_parts p q r = (
    (λ w. (o, (transport (sym p) w.0, (transport (sym q) w.1, (transport (sym r) w.2, tt))))),
    (λ w. (transport p w.1.0, transport q w.1.1.0, transport r w.1.1.1.0)),
  )

trivially : {B : Type 0} → B → Unit {0} ↔ B
trivially b = ((λ w. b), (λ w. tt))

-- ## The procedures of a part

listed_append : (us vs : List (ℕ × ℕ)) (s : Scope) → with_listed (us ++ vs) s ≡ with_listed vs (with_listed us s)
listed_append [] vs s = refl
listed_append (u ∷ us) vs s = listed_append us vs _

pub with_procs_listed : (d : Declarations) (s : Scope) → with_listed (procedures d) s ≡ with_procs d s
with_procs_listed (procedure l q x y b) s = refl
with_procs_listed (joined d e) s = listed_append (procedures d) (procedures e) s ∙ ap (with_listed (procedures e)) (with_procs_listed d s) ∙ with_procs_listed e (with_procs d s)

-- ## Names are declared

abbrev pub ScopedPart : Scope → Part → Type 0
ScopedPart s (place p) = ScopedPlace s p
ScopedPart s (expression e) = ScopedExpression s e
ScopedPart s (condition c) = ScopedCondition s c
ScopedPart s (statement t) = Scoped s t
ScopedPart s (declarations d) = ScopedDeclarations s d
ScopedPart s other = ⊥

pub among_is : (ps : List (ℕ × ℕ)) (n : ℕ) → Among ps n → among ps n ≡ true
among_is [] n h = absurd h
among_is (p ∷ ps) n h = go (eqb p.0 n) (among_is ps n) h
  where
    go : (b : Bool) → (Among ps n → among ps n ≡ true) → elim b as (λ x. Type 0) [ true ↦ Unit {0} | false ↦ Among ps n ] → (b || among ps n) ≡ true
    go true f h = refl
    go false f h = f h

pub is_among : (ps : List (ℕ × ℕ)) (n : ℕ) → among ps n ≡ true → Among ps n
is_among [] n h = absurd (both_ways false refl h)
is_among (p ∷ ps) n h = go (eqb p.0 n) (is_among ps n) h
  where
    go : (b : Bool) → (among ps n ≡ true → Among ps n) → (b || among ps n) ≡ true → elim b as (λ x. Type 0) [ true ↦ Unit {0} | false ↦ Among ps n ]
    go true f h = tt
    go false f h = f h

module _ (n : ℕ) (ps : List Part) (s : Scope) where
  abbrev at : ℕ → Part
  at m = get_or ps m other

  abbrev Scopes : Line → Part → Type 0
  Scopes l Q = Something Q → ScopedPart s Q ↔ ((declared s l ≡ true) × Each (λ m. ScopedPart (inside (λ m. procedures_of (at m)) n l s) (at m)) (named_in (fields l)))

  word : (y : Scope) (m : ℕ) (e : Expression) → worded (at m) ≡ expression e → ScopedPart y (at m) ≡ ScopedExpression y e
  word y m e w = worded_same (ScopedPart y) (λ p. refl) (at m) e w

  scope_cases : (l : Line) → Made (Scopes l) n at l
  scope_cases (Line.Global a b) = nothing_there
  scope_cases (Line.Constant k) = λ h. trivially (refl, tt)
  scope_cases (Line.Simple a) = λ h. ((λ w. (among_is s.simples a w, tt)), (λ w. is_among s.simples a w.0))
  scope_cases (Line.Element a b) = λ i u h. (
    (λ w. (among_is s.arrays a w.0, (transport (sym (word s b i u)) w.1, tt))),
    (λ w. (is_among s.arrays a w.0, transport (word s b i u) w.1.0)),
  )
  scope_cases (Line.Operation o a b) = λ e u f v h. two_parts refl (word s a e u) (word s b f v)
  scope_cases (Line.Comparison r a b) = λ e u f v h. two_parts refl (word s a e u) (word s b f v)
  scope_cases (Line.Choice a b c) = λ t u e v f w h. three_parts refl (ap (ScopedPart s) u) (word s b e v) (word s c f w)
  scope_cases (Line.Truth b) = λ h. trivially (refl, tt)
  scope_cases (Line.Negation a) = λ t u h. one_part refl (ap (ScopedPart s) u)
  scope_cases (Line.Implication a b) = λ t u r v h. two_parts refl (ap (ScopedPart s) u) (ap (ScopedPart s) v)
  scope_cases (Line.Assignment a b) = λ p u e v h. two_parts refl (ap (ScopedPart s) u) (word s b e v)
  scope_cases (Line.Sequence a b) = λ t u r v h. two_parts refl (ap (ScopedPart s) u) (ap (ScopedPart s) v)
  scope_cases (Line.Branch a b c) = λ t u r v q w h. three_parts refl (ap (ScopedPart s) u) (ap (ScopedPart s) v) (ap (ScopedPart s) w)
  scope_cases (Line.Call a b c) = λ e u p v h. (
    (λ w. (among_is s.procs a w.0, (transport (sym (word s b e u)) w.1, (subst (ScopedPart s) (sym v) w.2, tt)))),
    (λ w. (is_among s.procs a w.0, transport (word s b e u) w.1.0, subst (ScopedPart s) v w.1.1.0)),
  )
  scope_cases (Line.NewSimple a b) = λ t u h. one_part refl (ap (ScopedPart (with_simple a (own n) s)) u)
  scope_cases (Line.NewArray a b c) = λ t u h. one_part refl (ap (ScopedPart (with_array a (own n) s)) u)
  scope_cases (Line.System a b) = λ d u t v h. two_parts refl
      (ap (λ p. ScopedPart (with_listed (procedures_of p) s) p) u ∙ ap (λ y. ScopedDeclarations y d) (with_procs_listed d s))
      (ap₂ (λ p q. ScopedPart (with_listed (procedures_of p) s) q) u v ∙ ap (λ y. Scoped y t) (with_procs_listed d s))
  scope_cases (Line.Procedure a b c d) = λ t u h. one_part refl (ap (ScopedPart (with_simple c (own_variable n) (with_simple b (own_value n) s))) u)
  scope_cases (Line.Join a b) = λ d u e v h. two_parts refl (ap (ScopedPart s) u) (ap (ScopedPart s) v)

  pub scoped_step : (l : Line) → Scopes l (grown n ps l)
  scoped_step l = made (Scopes l) n ps l (λ u. nothing_there) (scope_cases l)

-- ## Names are distinct

-- no two formals of a procedure have one name, and no procedure of a system has that of one on a lower line
abbrev mutual
  pub Differ : Statement → Type 0
  Differ (assign l p e) = Unit {0}
  Differ (both l a b) = Differ a × Differ b
  Differ (branch l c a b) = Differ a × Differ b
  Differ (call l q e p) = Unit {0}
  Differ (new_simple l x a) = Differ a
  Differ (new_array l x n a) = Differ a
  Differ (system l d a) = DifferAmong (procedures d) d × Differ a

  pub DifferAmong : List (ℕ × ℕ) → Declarations → Type 0
  DifferAmong qs (procedure l q x y b) = (¬ (x ≡ y)) × Each (λ r. r.0 < l → ¬ (r.1 ≡ q)) qs × Differ b
  DifferAmong qs (joined d e) = DifferAmong qs d × DifferAmong qs e

abbrev pub DifferPart : List (ℕ × ℕ) → Part → Type 0
DifferPart qs (place p) = Unit {0}
DifferPart qs (expression e) = Unit {0}
DifferPart qs (condition c) = Unit {0}
DifferPart qs (statement t) = Differ t
DifferPart qs (declarations d) = DifferAmong qs d
DifferPart qs other = Unit {0}

not_taken : (n q : ℕ) (qs : List (ℕ × ℕ)) → Each (λ r. r.0 < n → ¬ (r.1 ≡ q)) qs → taken_before n q qs ≡ false
not_taken n q [] e = refl
not_taken n q (r ∷ qs) e = or_from (ltb r.0 n && eqb r.1 q) (taken_before n q qs)
    (elim (cases_lt r.0 n) [ inl w ↦ and_right (ltb r.0 n) (eqb r.1 q) (ne_eqb r.1 q (e.0 w)) | inr w ↦ and_left (ltb r.0 n) (eqb r.1 q) (le-ltb r.0 n w) ])
    (not_taken n q qs e.1)

taken_not : (n q : ℕ) (qs : List (ℕ × ℕ)) → taken_before n q qs ≡ false → Each (λ r. r.0 < n → ¬ (r.1 ≡ q)) qs
taken_not n q [] e = tt
taken_not n q (r ∷ qs) e =
    let p : ((ltb r.0 n && eqb r.1 q) ≡ false) × (taken_before n q qs ≡ false) = or_parts (ltb r.0 n && eqb r.1 q) (taken_before n q qs) e in
    ((λ w v. both_ways (ltb r.0 n && eqb r.1 q) p.0 (ap₂ ◌&&◌ (lt-ltb r.0 n w) (eq-eqb r.1 q v))), taken_not n q qs p.1)

module _ (n : ℕ) (ps : List Part) (qs : List (ℕ × ℕ)) where
  abbrev at' : ℕ → Part
  at' m = get_or ps m other

  abbrev Differs : Line → Part → Type 0
  Differs l Q = Something Q → DifferPart qs Q ↔ ((repeats qs n l ≡ false) × Each (λ m. DifferPart (fellows (λ m. procedures_of (at' m)) n l qs) (at' m)) (named_in (fields l)))

  -- an expression, and any other part that P is, has no procedures of its own to tell apart
  wordy : (m : ℕ) (e : Expression) → worded (at' m) ≡ expression e → DifferPart [] (at' m)
  wordy m e w = transport (sym (worded_same (DifferPart []) (λ p. refl) (at' m) e w)) tt

  plain : (m : ℕ) (P : Part) → at' m ≡ P → DifferPart [] P → DifferPart [] (at' m)
  plain m P w d = subst (DifferPart []) (sym w) d

  differ_cases : (l : Line) → Made (Differs l) n at' l
  differ_cases (Line.Global a b) = nothing_there
  differ_cases (Line.Constant k) = λ h. trivially (refl, tt)
  differ_cases (Line.Simple a) = λ h. trivially (refl, tt)
  differ_cases (Line.Element a b) = λ i u h. trivially (refl, (wordy b i u, tt))
  differ_cases (Line.Operation o a b) = λ e u f v h. trivially (refl, (wordy a e u, (wordy b f v, tt)))
  differ_cases (Line.Comparison r a b) = λ e u f v h. trivially (refl, (wordy a e u, (wordy b f v, tt)))
  differ_cases (Line.Choice a b c) = λ t u e v f w h. trivially (refl, (plain a (condition t) u tt, (wordy b e v, (wordy c f w, tt))))
  differ_cases (Line.Truth b) = λ h. trivially (refl, tt)
  differ_cases (Line.Negation a) = λ t u h. trivially (refl, (plain a (condition t) u tt, tt))
  differ_cases (Line.Implication a b) = λ t u r v h. trivially (refl, (plain a (condition t) u tt, (plain b (condition r) v tt, tt)))
  differ_cases (Line.Assignment a b) = λ p u e v h. trivially (refl, (plain a (place p) u tt, (wordy b e v, tt)))
  differ_cases (Line.Sequence a b) = λ t u r v h. two_parts refl (ap (DifferPart []) u) (ap (DifferPart []) v)
  differ_cases (Line.Branch a b c) = λ t u r v q w h. (
    (λ x. (refl, (plain a (condition t) u tt, (plain b (statement r) v x.0, (plain c (statement q) w x.1, tt))))),
    (λ x. (subst (DifferPart []) v x.1.1.0, subst (DifferPart []) w x.1.1.1.0)),
  )
  differ_cases (Line.Call a b c) = λ e u p v h. trivially (refl, (wordy b e u, (plain c (place p) v tt, tt)))
  differ_cases (Line.NewSimple a b) = λ t u h. one_part refl (ap (DifferPart []) u)
  differ_cases (Line.NewArray a b c) = λ t u h. one_part refl (ap (DifferPart []) u)
  differ_cases (Line.System a b) = λ d u t v h. two_parts refl (ap (λ p. DifferPart (procedures_of p) p) u) (ap₂ (λ p q. DifferPart (procedures_of p) q) u v)
  differ_cases (Line.Procedure a b c d) = λ t u h. (
    (λ w. (or_from (eqb b c) (taken_before n a qs) (ne_eqb b c w.0) (not_taken n a qs w.1), (plain d (statement t) u w.2, tt))),
    (λ w. let p : (eqb b c ≡ false) × (taken_before n a qs ≡ false) = or_parts (eqb b c) (taken_before n a qs) w.0 in
        (eqb-false b c p.0, taken_not n a qs p.1, subst (DifferPart []) u w.1.0)),
  )
  differ_cases (Line.Join a b) = λ d u e v h. two_parts refl (ap (DifferPart qs) u) (ap (DifferPart qs) v)

  pub differ_step : (l : Line) → Differs l (grown n ps l)
  differ_step l = made (Differs l) n ps l (λ u. nothing_there) (differ_cases l)
