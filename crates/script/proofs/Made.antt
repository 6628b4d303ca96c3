-- How a line's part is made of the parts of the lines that it names: the one walk that proofs about parts go by.
use Rattle.std.proofs.Common.{◌≡◌, ℕ, true, false, List, get_or, sym, refl, ap, ◌∙◌, inl, inr}
use Rattle.std.proofs.lemmas.Bool.{both_ways}
use Rattle.lines.specs.declared.records.Line.{Line}
use Rattle.script.specs.Script.{Condition, Declarations, Expression, Place, Statement, assign, both, branch, call, choose, compared, constant, element, implies, joined, negated, new_array, new_simple, procedure, simple, system, truth, word_of, work}
use Rattle.script.specs.Tree.{Part, as_condition, as_declarations, as_expression, as_place, as_statement, condition, declarations, expression, grown, other, place, statement}
use Rattle.script.specs.Lists.{Any, Each}
use Rattle.script.specs.Fields.{Class, Field, class_of, fields, fits, is_nothing, of_condition, of_declarations, of_expression, of_nothing, of_place, of_statement}
use Rattle.script.proofs.Lists.{each_any}

abbrev pub part_class : Part → Class
part_class (place p) = of_place
part_class (expression e) = of_expression
part_class (condition c) = of_condition
part_class (statement s) = of_statement
part_class (declarations d) = of_declarations
part_class other = of_nothing

-- a part of a script
abbrev pub Something : Part → Type 0
Something P = is_nothing (part_class P) ≡ false

pub nothing_there : {A : Type 0} → Something other → A
nothing_there h = absurd (both_ways true h refl)

-- a part as it stands where an expression is wanted: a place stands for its word
abbrev pub worded : Part → Part
worded (place p) = expression (word_of p)
worded (expression e) = expression e
worded (condition c) = condition c
worded (statement s) = statement s
worded (declarations d) = declarations d
worded other = other

-- what tells no place from its word tells no part from the expression that it stands for
pub worded_same {ℓ} : {X : Type ℓ} (V : Part → X) → ((p : Place) → V (expression (word_of p)) ≡ V (place p)) → (P : Part) (e : Expression) → worded P ≡ expression e → V P ≡ V (expression e)
worded_same V same P e s = sym (go P) ∙ ap V s
  where
    go : (P : Part) → V (worded P) ≡ V P
    go (place p) = same p
    go (expression e) = refl
    go (condition c) = refl
    go (statement s) = refl
    go (declarations d) = refl
    go other = refl

abbrev pub Unfit : Class → Part → Type 0
Unfit w P = fits w (part_class P) ≡ false

module _ (M : Part → Type 0) where
  by_place : (P : Part) (f : Place → Part) → (Unfit of_place P → M other) → ((p : Place) → P ≡ place p → M (f p)) → M (as_place P f)
  by_place (place p) f o g = g p refl
  by_place (expression e) f o g = o refl
  by_place (condition c) f o g = o refl
  by_place (statement s) f o g = o refl
  by_place (declarations d) f o g = o refl
  by_place other f o g = o refl

  by_expression : (P : Part) (f : Expression → Part) → (Unfit of_expression P → M other) → ((e : Expression) → worded P ≡ expression e → M (f e)) → M (as_expression P f)
  by_expression (place p) f o g = g (word_of p) refl
  by_expression (expression e) f o g = g e refl
  by_expression (condition c) f o g = o refl
  by_expression (statement s) f o g = o refl
  by_expression (declarations d) f o g = o refl
  by_expression other f o g = o refl

  by_condition : (P : Part) (f : Condition → Part) → (Unfit of_condition P → M other) → ((c : Condition) → P ≡ condition c → M (f c)) → M (as_condition P f)
  by_condition (place p) f o g = o refl
  by_condition (expression e) f o g = o refl
  by_condition (condition c) f o g = g c refl
  by_condition (statement s) f o g = o refl
  by_condition (declarations d) f o g = o refl
  by_condition other f o g = o refl

  by_statement : (P : Part) (f : Statement → Part) → (Unfit of_statement P → M other) → ((s : Statement) → P ≡ statement s → M (f s)) → M (as_statement P f)
  by_statement (place p) f o g = o refl
  by_statement (expression e) f o g = o refl
  by_statement (condition c) f o g = o refl
  by_statement (statement s) f o g = g s refl
  by_statement (declarations d) f o g = o refl
  by_statement other f o g = o refl

  by_declarations : (P : Part) (f : Declarations → Part) → (Unfit of_declarations P → M other) → ((d : Declarations) → P ≡ declarations d → M (f d)) → M (as_declarations P f)
  by_declarations (place p) f o g = o refl
  by_declarations (expression e) f o g = o refl
  by_declarations (condition c) f o g = o refl
  by_declarations (statement s) f o g = o refl
  by_declarations (declarations d) f o g = g d refl
  by_declarations other f o g = o refl

-- M holds of what line n is made to, where the parts P of the lines that it names fit
module _ (M : Part → Type 0) (n : ℕ) (P : ℕ → Part) where
  abbrev pub Made : Line → Type 0
  Made (Line.Global a b) = M other
  Made (Line.Constant k) = M (expression (constant k))
  Made (Line.Simple a) = M (place (simple a))
  Made (Line.Element a b) = (i : Expression) → worded (P b) ≡ expression i → M (place (element a i))
  Made (Line.Operation o a b) = (e : Expression) → worded (P a) ≡ expression e → (f : Expression) → worded (P b) ≡ expression f → M (expression (work o e f))
  Made (Line.Comparison r a b) = (e : Expression) → worded (P a) ≡ expression e → (f : Expression) → worded (P b) ≡ expression f → M (condition (compared r e f))
  Made (Line.Choice a b c) = (t : Condition) → P a ≡ condition t → (e : Expression) → worded (P b) ≡ expression e → (f : Expression) → worded (P c) ≡ expression f → M (expression (choose t e f))
  Made (Line.Truth b) = M (condition (truth b))
  Made (Line.Negation a) = (t : Condition) → P a ≡ condition t → M (condition (negated t))
  Made (Line.Implication a b) = (t : Condition) → P a ≡ condition t → (u : Condition) → P b ≡ condition u → M (condition (implies t u))
  Made (Line.Assignment a b) = (p : Place) → P a ≡ place p → (e : Expression) → worded (P b) ≡ expression e → M (statement (assign n p e))
  Made (Line.Sequence a b) = (s : Statement) → P a ≡ statement s → (t : Statement) → P b ≡ statement t → M (statement (both n s t))
  Made (Line.Branch a b c) = (t : Condition) → P a ≡ condition t → (s : Statement) → P b ≡ statement s → (u : Statement) → P c ≡ statement u → M (statement (branch n t s u))
  Made (Line.Call a b c) = (e : Expression) → worded (P b) ≡ expression e → (p : Place) → P c ≡ place p → M (statement (call n a e p))
  Made (Line.NewSimple a b) = (s : Statement) → P b ≡ statement s → M (statement (new_simple n a s))
  Made (Line.NewArray a b c) = (s : Statement) → P c ≡ statement s → M (statement (new_array n a b s))
  Made (Line.System a b) = (d : Declarations) → P a ≡ declarations d → (s : Statement) → P b ≡ statement s → M (statement (system n d s))
  Made (Line.Procedure a b c d) = (s : Statement) → P d ≡ statement s → M (declarations (procedure n a b c s))
  Made (Line.Join a b) = (d : Declarations) → P a ≡ declarations d → (e : Declarations) → P b ≡ declarations e → M (declarations (joined d e))

-- ... and holds of it in any case, if it holds of no part where one does not fit
module _ (M : Part → Type 0) (n : ℕ) (ps : List Part) where
  abbrev at : ℕ → Part
  at m = get_or ps m other

  abbrev Misfit : Line → Type 0
  Misfit l = Any (λ f. Unfit f.0 (at f.1)) (fields l)

  pub made : (l : Line) → (Misfit l → M other) → Made M n at l → M (grown n ps l)
  made (Line.Global a b) o g = g
  made (Line.Constant k) o g = g
  made (Line.Simple a) o g = g
  made (Line.Element a b) o g = by_expression M (at b) _ (λ u. o (inl u)) g
  made (Line.Operation r a b) o g = by_expression M (at a) _ (λ u. o (inl u)) (λ e s. by_expression M (at b) _ (λ u. o (inr (inl u))) (g e s))
  made (Line.Comparison r a b) o g = by_expression M (at a) _ (λ u. o (inl u)) (λ e s. by_expression M (at b) _ (λ u. o (inr (inl u))) (g e s))
  made (Line.Choice a b c) o g = by_condition M (at a) _ (λ u. o (inl u)) (λ t s. by_expression M (at b) _ (λ u. o (inr (inl u))) (λ e r. by_expression M (at c) _ (λ u. o (inr (inr (inl u)))) (g t s e r)))
  made (Line.Truth b) o g = g
  made (Line.Negation a) o g = by_condition M (at a) _ (λ u. o (inl u)) g
  made (Line.Implication a b) o g = by_condition M (at a) _ (λ u. o (inl u)) (λ t s. by_condition M (at b) _ (λ u. o (inr (inl u))) (g t s))
  made (Line.Assignment a b) o g = by_place M (at a) _ (λ u. o (inl u)) (λ p s. by_expression M (at b) _ (λ u. o (inr (inl u))) (g p s))
  made (Line.Sequence a b) o g = by_statement M (at a) _ (λ u. o (inl u)) (λ t s. by_statement M (at b) _ (λ u. o (inr (inl u))) (g t s))
  made (Line.Branch a b c) o g = by_condition M (at a) _ (λ u. o (inl u)) (λ t s. by_statement M (at b) _ (λ u. o (inr (inl u))) (λ e r. by_statement M (at c) _ (λ u. o (inr (inr (inl u)))) (g t s e r)))
  made (Line.Call a b c) o g = by_expression M (at b) _ (λ u. o (inl u)) (λ e s. by_place M (at c) _ (λ u. o (inr (inl u))) (g e s))
  made (Line.NewSimple a b) o g = by_statement M (at b) _ (λ u. o (inl u)) g
  made (Line.NewArray a b c) o g = by_statement M (at c) _ (λ u. o (inl u)) g
  made (Line.System a b) o g = by_declarations M (at a) _ (λ u. o (inl u)) (λ d s. by_statement M (at b) _ (λ u. o (inr (inl u))) (g d s))
  made (Line.Procedure a b c d) o g = by_statement M (at d) _ (λ u. o (inl u)) g
  made (Line.Join a b) o g = by_declarations M (at a) _ (λ u. o (inl u)) (λ d s. by_declarations M (at b) _ (λ u. o (inr (inl u))) (g d s))

-- a part is something exactly if the parts of its line's fields fit, and then it is of its line's class
module _ (n : ℕ) (ps : List Part) where
  abbrev Fit : Field → Type 0
  Fit f = fits f.0 (part_class (get_or ps f.1 other)) ≡ true

  abbrev Fitted : Line → Part → Type 0
  Fitted l Q = (Each Fit (fields l) → part_class Q ≡ class_of l) × (Something Q → Each Fit (fields l))

  word : (m : ℕ) (e : Expression) → worded (get_or ps m other) ≡ expression e → Fit (of_expression, m)
  word m e s = worded_same (λ Q. fits of_expression (part_class Q)) (λ p. refl) (get_or ps m other) e s

  just : (w : Class) (m : ℕ) (P : Part) → get_or ps m other ≡ P → fits w (part_class P) ≡ true → Fit (w, m)
  just w m P s r = ap (λ Q. fits w (part_class Q)) s ∙ r

  fit_cases : (l : Line) → Made (Fitted l) n (λ m. get_or ps m other) l
  fit_cases (Line.Global a b) = ((λ x. refl), (λ h. tt))
  fit_cases (Line.Constant k) = ((λ x. refl), (λ h. tt))
  fit_cases (Line.Simple a) = ((λ x. refl), (λ h. tt))
  fit_cases (Line.Element a b) = λ i s. ((λ x. refl), (λ h. (word b i s, tt)))
  fit_cases (Line.Operation o a b) = λ e s f t. ((λ x. refl), (λ h. (word a e s, (word b f t, tt))))
  fit_cases (Line.Comparison r a b) = λ e s f t. ((λ x. refl), (λ h. (word a e s, (word b f t, tt))))
  fit_cases (Line.Choice a b c) = λ u s e t f v. ((λ x. refl), (λ h. (just of_condition a (condition u) s refl, (word b e t, (word c f v, tt)))))
  fit_cases (Line.Truth b) = ((λ x. refl), (λ h. tt))
  fit_cases (Line.Negation a) = λ u s. ((λ x. refl), (λ h. (just of_condition a (condition u) s refl, tt)))
  fit_cases (Line.Implication a b) = λ u s v t. ((λ x. refl), (λ h. (just of_condition a (condition u) s refl, (just of_condition b (condition v) t refl, tt))))
  fit_cases (Line.Assignment a b) = λ p s e t. ((λ x. refl), (λ h. (just of_place a (place p) s refl, (word b e t, tt))))
  fit_cases (Line.Sequence a b) = λ u s v t. ((λ x. refl), (λ h. (just of_statement a (statement u) s refl, (just of_statement b (statement v) t refl, tt))))
  fit_cases (Line.Branch a b c) = λ u s v t w r. ((λ x. refl), (λ h. (just of_condition a (condition u) s refl, (just of_statement b (statement v) t refl, (just of_statement c (statement w) r refl, tt)))))
  fit_cases (Line.Call a b c) = λ e s p t. ((λ x. refl), (λ h. (word b e s, (just of_place c (place p) t refl, tt))))
  fit_cases (Line.NewSimple a b) = λ u s. ((λ x. refl), (λ h. (just of_statement b (statement u) s refl, tt)))
  fit_cases (Line.NewArray a b c) = λ u s. ((λ x. refl), (λ h. (just of_statement c (statement u) s refl, tt)))
  fit_cases (Line.System a b) = λ d s v t. ((λ x. refl), (λ h. (just of_declarations a (declarations d) s refl, (just of_statement b (statement v) t refl, tt))))
  fit_cases (Line.Procedure a b c d) = λ u s. ((λ x. refl), (λ h. (just of_statement d (statement u) s refl, tt)))
  fit_cases (Line.Join a b) = λ d s e t. ((λ x. refl), (λ h. (just of_declarations a (declarations d) s refl, (just of_declarations b (declarations e) t refl, tt))))

  pub fitted : (l : Line) → Fitted l (grown n ps l)
  fitted l = made (Fitted l) n ps l misfit (fit_cases l)
    where
      misfit : Any (λ f. Unfit f.0 (get_or ps f.1 other)) (fields l) → Fitted l other
      misfit u = (
        (λ e. absurd (each_any Fit (λ f. Unfit f.0 (get_or ps f.1 other)) (λ f x y. both_ways (fits f.0 (part_class (get_or ps f.1 other))) y x) (fields l) e u)),
        nothing_there,
      )
