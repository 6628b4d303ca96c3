-- What the line of a statement says of the text that it stands for.
use Rattle.std.proofs.Common.{◌≡◌, ℕ, ◌<◌, List, sym, ap, ◌∙◌, subst}
use Rattle.lines.specs.declared.records.Line.{Line}
use Rattle.lines.specs.declared.records.Declaration.{Declaration}
use Rattle.lines.specs.declared.records.Record.{Record}
use Rattle.script.specs.Names.{Names, nothing}
use Rattle.script.specs.Script.{Place, Expression, Condition, Statement, assign, both, branch, call, new_simple, new_array, system, Declarations, only}
use Rattle.script.specs.Apart.{own}
use Rattle.standing.specs.Standing.{Says, Points, IsProcedure, Owns, StandsPlace, StandsExpression, StandsCondition, StandsStatement, StandsDeclarations}
use Rattle.rule.specs.Fine.{Kinds, a_simple, an_array, a_procedure, with_procedures, FinePlace, FineExpression, FineCondition, Fine, FineDeclarations}
use Rattle.engine.proofs.Valuing.{inner}

module _ (G : Names) (rs : List Record) (κ : Kinds) where
  -- the statement s at line j, by what the line says
  abbrev pub OfLine : Line → Statement → ℕ → Type 0
  OfLine (Line.Assignment k l) s j =
      (p : Place) × (e : Expression) × (s ≡ assign j p e) × (k < j) × StandsPlace G rs p k × FinePlace κ p × (l < j) × StandsExpression G rs e l × FineExpression κ e
  OfLine (Line.Sequence k l) s j =
      (a : Statement) × (b : Statement) × (s ≡ both j a b) × StandsStatement G rs a k × Fine κ a × StandsStatement G rs b l × Fine κ b
  OfLine (Line.Branch h k l) s j =
      (c : Condition) × (a : Statement) × (b : Statement) × (s ≡ branch j c a b) × (h < j) × StandsCondition G rs c h × FineCondition κ c
      × StandsStatement G rs a k × Fine κ a × StandsStatement G rs b l × Fine κ b
  OfLine (Line.Call n k l) s j =
      (d : Declaration) × (e : Expression) × (p : Place) × (s ≡ call j (own d.line) e p) × Points rs j d × IsProcedure rs d.line × (κ (own d.line) ≡ a_procedure)
      × (k < j) × StandsExpression G rs e k × FineExpression κ e × (l < j) × StandsPlace G rs p l × FinePlace κ p
  OfLine (Line.NewSimple n k) s j =
      (a : Statement) × (s ≡ new_simple j (own j) a) × (G (own j) ≡ nothing) × StandsStatement G rs a k × Fine (only (own j) a_simple κ) a
  OfLine (Line.NewArray n m k) s j =
      (a : Statement) × (s ≡ new_array j (own j) m a) × (G (own j) ≡ nothing) × StandsStatement G rs a k × Fine (only (own j) an_array κ) a
  OfLine (Line.System h k) s j =
      (d : Declarations) × (a : Statement) × (s ≡ system j d a) × StandsDeclarations G rs d h j × Owns rs d j × FineDeclarations (with_procedures d κ) d
      × StandsStatement G rs a k × Fine (with_procedures d κ) a
  OfLine _ s j = ⊥

  abbrev SaysIt : Statement → ℕ → Type 0
  SaysIt s j = (l : Line) × Says rs j l × OfLine l s j

  says : (s : Statement) (j : ℕ) → StandsStatement G rs s j → Fine κ s → SaysIt s j
  says (assign m p e) j w f = (Line.Assignment w.0 w.1, w.2, (p, e, ap (λ z. assign z p e) w.3, w.4, w.5, f.0, w.6, w.7, f.1))
  says (both m a b) j w f = (Line.Sequence w.0 w.1, w.2, (a, b, ap (λ z. both z a b) w.3, w.5, f.0, w.7, f.1))
  says (branch m c a b) j w f = (Line.Branch w.0 w.1 w.2, w.3, (c, a, b, ap (λ z. branch z c a b) w.4, w.5, w.6, f.0, w.8, f.1, w.10, f.2))
  says (call m q e p) j w f = (
    Line.Call w.0 w.1 w.2,
    w.4,
    (w.3, e, p, (λ i. call (w.6 i) (w.7 i) e p), w.5, w.8, ap κ (sym w.7) ∙ f.0, w.9, w.10, f.1, w.11, w.12, f.2),
  )
  says (new_simple m x a) j w f =
      (Line.NewSimple w.0 w.1, w.2, (a, (λ i. new_simple (w.3 i) (w.4 i) a), w.5, w.7, subst (λ z. Fine (only z a_simple κ) a) w.4 f.1))
  says (new_array m x n a) j w f =
      (Line.NewArray w.0 n w.1, w.2, (a, (λ i. new_array (w.3 i) (w.4 i) n a), w.5, w.7, subst (λ z. Fine (only z an_array κ) a) w.4 f.1))
  says (system m d a) j w f = (Line.System w.0 w.1, w.2, (d, a, ap (λ z. system z d a) w.3, w.5, w.6, f.1, w.8, f.2))

  pub of_line : (s : Statement) (j : ℕ) (l : Line) → Says rs j l → StandsStatement G rs s j → Fine κ s → OfLine l s j
  of_line s j l p w f = let t = says s j w f in subst (λ x. OfLine x s j) (inner t.0 l (sym t.1 ∙ p)) t.2
