-- A line's part stands where its record says what the line is and the parts that it names stand.
use Rattle.std.proofs.Common.{◌≡◌, ℕ, ◌<◌, List, get_or, refl, ap, ◌∙◌, subst}
use mathlib.Core.Path.{transport}
use Rattle.lines.specs.declared.records.Line.{Line}
use Rattle.lines.specs.declared.records.Role.TheVariants.{Declared}
use Rattle.lines.specs.declared.records.Declaration.{Declaration}
use Rattle.lines.specs.declared.records.Record.{Record}
use Rattle.script.specs.Names.{Names, nothing}
use Rattle.script.specs.Script.{Declarations, Expression}
use Rattle.script.specs.Tree.{Part, condition, declarations, expression, grown, other, place, statement}
use Rattle.script.specs.Apart.{Scope, own, own_value, own_variable, found, with_array, with_procs, with_simple, place_apart, expression_apart, condition_apart, statement_apart, declarations_apart}
use Rattle.script.specs.Lists.{Each}
use Rattle.script.specs.Fields.{fields, named_in}
use Rattle.script.specs.Around.{Naming, inside, naming, procedures_of, with_listed, silent, uses_simple, uses_array, uses_procedure, opens_simple, opens_array, opens_system, opens_body, joins}
use Rattle.script.proofs.Made.{Made, Something, made, nothing_there, worded, worded_same}
use Rattle.script.proofs.Steps.{with_procs_listed}
use Rattle.standing.specs.Records.{Tells}
use Rattle.standing.specs.Standing.{Says, Points, IsProcedure, Owns, StandsPlace, StandsExpression, StandsCondition, StandsStatement, StandsDeclarations}
use Rattle.standing.proofs.Systems.{system_in}

module _ (E : Names) (rs : List Record) where
  -- the part that line n is stands there, told apart by the scope s; y is the system that declarations belong to
  abbrev pub StandsPart : ℕ → Scope → ℕ → Part → Type 0
  StandsPart n s y (place p) = StandsPlace E rs (place_apart s p) n
  StandsPart n s y (expression e) = StandsExpression E rs (expression_apart s e) n
  StandsPart n s y (condition c) = StandsCondition E rs (condition_apart s c) n
  StandsPart n s y (statement t) = StandsStatement E rs (statement_apart s t) n
  StandsPart n s y (declarations d) = StandsDeclarations E rs (declarations_apart s d) n y
  StandsPart n s y other = ⊥

  module _ (n : ℕ) (ps : List Part) (s : Scope) (y : ℕ) where
    abbrev at : ℕ → Part
    at m = get_or ps m other

    -- what the record of line n tells beside what the line says
    abbrev pub Right : Naming → Type 0
    Right silent = Unit {0}
    Right (uses_simple a) = (d : Declaration) × Points rs n d × Tells E d (found s.simples a)
    Right (uses_array a) = (d : Declaration) × Points rs n d × Tells E d (found s.arrays a)
    Right (uses_procedure a) = (d : Declaration) × Points rs n d × (found s.procs a ≡ own d.line) × IsProcedure rs d.line
    Right (opens_simple a) = E (own n) ≡ nothing
    Right (opens_array a) = E (own n) ≡ nothing
    Right (opens_system a) = (d : Declarations) → at a ≡ declarations d → (t : Scope) → Owns rs (declarations_apart t d) n
    Right (opens_body q x z) = Points rs n (record { line = y; role = Declared })
    Right (joins a b) = Unit {0}

    -- the part that line n names at line m stands there
    abbrev pub PartStands : Line → ℕ → Type 0
    PartStands l m = (m < n) × StandsPart m (inside (λ m. procedures_of (at m)) n l s) (system_in n (naming l) y) (at m)

    abbrev Stand : Line → Part → Type 0
    Stand l Q = Something Q → Says rs n l → Right (naming l) → Each (PartStands l) (named_in (fields l)) → StandsPart n s y Q

    word : (m : ℕ) (e : Expression) → worded (at m) ≡ expression e → StandsPart m s 0 (at m) → StandsExpression E rs (expression_apart s e) m
    word m e w = transport (worded_same (StandsPart m s 0) (λ p. refl) (at m) e w)

    just : (z : Scope) (m : ℕ) (P : Part) → at m ≡ P → StandsPart m z 0 (at m) → StandsPart m z 0 P
    just z m P w = subst (StandsPart m z 0) w

    stand_cases : (l : Line) → Made (Stand l) n at l
    stand_cases (Line.Global a b) = nothing_there
    stand_cases (Line.Constant k) = λ h e o w. e
    stand_cases (Line.Simple a) = λ h e o w. (a, o.0, e, o.1, o.2)
    stand_cases (Line.Element a b) = λ x u h e o w. (a, b, o.0, e, o.1, o.2, w.0.0, word b x u w.0.1)
    stand_cases (Line.Operation r a b) = λ x u y v h e o w. (a, b, e, w.0.0, word a x u w.0.1, w.1.0.0, word b y v w.1.0.1)
    stand_cases (Line.Comparison r a b) = λ x u y v h e o w. (a, b, e, w.0.0, word a x u w.0.1, w.1.0.0, word b y v w.1.0.1)
    stand_cases (Line.Choice a b c) = λ t u x v y z h e o w.
        (a, b, c, e, w.0.0, just s a (condition t) u w.0.1, w.1.0.0, word b x v w.1.0.1, w.1.1.0.0, word c y z w.1.1.0.1)
    stand_cases (Line.Truth b) = λ h e o w. e
    stand_cases (Line.Negation a) = λ t u h e o w. (a, e, w.0.0, just s a (condition t) u w.0.1)
    stand_cases (Line.Implication a b) = λ t u r v h e o w. (a, b, e, w.0.0, just s a (condition t) u w.0.1, w.1.0.0, just s b (condition r) v w.1.0.1)
    stand_cases (Line.Assignment a b) = λ p u x v h e o w. (a, b, e, refl, w.0.0, just s a (place p) u w.0.1, w.1.0.0, word b x v w.1.0.1)
    stand_cases (Line.Sequence a b) = λ t u r v h e o w. (a, b, e, refl, w.0.0, just s a (statement t) u w.0.1, w.1.0.0, just s b (statement r) v w.1.0.1)
    stand_cases (Line.Branch a b c) = λ t u r v q z h e o w.
        (a, b, c, e, refl, w.0.0, just s a (condition t) u w.0.1, w.1.0.0, just s b (statement r) v w.1.0.1, w.1.1.0.0, just s c (statement q) z w.1.1.0.1)
    stand_cases (Line.Call a b c) = λ x u p v h e o w.
        (a, b, c, o.0, e, o.1, refl, o.2, o.3, w.0.0, word b x u w.0.1, w.1.0.0, just s c (place p) v w.1.0.1)
    stand_cases (Line.NewSimple a b) = λ t u h e o w. (a, b, e, refl, refl, o, w.0.0, just (with_simple a (own n) s) b (statement t) u w.0.1)
    stand_cases (Line.NewArray a b c) = λ t u h e o w. (a, c, e, refl, refl, o, w.0.0, just (with_array a (own n) s) c (statement t) u w.0.1)
    stand_cases (Line.System a b) = λ d u t v h e o w.
        let known : with_listed (procedures_of (at a)) s ≡ with_procs d s = ap (λ p. with_listed (procedures_of p) s) u ∙ with_procs_listed d s in (
          a,
          b,
          e,
          refl,
          w.0.0,
          transport (λ j. StandsPart a (known j) n (u j)) w.0.1,
          o d u (with_procs d s),
          w.1.0.0,
          transport (λ j. StandsPart b (known j) n (v j)) w.1.0.1,
        )
    stand_cases (Line.Procedure a b c d) = λ t u h e o w.
        (d, (a, b, c, e, o), refl, refl, refl, refl, w.0.0, just (with_simple c (own_variable n) (with_simple b (own_value n) s)) d (statement t) u w.0.1)
    stand_cases (Line.Join a b) = λ d u f v h e o w.
        (a, b, e, w.0.0, transport (λ j. StandsPart a s y (u j)) w.0.1, w.1.0.0, transport (λ j. StandsPart b s y (v j)) w.1.0.1)

    pub stand_step : (l : Line) → Stand l (grown n ps l)
    stand_step l = made (Stand l) n ps l (λ u. nothing_there) (stand_cases l)
