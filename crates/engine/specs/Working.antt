-- What the engine works out at a place of a script's text is what the machine does.
use Rattle.std.specs.Prelude.{◌≡◌, ℕ, ◌<◌, Bool, T, List, ℤ, Some, None, Option, Result}
use Rattle.kinds.specs.Arithmetic.{Arithmetic, holds as is_constant}
use Rattle.lines.specs.declared.records.Line.{Line}
use Rattle.lines.specs.declared.records.Record.{Record}
use Rattle.script.specs.Names.{Names}
use Rattle.script.specs.Script.{Place, Expression, Condition}
use Rattle.standing.specs.Standing.{Says, StandsPlace, StandsExpression, StandsCondition}
use Rattle.rule.specs.Work.{Work, gives, faults}
use Rattle.rule.specs.Values.{within, value, holds, cell_at}
use Rattle.rule.specs.Fine.{FinePlace, FineExpression, FineCondition}
use Rattle.rule.specs.Machine.{Env, standing}
use Rattle.faults.specs.declared.fault.Fault.{Fault}
use Rattle.engine.specs.declared.frame.Frame.{Frame}
use Rattle.engine.specs.declared.frame.Stand.{Stand}
use Rattle.engine.specs.declared.frame.Stand.TheVariants.{Cell, Cells}
use Rattle.faults.specs.Faults.{told}
use Rattle.rule.specs.Handed.{handed}
use Rattle.engine.specs.Proper.{kinds_at}
use Rattle.engine.specs.Frames.{FramesStand}

-- the cell of a variable, and of an element of an array, by what the name stands for
abbrev pub known_cell : Option Stand → Work ℕ
known_cell None = faults 26
known_cell (Some (Cell c)) = gives c
known_cell (Some (Cells b n)) = faults 26

abbrev pub known_element : Option Stand → ℕ → Work ℕ
known_element None i = faults 26
known_element (Some (Cell c)) i = faults 26
known_element (Some (Cells b n)) i = within b n i

-- every constant is one of the kind's
abbrev pub OfKind : Arithmetic → List Record → Type 0
OfKind K rs = (j : ℕ) (z : ℤ) → Says rs j (Line.Constant z) → T (is_constant K z)

module _ (K : Arithmetic) (rs : List Record) (fs : List Frame) (level : ℕ) (σ : List ℕ) (below line : ℕ) where
  -- the word of the expression that the line stands for, in the environment that the levels stand for
  abbrev pub ValueIs : Result ℕ Fault → Type 0
  ValueIs r = (G : Names) (ρ : Env) (e : Expression) → OfKind K rs → line < below → StandsExpression G rs e line → FramesStand G rs fs level ρ → FineExpression (kinds_at G ρ) e
      → told r ≡ value K (standing G ρ) (handed K σ) e

  -- whether the condition holds
  abbrev pub TruthIs : Result Bool Fault → Type 0
  TruthIs r = (G : Names) (ρ : Env) (c : Condition) → OfKind K rs → line < below → StandsCondition G rs c line → FramesStand G rs fs level ρ → FineCondition (kinds_at G ρ) c
      → told r ≡ holds K (standing G ρ) (handed K σ) c

  -- the cell of the place
  abbrev pub CellIs : Result ℕ Fault → Type 0
  CellIs r = (G : Names) (ρ : Env) (p : Place) → OfKind K rs → line < below → StandsPlace G rs p line → FramesStand G rs fs level ρ → FinePlace (kinds_at G ρ) p
      → told r ≡ cell_at K (standing G ρ) (handed K σ) p
