-- When the records of a sheet stand for a text whose declarations are told apart: the record at a line is what the text is there,
-- its parts stand at the earlier lines that it names, and the declaration that it tells has the text's name for its own.
use Rattle.std.specs.Prelude.{◌≡◌, ℕ, ◌<◌, Bool, true, ◌||◌, List, Some, ◌==◌}
use Rattle.lines.specs.declared.records.Line.{Line}
use Rattle.lines.specs.declared.records.Role.TheVariants.{Declared}
use Rattle.lines.specs.declared.records.Declaration.{Declaration}
use Rattle.lines.specs.declared.records.Record.{Record}
use Rattle.script.specs.Names.{Names, nothing}
use Rattle.script.specs.Apart.{own, own_value, own_variable}
use Rattle.script.specs.Script.{Place, simple, element, fixed, Expression, constant, word_of, work, choose, Condition, truth, compared, negated, implies}
use Rattle.script.specs.Script.{Statement, assign, both, branch, call, new_simple, new_array, system, Declarations, procedure, joined}
use Rattle.standing.specs.Records.{record_at, line_in, declaration_in, Tells}

-- the procedures of a text have the name p of its own among them
abbrev pub declares : Declarations → ℕ → Bool
declares (procedure l q x y b) p = q == p
declares (joined d e) p = declares d p || declares e p

module _ (rs : List Record) where
  -- line j says l
  abbrev pub Says : ℕ → Line → Type 0
  Says j l = line_in (record_at rs j) ≡ Some l

  -- and tells the declaration d
  abbrev pub Points : ℕ → Declaration → Type 0
  Points j d = declaration_in (record_at rs j) ≡ Some d

  -- line j is a procedure of the system of line s, with the body at line b
  abbrev pub ProcedureOf : ℕ → ℕ → ℕ → Type 0
  ProcedureOf j s b = (a : ℕ) × (x : ℕ) × (y : ℕ) × Says j (Line.Procedure a x y b) × Points j (record { line = s; role = Declared })

  abbrev pub IsProcedure : ℕ → Type 0
  IsProcedure j = (s : ℕ) × (b : ℕ) × ProcedureOf j s b

  -- the procedures whose records name line s for their system are all among d
  abbrev pub Owns : Declarations → ℕ → Type 0
  Owns d s = (p b : ℕ) → ProcedureOf p s b → declares d (own p) ≡ true

module _ (G : Names) (rs : List Record) where
  abbrev mutual
    pub StandsPlace : Place → ℕ → Type 0
    StandsPlace (simple x) j = (a : ℕ) × (d : Declaration) × Says rs j (Line.Simple a) × Points rs j d × Tells G d x
    StandsPlace (element x i) j =
        (a : ℕ) × (k : ℕ) × (d : Declaration) × Says rs j (Line.Element a k) × Points rs j d × Tells G d x × (k < j) × StandsExpression i k
    StandsPlace (fixed x i) j = ⊥

    pub StandsExpression : Expression → ℕ → Type 0
    StandsExpression (constant n) j = Says rs j (Line.Constant n)
    StandsExpression (word_of p) j = StandsPlace p j
    StandsExpression (work o a b) j = (k : ℕ) × (l : ℕ) × Says rs j (Line.Operation o k l) × (k < j) × StandsExpression a k × (l < j) × StandsExpression b l
    StandsExpression (choose c a b) j =
        (h : ℕ) × (k : ℕ) × (l : ℕ) × Says rs j (Line.Choice h k l) × (h < j) × StandsCondition c h × (k < j) × StandsExpression a k × (l < j) × StandsExpression b l

    pub StandsCondition : Condition → ℕ → Type 0
    StandsCondition (truth b) j = Says rs j (Line.Truth b)
    StandsCondition (compared r a b) j = (k : ℕ) × (l : ℕ) × Says rs j (Line.Comparison r k l) × (k < j) × StandsExpression a k × (l < j) × StandsExpression b l
    StandsCondition (negated c) j = (k : ℕ) × Says rs j (Line.Negation k) × (k < j) × StandsCondition c k
    StandsCondition (implies c d) j = (k : ℕ) × (l : ℕ) × Says rs j (Line.Implication k l) × (k < j) × StandsCondition c k × (l < j) × StandsCondition d l

  abbrev mutual
    pub StandsStatement : Statement → ℕ → Type 0
    StandsStatement (assign m p e) j =
        (k : ℕ) × (l : ℕ) × Says rs j (Line.Assignment k l) × (m ≡ j) × (k < j) × StandsPlace p k × (l < j) × StandsExpression e l
    StandsStatement (both m a b) j =
        (k : ℕ) × (l : ℕ) × Says rs j (Line.Sequence k l) × (m ≡ j) × (k < j) × StandsStatement a k × (l < j) × StandsStatement b l
    StandsStatement (branch m c a b) j =
        (h : ℕ) × (k : ℕ) × (l : ℕ) × Says rs j (Line.Branch h k l) × (m ≡ j) × (h < j) × StandsCondition c h
        × (k < j) × StandsStatement a k × (l < j) × StandsStatement b l
    -- the procedure that is called is that of the declaration's line
    StandsStatement (call m q e p) j =
        (a : ℕ) × (k : ℕ) × (l : ℕ) × (d : Declaration) × Says rs j (Line.Call a k l) × Points rs j d × (m ≡ j) × (q ≡ own d.line) × IsProcedure rs d.line
        × (k < j) × StandsExpression e k × (l < j) × StandsPlace p l
    StandsStatement (new_simple m x s) j =
        (a : ℕ) × (k : ℕ) × Says rs j (Line.NewSimple a k) × (m ≡ j) × (x ≡ own j) × (G (own j) ≡ nothing) × (k < j) × StandsStatement s k
    StandsStatement (new_array m x n s) j =
        (a : ℕ) × (k : ℕ) × Says rs j (Line.NewArray a n k) × (m ≡ j) × (x ≡ own j) × (G (own j) ≡ nothing) × (k < j) × StandsStatement s k
    StandsStatement (system m d s) j =
        (h : ℕ) × (k : ℕ) × Says rs j (Line.System h k) × (m ≡ j) × (h < j) × StandsDeclarations d h j × Owns rs d j × (k < j) × StandsStatement s k

    -- the declarations of the system of line s
    pub StandsDeclarations : Declarations → ℕ → ℕ → Type 0
    StandsDeclarations (procedure m q x y b) j s =
        (k : ℕ) × ProcedureOf rs j s k × (m ≡ j) × (q ≡ own j) × (x ≡ own_value j) × (y ≡ own_variable j) × (k < j) × StandsStatement b k
    StandsDeclarations (joined d e) j s =
        (k : ℕ) × (l : ℕ) × Says rs j (Line.Join k l) × (k < j) × StandsDeclarations d k s × (l < j) × StandsDeclarations e l s
