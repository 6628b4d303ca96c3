-- Words stay lawful in a run of a script: those of the cells in use, and the values that are worked.
use Rattle.std.specs.Prelude.{ℕ, ◌<◌, ◌≤◌, Bool, T, List, [], ◌∷◌, length, take}
use Rattle.kinds.specs.Arithmetic.{Arithmetic, Laws}
use Rattle.lines.specs.declared.records.Line.{Line}
use Rattle.script.specs.Script.{Place, simple, element, fixed, Expression, constant, word_of, work, choose, Condition, truth, compared, negated, implies}
use Rattle.script.specs.Script.{Statement, assign, both, branch, call, new_simple, new_array, system, Declarations, procedure, joined}
use Rattle.script.specs.Names.{Names}
use Rattle.script.specs.Apart.{globals_of}
use Rattle.script.specs.Lists.{Each}
use Rattle.script.specs.IsScript.{IsScript}
use Rattle.rule.specs.Work.{Work, gives, faults}
use Rattle.rule.specs.Values.{value}
use Rattle.rule.specs.Machine.{standing, Item}
use Rattle.rule.specs.Closing.{program_of, first_items}
use Rattle.rule.specs.Resume.{Reached, going, ended, advance, machine_step}

abbrev pub LawfulWord : Arithmetic → ℕ → Type 0
LawfulWord K w = T (K.lawful w)

abbrev pub LawfulWork : Arithmetic → Work ℕ → Type 0
LawfulWork K (gives w) = LawfulWord K w
LawfulWork K (faults n) = Unit {0}

-- the words of the cells below u
abbrev pub LawfulBelow : Arithmetic → ℕ → List ℕ → Type 0
LawfulBelow K u σ = Each (LawfulWord K) (take u σ)

-- text whose constants have lawful words
module _ (K : Arithmetic) where
  abbrev mutual
    pub LawfulPlace : Place → Type 0
    LawfulPlace (simple x) = Unit {0}
    LawfulPlace (element a i) = LawfulExpression i
    LawfulPlace (fixed a i) = Unit {0}

    pub LawfulExpression : Expression → Type 0
    LawfulExpression (constant n) = LawfulWord K (K.constant n)
    LawfulExpression (word_of p) = LawfulPlace p
    LawfulExpression (work o a b) = LawfulExpression a × LawfulExpression b
    LawfulExpression (choose c a b) = LawfulCondition c × LawfulExpression a × LawfulExpression b

    pub LawfulCondition : Condition → Type 0
    LawfulCondition (truth b) = Unit {0}
    LawfulCondition (compared r a b) = LawfulExpression a × LawfulExpression b
    LawfulCondition (negated c) = LawfulCondition c
    LawfulCondition (implies c d) = LawfulCondition c × LawfulCondition d

  abbrev mutual
    pub LawfulText : Statement → Type 0
    LawfulText (assign l p e) = LawfulPlace p × LawfulExpression e
    LawfulText (both l a b) = LawfulText a × LawfulText b
    LawfulText (branch l c a b) = LawfulCondition c × LawfulText a × LawfulText b
    LawfulText (call l q e p) = LawfulExpression e × LawfulPlace p
    LawfulText (new_simple l x a) = LawfulText a
    LawfulText (new_array l x n a) = LawfulText a
    LawfulText (system l d a) = LawfulDeclarations d × LawfulText a

    pub LawfulDeclarations : Declarations → Type 0
    LawfulDeclarations (procedure l q x y s) = LawfulText s
    LawfulDeclarations (joined d e) = LawfulDeclarations d × LawfulDeclarations e

-- where the words of the cells below u are lawful, what is read of such a cell is a lawful word, or a fault
abbrev pub ReadsLawfully : Arithmetic → (List ℕ → ℕ → Work ℕ) → Type 0
ReadsLawfully K fetch = (σ : List ℕ) (u c : ℕ) → c < u → u ≤ length σ → LawfulBelow K u σ → LawfulWork K (fetch σ c)

module _ (K : Arithmetic) (fetch : List ℕ → ℕ → Work ℕ) (G : Names) where
  -- a statement that is to be begun: the words of its cells in use are lawful, and so are its constants and all that can be worked there
  pub record LawfulAt (p : Item) (σ : List ℕ) : Type 0 where
    pub words : LawfulBelow K p.used σ
    pub constants : LawfulText K p.text
    pub values : (e : Expression) → LawfulExpression K e → LawfulWork K (value K (standing G p.env) (fetch σ) e)

  -- a state of a run: lawful where the next statement is to be begun, and at the end lawful in the globals' cells
  abbrev pub LawfulState : ℕ → Reached Item (List ℕ) → Type 0
  LawfulState taken (going [] σ) = LawfulBelow K taken σ
  LawfulState taken (going (p ∷ ps) σ) = LawfulAt p σ
  LawfulState taken (ended e k σ) = LawfulBelow K taken σ

-- the run of a script of the kind, from lawful words in the globals' cells, comes to such states only
abbrev pub StaysLawful : Type 0
StaysLawful = (K : Arithmetic) → Laws K → (size : ℕ) (fetch : List ℕ → ℕ → Work ℕ) (room : List ℕ → ℕ → Bool) → ReadsLawfully K fetch
    → (ls : List Line) (s : IsScript K.least K.most ls) → (globals_of ls).taken ≤ size
    → (n : ℕ) (σ : List ℕ) → size ≤ length σ → LawfulBelow K (globals_of ls).taken σ
    → LawfulState K fetch (globals_of ls).names (globals_of ls).taken
    (advance (machine_step K size fetch room (globals_of ls).names) n (first_items (program_of ls s.text)) σ)
