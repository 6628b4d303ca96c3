-- Text whose names are in order: each used name is of its kind, and each declared name is unused around its declaration.
use Rattle.std.specs.Prelude.{◌≡◌, ℕ, true, false, List, [], ◌∷◌, nat_le}
use Rattle.kinds.specs.Arithmetic.{Arithmetic}
use Rattle.rule.specs.Work.{Work}
use Rattle.script.specs.Script.{Place, simple, element, fixed, Expression, constant, word_of, work, choose, Condition, truth, compared, negated, implies}
use Rattle.script.specs.Script.{Statement, assign, both, branch, call, new_simple, new_array, system, Declarations, procedure, joined, only}
use Rattle.script.specs.Names.{Names, Standing, nothing, cell, cells, code}
use Rattle.rule.specs.Rewriting.{Situation, rewrite}
use Rattle.rule.specs.Machine.{outside, machine}
use Rattle.rule.specs.Closing.{own_room}

-- what a name is at a place of the text: to be declared further in, a variable, an array or a procedure of the declarations around, or beyond the text
pub data Kind : Type 0 where
  unused a_simple an_array a_procedure beyond : Kind

abbrev pub Kinds : Type 0
Kinds = ℕ → Kind

abbrev pub with_procedures : Declarations → Kinds → Kinds
with_procedures (procedure l q x y s) κ = only q a_procedure κ
with_procedures (joined d e) κ = with_procedures e (with_procedures d κ)

abbrev pub with_formals : ℕ → ℕ → Kinds → Kinds
with_formals x y κ = only y a_simple (only x a_simple κ)

abbrev pub Unused : Kinds → Declarations → Type 0
Unused κ (procedure l q x y s) = κ q ≡ unused
Unused κ (joined d e) = Unused κ d × Unused κ e

abbrev mutual
  pub FinePlace : Kinds → Place → Type 0
  FinePlace κ (simple x) = κ x ≡ a_simple
  FinePlace κ (element a i) = (κ a ≡ an_array) × FineExpression κ i
  FinePlace κ (fixed a i) = ⊥

  pub FineExpression : Kinds → Expression → Type 0
  FineExpression κ (constant n) = Unit {0}
  FineExpression κ (word_of p) = FinePlace κ p
  FineExpression κ (work o a b) = FineExpression κ a × FineExpression κ b
  FineExpression κ (choose c a b) = FineCondition κ c × FineExpression κ a × FineExpression κ b

  pub FineCondition : Kinds → Condition → Type 0
  FineCondition κ (truth b) = Unit {0}
  FineCondition κ (compared r a b) = FineExpression κ a × FineExpression κ b
  FineCondition κ (negated c) = FineCondition κ c
  FineCondition κ (implies c d) = FineCondition κ c × FineCondition κ d

abbrev mutual
  pub Fine : Kinds → Statement → Type 0
  Fine κ (assign l p e) = FinePlace κ p × FineExpression κ e
  Fine κ (both l a b) = Fine κ a × Fine κ b
  Fine κ (branch l c a b) = FineCondition κ c × Fine κ a × Fine κ b
  Fine κ (call l q e p) = (κ q ≡ a_procedure) × FineExpression κ e × FinePlace κ p
  Fine κ (new_simple l x a) = (κ x ≡ unused) × Fine (only x a_simple κ) a
  Fine κ (new_array l x n a) = (κ x ≡ unused) × Fine (only x an_array κ) a
  Fine κ (system l d a) = Unused κ d × FineDeclarations (with_procedures d κ) d × Fine (with_procedures d κ) a

  pub FineDeclarations : Kinds → Declarations → Type 0
  FineDeclarations κ (procedure l q x y s) = (κ x ≡ unused) × (only x a_simple κ y ≡ unused) × Fine (with_formals x y κ) s
  FineDeclarations κ (joined d e) = FineDeclarations κ d × FineDeclarations κ e

-- the kinds that a script's text starts from: a global is of the kind that it stands for, and the names from f on are not the text's
abbrev pub start_kind : Standing → Kind
start_kind nothing = unused
start_kind (cell c) = a_simple
start_kind (cells b n) = an_array
start_kind (code x y s) = unused

abbrev pub start_kinds : Names → ℕ → Kinds
start_kinds G f x = elim (nat_le f x) [ true ↦ beyond | false ↦ start_kind (G x) ]

-- over a store that takes every put, the machine ends every run of a text whose names are in order as the copy rule does
abbrev pub MachineAgrees : Type 0
MachineAgrees = (K : Arithmetic) (size : ℕ) (fetch : List ℕ → ℕ → Work ℕ) (s : Situation) (t : Statement) → Fine (start_kinds s.names s.fresh) t
    → (n level used : ℕ)
    → machine K size fetch own_room s.names n (record { text = t; level = level; used = used; env = outside } ∷ []) s.store
    ≡ rewrite K size fetch n (record { text = t; level = level; used = used } ∷ []) s
