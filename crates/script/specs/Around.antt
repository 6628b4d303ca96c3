-- What is around a line: the scope that it stands in, and the procedures that it is declared together with.
use Rattle.std.specs.Prelude.{ℕ, zero, suc, List, [], ◌∷◌, ◌++◌}
use Rattle.lines.specs.declared.records.Line.{Line}
use Rattle.script.specs.Script.{Declarations, joined, procedure}
use Rattle.script.specs.Tree.{Part, condition, declarations, expression, other, part, place, statement}
use Rattle.script.specs.Apart.{Scope, own, own_value, own_variable, with_array, with_simple}
use Rattle.script.specs.Lists.{times}
use Rattle.script.specs.Fields.{fields, named_in}

-- what a line does with names (a global declares one too, for the whole text: those come first, see specs/Apart)
pub data Naming : Type 0 where
  silent : Naming
  -- it uses the name of a simple variable, an array, a procedure
  uses_simple uses_array uses_procedure : ℕ → Naming
  -- it declares a simple variable, an array, for the line that it names
  opens_simple opens_array : ℕ → Naming
  -- it declares the procedures at a line, for that line and its statement
  opens_system : ℕ → Naming
  -- it is a procedure: its name, and the two formals that it declares for its body
  opens_body : ℕ → ℕ → ℕ → Naming
  -- it joins the procedures at two lines
  joins : ℕ → ℕ → Naming

abbrev pub naming : Line → Naming
naming (Line.Global a b) = silent
naming (Line.Constant k) = silent
naming (Line.Simple a) = uses_simple a
naming (Line.Element a b) = uses_array a
naming (Line.Operation o a b) = silent
naming (Line.Comparison r a b) = silent
naming (Line.Choice a b c) = silent
naming (Line.Truth b) = silent
naming (Line.Negation a) = silent
naming (Line.Implication a b) = silent
naming (Line.Assignment a b) = silent
naming (Line.Sequence a b) = silent
naming (Line.Branch a b c) = silent
naming (Line.Call a b c) = uses_procedure a
naming (Line.NewSimple a b) = opens_simple a
naming (Line.NewArray a b c) = opens_array a
naming (Line.System a b) = opens_system a
naming (Line.Procedure a b c d) = opens_body a b c
naming (Line.Join a b) = joins a b

-- a system's procedures, each with its line
abbrev pub procedures : Declarations → List (ℕ × ℕ)
procedures (procedure l q x y b) = (l, q) ∷ []
procedures (joined d e) = procedures d ++ procedures e

-- the procedures of a part: none, but of declarations
abbrev pub procedures_of : Part → List (ℕ × ℕ)
procedures_of (place p) = []
procedures_of (expression e) = []
procedures_of (condition c) = []
procedures_of (statement t) = []
procedures_of (declarations d) = procedures d
procedures_of other = []

-- a scope and some procedures more
abbrev pub with_listed : List (ℕ × ℕ) → Scope → Scope
with_listed [] s = s
with_listed (r ∷ rs) s = with_listed rs (record { simples = s.simples; arrays = s.arrays; procs = (r.1, own r.0) ∷ s.procs })

-- the scope of the lines that line n names, from its own; Q has the procedures at each line
abbrev pub inside_by : (ℕ → List (ℕ × ℕ)) → ℕ → Naming → Scope → Scope
inside_by Q n silent s = s
inside_by Q n (uses_simple a) s = s
inside_by Q n (uses_array a) s = s
inside_by Q n (uses_procedure a) s = s
inside_by Q n (opens_simple a) s = with_simple a (own n) s
inside_by Q n (opens_array a) s = with_array a (own n) s
inside_by Q n (opens_system a) s = with_listed (Q a) s
inside_by Q n (opens_body q x y) s = with_simple y (own_variable n) (with_simple x (own_value n) s)
inside_by Q n (joins a b) s = s

abbrev pub inside : (ℕ → List (ℕ × ℕ)) → ℕ → Line → Scope → Scope
inside Q n l s = inside_by Q n (naming l) s

-- The fellows of a procedure are the procedures of its system, itself among them. These are the fellows of the lines that a line names,
-- from its own (none, but of declarations).
abbrev pub fellows_by : (ℕ → List (ℕ × ℕ)) → Naming → List (ℕ × ℕ) → List (ℕ × ℕ)
fellows_by Q silent qs = []
fellows_by Q (uses_simple a) qs = []
fellows_by Q (uses_array a) qs = []
fellows_by Q (uses_procedure a) qs = []
fellows_by Q (opens_simple a) qs = []
fellows_by Q (opens_array a) qs = []
fellows_by Q (opens_system a) qs = Q a
fellows_by Q (opens_body q x y) qs = []
fellows_by Q (joins a b) qs = qs

abbrev pub fellows : (ℕ → List (ℕ × ℕ)) → ℕ → Line → List (ℕ × ℕ) → List (ℕ × ℕ)
fellows Q n l qs = fellows_by Q (naming l) qs

-- the user of a line, the line below k that names it; 0 if none does
abbrev pub if_named : ℕ → ℕ → ℕ → ℕ
if_named zero u k = u
if_named (suc t) u k = k

abbrev pub user : (ℕ → Line) → ℕ → ℕ → ℕ
user L zero m = 0
user L (suc k) m = if_named (times m (named_in (fields (L k)))) (user L k m) k

-- what is around each of the lines 1 to N: x where a line has no user, and else what its user p makes (`inner`) of what is around p.
-- Users of users are followed f times: N times are enough.
module _ {X : Type 0} (inner : ℕ → Line → X → X) (x : X) (L : ℕ → Line) (N : ℕ) where
  abbrev pub handed : ℕ → X → X
  handed zero y = x
  handed (suc p) y = inner (suc p) (L (suc p)) y

  abbrev pub around : ℕ → ℕ → X
  around zero n = x
  around (suc f) n = let p = user L (suc N) n in handed p (around f p)

-- the scope that line n stands in; s has the globals
abbrev pub scope_at : (ℕ → Line) → ℕ → Scope → ℕ → Scope
scope_at L N s n = around (inside (λ m. procedures_of (part L m))) s L N N n

-- the procedures of the system that line n is declared in, each with its line
abbrev pub fellows_at : (ℕ → Line) → ℕ → ℕ → List (ℕ × ℕ)
fellows_at L N n = around (fellows (λ m. procedures_of (part L m))) [] L N N n
