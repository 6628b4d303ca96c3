-- What a sheet is refused for: the faults of its lines, each by its number. L has the lines, and N is the last one's number.
use Rattle.std.specs.Prelude.{◌≡◌, ℕ, suc, ◌<◌, ◌≤◌, true, false, ◌⊎◌, List, [], ◌∷◌, length, ℤ, ◌≤ℤ◌}
use Rattle.lines.specs.declared.records.Line.{Line}
use Rattle.script.specs.Tree.{line, part}
use Rattle.script.specs.Apart.{Scope, globals_of}
use Rattle.script.specs.Lists.{Any, Each, times}
use Rattle.script.specs.Scoped.{Among}
use Rattle.script.specs.Fields.{Field, class_of, fields, fits, is_nothing, is_statement, named_in}
use Rattle.script.specs.Around.{fellows_at, scope_at}
use Rattle.script.specs.Depth.{deepest_allowed, depth}
use Rattle.script.specs.IsScript.{same_sort}

module _ (L : ℕ → Line) (N : ℕ) where
  -- line j names line m
  abbrev pub NamesLine : ℕ → ℕ → Type 0
  NamesLine j m = 1 ≤ times m (named_in (fields (L j)))

  -- a field of line n is right: it names an earlier line of the class wanted
  abbrev pub RightField : ℕ → Field → Type 0
  RightField n f = (f.1 < n) × (fits f.0 (class_of (L f.1)) ≡ true)

  -- 6: not every field of line n is right
  abbrev pub NamesAmiss : ℕ → Type 0
  NamesAmiss n = ¬ (Each (RightField n) (fields (L n)))

  -- 6: line n names a line that an earlier line names, or one line twice
  abbrev pub NamesAgain : ℕ → Type 0
  NamesAgain n = (m : ℕ) × NamesLine n m × (((j : ℕ) × (j < n) × NamesLine j m) ⊎ (2 ≤ times m (named_in (fields (L n)))))

  -- line n is a global, or else belongs to the text
  abbrev pub IsGlobal : ℕ → Type 0
  IsGlobal n = is_nothing (class_of (L n)) ≡ true

  abbrev pub InText : ℕ → Type 0
  InText n = is_nothing (class_of (L n)) ≡ false

  -- 6: line n, not the last and no global, is named by none
  abbrev pub Unnamed : ℕ → Type 0
  Unnamed n = (n < N) × InText n × ((j : ℕ) → j ≤ N → ¬ (NamesLine j n))

  -- 6: line n is a global and an earlier one is not
  abbrev pub LateGlobal : ℕ → Type 0
  LateGlobal n = IsGlobal n × ((m : ℕ) × (m < n) × InText m)

  -- 6: line n is the last and no statement
  abbrev pub EndsAmiss : ℕ → Type 0
  EndsAmiss n = (n ≡ N) × (is_statement (class_of (L n)) ≡ false)

  -- 6: line n stands out of the form of a statement's tree behind some globals
  abbrev pub OutOfForm : ℕ → Type 0
  OutOfForm n = NamesAmiss n ⊎ (NamesAgain n ⊎ (Unnamed n ⊎ (LateGlobal n ⊎ EndsAmiss n)))

  -- 8: line n is a global with the name of an earlier one of its sort
  abbrev pub GlobalAgain : ℕ → Type 0
  GlobalAgain n = (m a b c : ℕ) × (0 < m) × (m < n) × (L m ≡ Line.Global a b) × (L n ≡ Line.Global a c) × (same_sort b c ≡ true)

  -- 8: line n is a procedure whose formals have one name, or with the name of a procedure of its system on an earlier line
  abbrev pub ProcedureAgain : ℕ → Type 0
  ProcedureAgain n = (q x y b : ℕ) × (L n ≡ Line.Procedure q x y b) × ((x ≡ y) ⊎ Any (λ r. (r.0 < n) × (r.1 ≡ q)) (fellows_at L N n))

  -- 8: line n declares a name again
  abbrev pub NameAgain : ℕ → Type 0
  NameAgain n = GlobalAgain n ⊎ ProcedureAgain n

  -- a line that uses a name which the scope s has not
  abbrev pub UndeclaredName : Scope → Line → Type 0
  UndeclaredName s l =
      ((a : ℕ) × (l ≡ Line.Simple a) × (¬ (Among s.simples a)))
      ⊎ (((a b : ℕ) × (l ≡ Line.Element a b) × (¬ (Among s.arrays a)))
      ⊎ ((a b c : ℕ) × (l ≡ Line.Call a b c) × (¬ (Among s.procs a))))

  -- 7: line n uses a name that no declaration around it has; s has the globals
  abbrev pub Undeclared : Scope → ℕ → Type 0
  Undeclared s n = UndeclaredName (scope_at L N s n) (L n)

  -- 9: line n is an expression or a condition too deep
  abbrev pub TooDeep : ℕ → Type 0
  TooDeep n = deepest_allowed < depth (part L n)

  -- 10: line n is a constant that is none of the kind's
  abbrev pub OutOfKind : ℤ → ℤ → ℕ → Type 0
  OutOfKind low high n = (k : ℤ) × (L n ≡ Line.Constant k) × (¬ ((low ≤ℤ k) × (k ≤ℤ high)))

-- the causes of refusal
pub data Reason : Type 0 where
  out_of_form name_again undeclared too_deep out_of_kind : Reason

-- the order in which they are looked for, each over the whole sheet before the next
abbrev pub order : List Reason
order = out_of_form ∷ name_again ∷ undeclared ∷ too_deep ∷ out_of_kind ∷ []

-- the numbers by which they are told
abbrev pub number_of : Reason → ℕ
number_of out_of_form = 6
number_of name_again = 8
number_of undeclared = 7
number_of too_deep = 9
number_of out_of_kind = 10

-- line n of the sheet has the fault
abbrev pub Fault : ℤ → ℤ → List Line → Reason → ℕ → Type 0
Fault low high ls out_of_form n = OutOfForm (line ls) (length ls) n
Fault low high ls name_again n = NameAgain (line ls) (length ls) n
Fault low high ls undeclared n = Undeclared (line ls) (length ls) (globals_of ls).scope n
Fault low high ls too_deep n = TooDeep (line ls) (length ls) n
Fault low high ls out_of_kind n = OutOfKind (line ls) (length ls) low high n

-- no line below k has the fault C
abbrev pub Without : (ℕ → Type 0) → ℕ → Type 0
Without C k = (m : ℕ) → m < k → ¬ (C m)

-- line n, below k, is the lowest that has it
abbrev pub LowestWith : (ℕ → Type 0) → ℕ → ℕ → Type 0
LowestWith C k n = (n < k) × C n × Without C n

-- the first of the causes that a line below k has, told by its number c and the lowest such line n
abbrev pub FirstOf : (Reason → ℕ → Type 0) → ℕ → List Reason → ℕ → ℕ → Type 0
FirstOf C k [] c n = ⊥
FirstOf C k (r ∷ rs) c n = ((c ≡ number_of r) × LowestWith (C r) k n) ⊎ (Without (C r) k × FirstOf C k rs c n)

-- a sheet is refused for the number c and the line n (an empty sheet for the line 0)
abbrev pub Refused : ℤ → ℤ → List Line → ℕ → ℕ → Type 0
Refused low high ls = FirstOf (Fault low high ls) (suc (length ls)) order
