-- What a program computes to find the faults: a test of each line for each cause. Nothing here needs to be believed:
-- `AcceptedExactly` (specs/Laws) ties the tests to `IsScript` and to `Refused`.
-- G is the number of the first line behind the globals.
use Rattle.std.specs.Prelude.{ℕ, zero, suc, max, Bool, true, false, not, ◌&&◌, ◌||◌, List, [], ◌∷◌, ◌++◌, length, ℤ, Some, None, Option, ◌==◌, int_le, nat_le, nat_lt, slice_index, slice_index_or}
use Rattle.lines.specs.declared.records.Line.{Line}
use Rattle.script.specs.Tree.{at_line, line}
use Rattle.script.specs.Apart.{Scope, as_global, globals_of, past_globals}
use Rattle.script.specs.Lists.{times}
use Rattle.script.specs.Fields.{Class, Field, class_of, fields, fits, is_nothing, is_statement, named_in, of_condition, of_expression}
use Rattle.script.specs.Around.{Naming, around, fellows, inside, joins, naming, opens_array, opens_body, opens_simple, opens_system, silent, uses_array, uses_procedure, uses_simple}
use Rattle.script.specs.Depth.{deepest_allowed}
use Rattle.script.specs.IsScript.{same_sort}
use Rattle.script.specs.Causes.{Reason, name_again, number_of, order, out_of_form, out_of_kind, too_deep, undeclared}

-- ## Form

-- a field that names an earlier line of the class wanted
abbrev pub field_fits : (ℕ → Line) → ℕ → Field → Bool
field_fits L n f = nat_lt f.1 n && fits f.0 (class_of (L f.1))

abbrev pub fields_fit : (ℕ → Line) → ℕ → List Field → Bool
fields_fit L n [] = true
fields_fit L n (f ∷ fs) = field_fits L n f && fields_fit L n fs

abbrev pub names_amiss : (ℕ → Line) → ℕ → Bool
names_amiss L n = not (fields_fit L n (fields (L n)))

-- the lines that the lines below k name, as often as they name them
abbrev pub named : (ℕ → Line) → ℕ → List ℕ
named L zero = []
named L (suc k) = named L k ++ named_in (fields (L k))

-- one of ms stands before, or twice among them
abbrev pub again : List ℕ → List ℕ → Bool
again before [] = false
again before (m ∷ ms) = nat_lt 0 (times m before) || again (m ∷ before) ms

abbrev pub names_again : (ℕ → Line) → ℕ → Bool
names_again L n = again (named L n) (named_in (fields (L n)))

abbrev pub is_unnamed : (ℕ → Line) → ℕ → ℕ → Bool
is_unnamed L N n = nat_lt n N && (not (is_nothing (class_of (L n))) && times n (named L (suc N)) == 0)

abbrev pub late_global : (ℕ → Line) → ℕ → ℕ → Bool
late_global L G n = nat_le G n && is_nothing (class_of (L n))

abbrev pub ends_amiss : (ℕ → Line) → ℕ → ℕ → Bool
ends_amiss L N n = n == N && not (is_statement (class_of (L n)))

abbrev pub form_amiss : (ℕ → Line) → ℕ → ℕ → ℕ → Bool
form_amiss L N G n = names_amiss L n || (names_again L n || (is_unnamed L N n || (late_global L G n || ends_amiss L N n)))

-- ## Names

-- two globals, each by its name and length, of one name and sort
abbrev pub same_global : Option (ℕ × ℕ) → Option (ℕ × ℕ) → Bool
same_global None o = false
same_global (Some g) None = false
same_global (Some g) (Some h) = g.0 == h.0 && same_sort g.1 h.1

-- a number below k passes the test t
abbrev pub any_below : (ℕ → Bool) → ℕ → Bool
any_below t zero = false
any_below t (suc k) = t k || any_below t k

abbrev pub global_again : (ℕ → Line) → ℕ → Bool
global_again L n = any_below (λ m. nat_lt 0 m && same_global (as_global (L m)) (as_global (L n))) n

-- a procedure named q on a line before n
abbrev pub taken_before : ℕ → ℕ → List (ℕ × ℕ) → Bool
taken_before n q [] = false
taken_before n q (r ∷ rs) = (nat_lt r.0 n && r.1 == q) || taken_before n q rs

-- a procedure whose formals have one name, or whose name a fellow on an earlier line has
abbrev pub repeats_by : List (ℕ × ℕ) → ℕ → Naming → Bool
repeats_by qs n silent = false
repeats_by qs n (uses_simple a) = false
repeats_by qs n (uses_array a) = false
repeats_by qs n (uses_procedure a) = false
repeats_by qs n (opens_simple a) = false
repeats_by qs n (opens_array a) = false
repeats_by qs n (opens_system a) = false
repeats_by qs n (opens_body q x y) = x == y || taken_before n q qs
repeats_by qs n (joins a b) = false

abbrev pub repeats : List (ℕ × ℕ) → ℕ → Line → Bool
repeats qs n l = repeats_by qs n (naming l)

-- the procedures at line n, each with its line; Q has those at the lines that it names
abbrev pub procedures_by : (ℕ → List (ℕ × ℕ)) → ℕ → Naming → List (ℕ × ℕ)
procedures_by Q n silent = []
procedures_by Q n (uses_simple a) = []
procedures_by Q n (uses_array a) = []
procedures_by Q n (uses_procedure a) = []
procedures_by Q n (opens_simple a) = []
procedures_by Q n (opens_array a) = []
procedures_by Q n (opens_system a) = []
procedures_by Q n (opens_body q x y) = (n, q) ∷ []
procedures_by Q n (joins a b) = Q a ++ Q b

abbrev pub procedures_at : ℕ → List (List (ℕ × ℕ)) → Line → List (ℕ × ℕ)
procedures_at n qs l = procedures_by (λ m. slice_index_or qs m []) n (naming l)

-- the procedures under line n, each line's grown from those of the lines before it
abbrev pub under : (ℕ → Line) → ℕ → List (ℕ × ℕ)
under = at_line procedures_at

-- what `fellows_at` is on a sheet in form, by lines alone
abbrev pub fellows_by_lines : (ℕ → Line) → ℕ → ℕ → List (ℕ × ℕ)
fellows_by_lines L N n = around (fellows (under L)) [] L N N n

abbrev pub procedure_again : (ℕ → Line) → ℕ → ℕ → Bool
procedure_again L N n = repeats (fellows_by_lines L N n) n (L n)

abbrev pub name_twice : (ℕ → Line) → ℕ → ℕ → Bool
name_twice L N n = global_again L n || procedure_again L N n

-- ## Uses

abbrev pub among : List (ℕ × ℕ) → ℕ → Bool
among [] n = false
among (p ∷ ps) n = p.0 == n || among ps n

-- a line whose name, where it uses one, the scope has
abbrev pub declared_by : Scope → Naming → Bool
declared_by s silent = true
declared_by s (uses_simple a) = among s.simples a
declared_by s (uses_array a) = among s.arrays a
declared_by s (uses_procedure a) = among s.procs a
declared_by s (opens_simple a) = true
declared_by s (opens_array a) = true
declared_by s (opens_system a) = true
declared_by s (opens_body q x y) = true
declared_by s (joins a b) = true

abbrev pub declared : Scope → Line → Bool
declared s l = declared_by s (naming l)

-- what `scope_at` is on a sheet in form, by lines alone
abbrev pub scope_by_lines : (ℕ → Line) → ℕ → Scope → ℕ → Scope
scope_by_lines L N s n = around (inside (under L)) s L N N n

abbrev pub not_declared : (ℕ → Line) → ℕ → Scope → ℕ → Bool
not_declared L N s n = not (declared (scope_by_lines L N s n) (L n))

-- ## Limits

-- lines that have a depth: expressions and conditions
abbrev pub has_depth : Class → Bool
has_depth c = fits of_expression c || fits of_condition c

-- the greatest of the depths d of some lines
abbrev pub deepest : (ℕ → ℕ) → List ℕ → ℕ
deepest d [] = 0
deepest d (m ∷ ms) = max (d m) (deepest d ms)

-- the depth at line n, from those at the lines before it
abbrev pub depth_of : ℕ → List ℕ → Line → ℕ
depth_of n ds l = elim (has_depth (class_of l)) [ true ↦ suc (deepest (λ m. slice_index ds m) (named_in (fields l))) | false ↦ 0 ]

abbrev pub over_deep : (ℕ → Line) → ℕ → Bool
over_deep L n = nat_lt deepest_allowed (at_line depth_of L n)

-- the constant that a line is
abbrev pub constant_of : Line → Option ℤ
constant_of (Line.Global a b) = None
constant_of (Line.Constant k) = Some k
constant_of (Line.Simple a) = None
constant_of (Line.Element a b) = None
constant_of (Line.Operation o a b) = None
constant_of (Line.Comparison r a b) = None
constant_of (Line.Choice a b c) = None
constant_of (Line.Truth b) = None
constant_of (Line.Negation a) = None
constant_of (Line.Implication a b) = None
constant_of (Line.Assignment a b) = None
constant_of (Line.Sequence a b) = None
constant_of (Line.Branch a b c) = None
constant_of (Line.Call a b c) = None
constant_of (Line.NewSimple a b) = None
constant_of (Line.NewArray a b c) = None
constant_of (Line.System a b) = None
constant_of (Line.Procedure a b c d) = None
constant_of (Line.Join a b) = None

abbrev pub outside_kind : ℤ → ℤ → Option ℤ → Bool
outside_kind low high None = false
outside_kind low high (Some k) = not (int_le low k && int_le k high)

abbrev pub off_kind : ℤ → ℤ → (ℕ → Line) → ℕ → Bool
off_kind low high L n = outside_kind low high (constant_of (L n))

-- ## Refusals

-- the test for each cause
abbrev pub finds_fault : ℤ → ℤ → List Line → Reason → ℕ → Bool
finds_fault low high ls out_of_form = form_amiss (line ls) (length ls) (past_globals ls)
finds_fault low high ls name_again = name_twice (line ls) (length ls)
finds_fault low high ls undeclared = not_declared (line ls) (length ls) (globals_of ls).scope
finds_fault low high ls too_deep = over_deep (line ls)
finds_fault low high ls out_of_kind = off_kind low high (line ls)

-- the lowest line below k that a test finds
abbrev pub or_here : ℕ → Bool → Option ℕ → Option ℕ
or_here k b (Some n) = Some n
or_here k true None = Some k
or_here k false None = None

abbrev pub lowest : (ℕ → Bool) → ℕ → Option ℕ
lowest t zero = None
lowest t (suc k) = or_here k (t k) (lowest t k)

-- the number of the first cause whose test finds a line below k, and the lowest line that it finds
abbrev pub or_later : ℕ → Option ℕ → Option (ℕ × ℕ) → Option (ℕ × ℕ)
or_later c (Some n) r = Some (c, n)
or_later c None r = r

abbrev pub first_refusal : (Reason → ℕ → Bool) → ℕ → List Reason → Option (ℕ × ℕ)
first_refusal t k [] = None
first_refusal t k (r ∷ rs) = or_later (number_of r) (lowest (t r) k) (first_refusal t k rs)

-- the number and the line that a sheet is refused for
abbrev pub refusal : ℤ → ℤ → List Line → Option (ℕ × ℕ)
refusal low high ls = first_refusal (finds_fault low high ls) (suc (length ls)) order
