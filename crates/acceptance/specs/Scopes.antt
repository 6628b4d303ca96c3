-- Looking a name up, as the program asks for it: from the innermost declaration outwards. Nothing here needs to be believed: what the
-- records of an accepted sheet tell is `Resolved` of the crate standing, and `Belonging` (proofs) ties this to it.
use Rattle.std.specs.Prelude.{◌≡◌, ℕ, zero, suc, ◌+◌, Bool, true, false, List, [], ◌∷◌, ◌++◌, map, length, Some, None, Option, ◌==◌}
use Rattle.std.specs.Option.{option_or}
use Rattle.lines.specs.declared.records.Line.{Line}
use Rattle.lines.specs.declared.records.Role.{Role}
use Rattle.lines.specs.declared.records.Role.TheVariants.{Declared, ValueFormal, VariableFormal, GlobalSimple, GlobalArray}
use Rattle.lines.specs.declared.records.Declaration.{Declaration}
use Rattle.acceptance.specs.declared.globals.Globals.{Globals}
use Rattle.acceptance.specs.declared.globals.GlobalSort.{GlobalSort}
use Rattle.acceptance.specs.declared.globals.GlobalSort.TheVariants as Global
use Rattle.acceptance.specs.declared.declared.Sought.{Sought}
use Rattle.acceptance.specs.declared.declared.Sought.TheVariants.{Simple, Array, Procedure}
use Rattle.script.specs.Tree.{line}
use Rattle.script.specs.Apart.{heads}
use Rattle.script.specs.Around.{Naming, around, joins, naming, opens_array, opens_body, opens_simple, opens_system, silent, uses_array, uses_procedure, uses_simple}
use Rattle.script.specs.Tests.{under}

-- a declaration with the name that it is for
abbrev pub Entry : Type 0
Entry = ℕ × Declaration

abbrev pub at : ℕ → Role → Declaration
at l r = record { line = l; role = r }

abbrev pub when : {A : Type 0} → Bool → A → Option A
when true a = Some a
when false a = None

-- the last declaration of a name
abbrev pub last_declared : List Entry → ℕ → Option Declaration
last_declared [] a = None
last_declared (e ∷ es) a = option_or (last_declared es a) (when (e.0 == a) e.1)

-- procedures that are listed with their lines
abbrev pub procedure_entries : List (ℕ × ℕ) → List Entry
procedure_entries [] = []
procedure_entries (r ∷ rs) = (r.1, at r.0 Declared) ∷ procedure_entries rs

-- what line p declares, of the sort that is sought, for the lines that it names; Q has the procedures at each line
abbrev pub simple_entries : ℕ → Naming → List Entry
simple_entries p silent = []
simple_entries p (uses_simple x) = []
simple_entries p (uses_array x) = []
simple_entries p (uses_procedure x) = []
simple_entries p (opens_simple x) = (x, at p Declared) ∷ []
simple_entries p (opens_array x) = []
simple_entries p (opens_system d) = []
simple_entries p (opens_body q x y) = (x, at p ValueFormal) ∷ (y, at p VariableFormal) ∷ []
simple_entries p (joins x y) = []

abbrev pub array_entries : ℕ → Naming → List Entry
array_entries p silent = []
array_entries p (uses_simple x) = []
array_entries p (uses_array x) = []
array_entries p (uses_procedure x) = []
array_entries p (opens_simple x) = []
array_entries p (opens_array x) = (x, at p Declared) ∷ []
array_entries p (opens_system d) = []
array_entries p (opens_body q x y) = []
array_entries p (joins x y) = []

abbrev pub system_entries : (ℕ → List (ℕ × ℕ)) → Naming → List Entry
system_entries Q silent = []
system_entries Q (uses_simple x) = []
system_entries Q (uses_array x) = []
system_entries Q (uses_procedure x) = []
system_entries Q (opens_simple x) = []
system_entries Q (opens_array x) = []
system_entries Q (opens_system d) = procedure_entries (Q d)
system_entries Q (opens_body q x y) = []
system_entries Q (joins x y) = []

abbrev pub entries : Sought → (ℕ → List (ℕ × ℕ)) → ℕ → Naming → List Entry
entries Simple Q p g = simple_entries p g
entries Array Q p g = array_entries p g
entries Procedure Q p g = system_entries Q g

-- the sort of name that a sort of global has
abbrev pub sought_for : GlobalSort → Sought
sought_for Global.Simple = Simple
sought_for Global.Array = Array

-- how many cells a global of that length takes
abbrev pub cells_of : ℕ → ℕ
cells_of zero = 1
cells_of (suc n) = suc n

-- a global of that length on line n, from cell c on, where it is of the sort that is sought
abbrev pub global_entry : Sought → (n c name length : ℕ) → List Entry
global_entry Simple n c a zero = (a, at n (GlobalSimple c)) ∷ []
global_entry Simple n c a (suc k) = []
global_entry Array n c a zero = []
global_entry Array n c a (suc k) = (a, at n (GlobalArray c (suc k))) ∷ []
global_entry Procedure n c a k = []

-- the entry of a record that may be there
abbrev pub listed : {X : Type 0} → (X → Entry) → Option X → List Entry
listed f None = []
listed f (Some x) = f x ∷ []

-- the globals from line n and cell c on
abbrev pub global_entries : Sought → (n c : ℕ) → List (ℕ × ℕ) → List Entry
global_entries k n c [] = []
global_entries k n c (g ∷ gs) = global_entry k n c g.0 g.1 ++ global_entries k (suc n) (c + cells_of g.1) gs

-- the tables have the globals of the sheet
abbrev pub HasGlobals : List Line → Globals → Type 0
HasGlobals ls g =
    (map (λ s. (s.name, s.declaration)) g.simples.items ≡ global_entries Simple 1 0 (heads ls))
    × (map (λ s. (s.name, s.declaration)) g.arrays.items ≡ global_entries Array 1 0 (heads ls))

module _ (k : Sought) (a : ℕ) (ls : List Line) where
  -- a global of that name
  abbrev pub global_declared : Option Declaration
  global_declared = last_declared (global_entries k 1 0 (heads ls)) a

  -- the innermost declaration of the name around a line, users of users followed f times
  abbrev pub declared_from : ℕ → ℕ → Option Declaration
  declared_from f n = around (λ p l o. option_or (last_declared (entries k (under (line ls)) p (naming l)) a) o) global_declared (line ls) (length ls) f n

  abbrev pub declared_around : ℕ → Option Declaration
  declared_around n = declared_from (length ls) n

-- the line of the system that what is joined at a line belongs to, where there is one
abbrev pub system_by : ℕ → Naming → Option ℕ → Option ℕ
system_by p silent s = None
system_by p (uses_simple a) s = None
system_by p (uses_array a) s = None
system_by p (uses_procedure a) s = None
system_by p (opens_simple a) s = None
system_by p (opens_array a) s = None
system_by p (opens_system d) s = Some p
system_by p (opens_body q x y) s = None
system_by p (joins a b) s = s

abbrev pub system_from : List Line → ℕ → ℕ → Option ℕ
system_from ls f n = around (λ p l s. system_by p (naming l) s) None (line ls) (length ls) f n

abbrev pub system_at : List Line → ℕ → Option ℕ
system_at ls n = system_from ls (length ls) n

-- what the record of a procedure of the system at that line tells
abbrev pub of_system : Option ℕ → Option Declaration
of_system None = None
of_system (Some s) = Some (at s Declared)

-- what the record of line n tells
abbrev pub told_by : List Line → ℕ → Naming → Option Declaration
told_by ls n silent = None
told_by ls n (uses_simple a) = declared_around Simple a ls n
told_by ls n (uses_array a) = declared_around Array a ls n
told_by ls n (uses_procedure a) = declared_around Procedure a ls n
told_by ls n (opens_simple a) = None
told_by ls n (opens_array a) = None
told_by ls n (opens_system d) = None
told_by ls n (opens_body q x y) = of_system (system_at ls n)
told_by ls n (joins a b) = None

abbrev pub declaration_at : List Line → ℕ → Option Declaration
declaration_at ls n = told_by ls n (naming (line ls n))
