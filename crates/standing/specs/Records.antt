-- The records of a sheet's lines, and what those of an accepted sheet tell.
use Rattle.std.specs.Prelude.{◌≡◌, ℕ, zero, suc, ◌≤◌, List, map, length, Some, None, Option}
use Rattle.std.specs.List.{slice_get}
use Rattle.lines.specs.declared.records.Line.{Line}
use Rattle.lines.specs.declared.records.Role.{Role}
use Rattle.lines.specs.declared.records.Role.TheVariants.{Declared, ValueFormal, VariableFormal, GlobalSimple, GlobalArray}
use Rattle.lines.specs.declared.records.Declaration.{Declaration}
use Rattle.lines.specs.declared.records.Record.{Record}
use Rattle.script.specs.Names.{Names, nothing, cell, cells}
use Rattle.script.specs.Tree.{line, part}
use Rattle.script.specs.Apart.{Scope, own, own_value, own_variable, found, globals_of}
use Rattle.script.specs.Lists.{Any}
use Rattle.script.specs.Around.{Naming, naming, procedures_of, scope_at, silent, uses_simple, uses_array, uses_procedure, opens_simple, opens_array, opens_system, opens_body, joins}

-- the record of line n, counted from 1
abbrev pub record_at : List Record → ℕ → Option Record
record_at rs zero = None
record_at rs (suc n) = slice_get rs n

-- what the record says, and the declaration that it tells
abbrev pub line_in : Option Record → Option Line
line_in None = None
line_in (Some r) = Some r.line

abbrev pub declaration_in : Option Record → Option Declaration
declaration_in None = None
declaration_in (Some r) = r.declaration

-- the name of its own that a line gives what it declares, by the role (see Apart)
abbrev pub own_name : ℕ → Role → ℕ
own_name l Declared = own l
own_name l ValueFormal = own_value l
own_name l VariableFormal = own_variable l
own_name l (GlobalSimple c) = own l
own_name l (GlobalArray b n) = own l

-- the role is right: a global's has its cells, and any other is of no global; G has what the globals' names stand for
abbrev pub RoleRight : Names → ℕ → Role → Type 0
RoleRight G l Declared = G (own l) ≡ nothing
RoleRight G l ValueFormal = G (own_value l) ≡ nothing
RoleRight G l VariableFormal = G (own_variable l) ≡ nothing
RoleRight G l (GlobalSimple c) = G (own l) ≡ cell c
RoleRight G l (GlobalArray b n) = G (own l) ≡ cells b n

-- the declaration is the one that the name x of its own belongs to
abbrev pub Tells : Names → Declaration → ℕ → Type 0
Tells G d x = (x ≡ own_name d.line d.role) × RoleRight G d.line d.role

module _ (ls : List Line) where
  -- the record tells the declaration that the name x of its own belongs to
  abbrev pub Told : Option Declaration → ℕ → Type 0
  Told o x = (d : Declaration) × (o ≡ Some d) × Tells (globals_of ls).names d x

  -- line s is the system that has the procedure of line n
  abbrev pub SystemOf : ℕ → ℕ → Type 0
  SystemOf s n = (a : ℕ) × (b : ℕ) × (line ls s ≡ Line.System a b) × Any (λ r. r.0 ≡ n) (procedures_of (part (line ls) a))

  -- What the record of line n tells, where s is the scope that the line stands in. A line that uses a name: the innermost declaration around it
  -- that has the name. A procedure: the line of its system. Any other line: nothing.
  abbrev pub Belongs : ℕ → Scope → Naming → Option Declaration → Type 0
  Belongs n s silent o = o ≡ None
  Belongs n s (uses_simple a) o = Told o (found s.simples a)
  Belongs n s (uses_array a) o = Told o (found s.arrays a)
  Belongs n s (uses_procedure a) o = Told o (found s.procs a)
  Belongs n s (opens_simple a) o = o ≡ None
  Belongs n s (opens_array a) o = o ≡ None
  Belongs n s (opens_system a) o = o ≡ None
  Belongs n s (opens_body q x y) o = (m : ℕ) × (o ≡ Some (record { line = m; role = Declared })) × SystemOf m n
  Belongs n s (joins a b) o = o ≡ None

-- the records of a sheet's lines once the sheet is accepted
pub record Resolved (ls : List Line) (rs : List Record) : Type 0 where
  pub lines : map (λ r. r.line) rs ≡ ls
  pub belongs : (n : ℕ) → n ≤ length ls
      → Belongs ls n (scope_at (line ls) (length ls) (globals_of ls).scope n) (naming (line ls n)) (declaration_in (record_at rs n))
