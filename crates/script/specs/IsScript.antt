-- Which sheets are scripts.
use Rattle.std.specs.Prelude.{◌≡◌, ℕ, zero, suc, ◌<◌, ◌≤◌, Bool, true, false, List, [], ◌∷◌, length, ℤ, ◌≤ℤ◌}
use Rattle.lines.specs.declared.records.Line.{Line}
use Rattle.script.specs.Script.{Declarations, Statement, assign, both, branch, call, joined, new_array, new_simple, procedure, system}
use Rattle.script.specs.Tree.{line, part, statement}
use Rattle.script.specs.Apart.{globals_of, past_globals}
use Rattle.script.specs.Lists.{EachOnce, times}
use Rattle.script.specs.Scoped.{Scoped}
use Rattle.script.specs.Fields.{tree}
use Rattle.script.specs.Around.{procedures}
use Rattle.script.specs.Depth.{deepest_allowed, depth}

-- two globals, by their lengths: both simple variables (length 0), or both arrays
abbrev pub same_sort : ℕ → ℕ → Bool
same_sort zero zero = true
same_sort zero (suc c) = false
same_sort (suc b) zero = false
same_sort (suc b) (suc c) = true

-- the names of procedures that are listed with their lines
abbrev pub called : List (ℕ × ℕ) → List ℕ
called [] = []
called (r ∷ rs) = r.1 ∷ called rs

-- the procedures of a system have different names, and so have the two formals of a procedure
abbrev mutual
  pub Distinct : Statement → Type 0
  Distinct (assign l p e) = Unit {0}
  Distinct (both l a b) = Distinct a × Distinct b
  Distinct (branch l c a b) = Distinct a × Distinct b
  Distinct (call l q e p) = Unit {0}
  Distinct (new_simple l x a) = Distinct a
  Distinct (new_array l x n a) = Distinct a
  Distinct (system l d a) = EachOnce (called (procedures d)) × DistinctBodies d × Distinct a

  pub DistinctBodies : Declarations → Type 0
  DistinctBodies (procedure l q x y b) = (¬ (x ≡ y)) × Distinct b
  DistinctBodies (joined d e) = DistinctBodies d × DistinctBodies e

-- A sheet is a script of the number kind with the constants from low to high: some globals, and then exactly the lines of one statement's
-- tree, each once. (Parts stand before wholes, since a line's part grows from those of earlier lines alone; a global grows to no part.)
pub record IsScript (low high : ℤ) (ls : List Line) : Type 0 where
  -- the last line, with the lines that it names and those that they name, is a statement
  pub text : Statement
  pub is : part (line ls) (length ls) ≡ statement text
  -- every line behind the globals stands in its tree, once
  pub each_once : (l : ℕ) → past_globals ls ≤ l → l ≤ length ls → times l (tree (line ls) (length ls)) ≡ 1
  -- two globals of one name are a simple variable and an array
  pub globals_differ : (m n a b c : ℕ) → 0 < m → m < n → n ≤ length ls → line ls m ≡ Line.Global a b → line ls n ≡ Line.Global a c → same_sort b c ≡ false
  pub distinct : Distinct text
  -- every used name is declared around its use, or a global's
  pub scoped : Scoped (globals_of ls).scope text
  -- no expression and no condition is too deep
  pub shallow : (n : ℕ) → n ≤ length ls → depth (part (line ls) n) ≤ deepest_allowed
  -- every constant is one of the kind's
  pub of_kind : (n : ℕ) (k : ℤ) → n ≤ length ls → line ls n ≡ Line.Constant k → (low ≤ℤ k) × (k ≤ℤ high)
