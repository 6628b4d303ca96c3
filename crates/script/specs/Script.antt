-- The text of a script, as the copy rule rewrites it. Names are numbers; a statement keeps the number of its line.
use Rattle.std.specs.Prelude.{ℕ, Bool, true, false, ℤ, ◌==◌}
use Rattle.lines.specs.declared.sorts.Operator.{Operator}
use Rattle.lines.specs.declared.sorts.Relation.{Relation}

-- what words are worked from
mutual
  -- what can be assigned to, and passed for a variable formal
  pub data Place : Type 0 where
    simple : ℕ → Place
    element : ℕ → Expression → Place
    -- an element whose index a call has worked out and fixed
    fixed : ℕ → ℕ → Place

  -- what has a word
  pub data Expression : Type 0 where
    constant : ℤ → Expression
    word_of : Place → Expression
    work : Operator → Expression → Expression → Expression
    choose : Condition → Expression → Expression → Expression

  -- what is true or false
  pub data Condition : Type 0 where
    truth : Bool → Condition
    compared : Relation → Expression → Expression → Condition
    negated : Condition → Condition
    implies : Condition → Condition → Condition

-- what a run does; the first number of each is its line
mutual
  pub data Statement : Type 0 where
    assign : ℕ → Place → Expression → Statement
    both : ℕ → Statement → Statement → Statement
    branch : ℕ → Condition → Statement → Statement → Statement
    call : ℕ → ℕ → Expression → Place → Statement
    new_simple : ℕ → ℕ → Statement → Statement
    new_array : ℕ → ℕ → ℕ → Statement → Statement
    system : ℕ → Declarations → Statement → Statement

  -- the procedures of a system: line, name, value formal, variable formal and body of each
  pub data Declarations : Type 0 where
    procedure : ℕ → ℕ → ℕ → ℕ → Statement → Declarations
    joined : Declarations → Declarations → Declarations

-- A replacement: what stands in place of each simple variable, array and procedure.
pub record Replacement : Type 0 where
  pub place : ℕ → Place
  pub array : ℕ → ℕ
  pub proc : ℕ → ℕ

-- a at x, and else as f has it
abbrev pub only : {A : Type 0} → ℕ → A → (ℕ → A) → ℕ → A
only x a f y = elim (x == y) [ true ↦ a | false ↦ f y ]

-- one simple variable, one array, one procedure replaced, all else kept
abbrev pub for_simple : ℕ → Place → Replacement
for_simple x p = record { place = only x p simple; array = λ a. a; proc = λ q. q }

abbrev pub for_array : ℕ → ℕ → Replacement
for_array a b = record { place = simple; array = only a b (λ z. z); proc = λ q. q }

abbrev pub for_proc : ℕ → ℕ → Replacement
for_proc p q = record { place = simple; array = λ z. z; proc = only p q (λ z. z) }

-- A replacement goes straight through a text: names are told apart, so that none is caught.
abbrev mutual
  pub in_place : Replacement → Place → Place
  in_place r (simple x) = r.place x
  in_place r (element a i) = element (r.array a) (in_expression r i)
  in_place r (fixed a i) = fixed (r.array a) i

  pub in_expression : Replacement → Expression → Expression
  in_expression r (constant n) = constant n
  in_expression r (word_of p) = word_of (in_place r p)
  in_expression r (work o a b) = work o (in_expression r a) (in_expression r b)
  in_expression r (choose c a b) = choose (in_condition r c) (in_expression r a) (in_expression r b)

  pub in_condition : Replacement → Condition → Condition
  in_condition r (truth b) = truth b
  in_condition r (compared o a b) = compared o (in_expression r a) (in_expression r b)
  in_condition r (negated c) = negated (in_condition r c)
  in_condition r (implies c d) = implies (in_condition r c) (in_condition r d)

abbrev mutual
  pub in_statement : Replacement → Statement → Statement
  in_statement r (assign l p e) = assign l (in_place r p) (in_expression r e)
  in_statement r (both l s t) = both l (in_statement r s) (in_statement r t)
  in_statement r (branch l c s t) = branch l (in_condition r c) (in_statement r s) (in_statement r t)
  in_statement r (call l q e p) = call l (r.proc q) (in_expression r e) (in_place r p)
  in_statement r (new_simple l x s) = new_simple l x (in_statement r s)
  in_statement r (new_array l a n s) = new_array l a n (in_statement r s)
  in_statement r (system l d s) = system l (in_declarations r d) (in_statement r s)

  pub in_declarations : Replacement → Declarations → Declarations
  in_declarations r (procedure l q x y s) = procedure l q x y (in_statement r s)
  in_declarations r (joined d e) = joined (in_declarations r d) (in_declarations r e)
