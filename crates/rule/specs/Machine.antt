-- A machine that runs the told-apart text as it stands: it keeps addresses and environments, and never replaces text.
use Rattle.std.specs.Prelude.{ℕ, zero, suc, ◌+◌, Bool, true, false, List, [], ◌∷◌, ◌++◌, nat_le, nat_lt, slice_set}
use Rattle.kinds.specs.Arithmetic.{Arithmetic}
use Rattle.rule.specs.Work.{Work, gives, faults}
use Rattle.script.specs.Script.{Statement, assign, both, branch, call, new_simple, new_array, system}
use Rattle.script.specs.Script.{Declarations, procedure, joined, only}
use Rattle.script.specs.Names.{Names, cell, cells}
use Rattle.rule.specs.Values.{value, cell_at, holds}
use Rattle.rule.specs.Rewriting.{cleared, finished, stopped, fault, Halt}

-- the declarations entered around a statement, the innermost first. A simple variable has its cell (a variable formal the cell that it
-- was called with), an array its first cell and its length; a system's procedures have the environment that ends in that very system.
pub data Env : Type 0 where
  outside : Env
  simple_in : ℕ → ℕ → Env → Env
  array_in : ℕ → ℕ → ℕ → Env → Env
  system_in : Declarations → Env → Env

-- what a procedure's name stands for: its two formals, its body and the body's environment
pub data Found : Type 0 where
  unknown : Found
  closure : ℕ → ℕ → Statement → Env → Found

abbrev pub among : Declarations → Env → (ℕ → Found) → ℕ → Found
among (procedure l q x y s) ρ g = only q (closure x y s ρ) g
among (joined d e) ρ g = among e ρ (among d ρ g)

abbrev pub procedure_at : Env → ℕ → Found
procedure_at outside = λ q. unknown
procedure_at (simple_in x c ρ) = procedure_at ρ
procedure_at (array_in a b n ρ) = procedure_at ρ
procedure_at (system_in d ρ) = among d (system_in d ρ) (procedure_at ρ)

-- what the simple variables and arrays stand for; G is for the globals
abbrev pub standing : Names → Env → Names
standing G outside = G
standing G (simple_in x c ρ) = only x (cell c) (standing G ρ)
standing G (array_in a b n ρ) = only a (cells b n) (standing G ρ)
standing G (system_in d ρ) = standing G ρ

-- a statement that is to be begun, its level, the cells in use there and its environment
pub record Item : Type 0 where
  pub text : Statement
  pub level : ℕ
  pub used : ℕ
  pub env : Env

-- what beginning a statement comes to: statements to be run next and the store, or a fault with its line and the store that it leaves
pub data Moved : Type 0 where
  moves : List Item → List ℕ → Moved
  refuses : ℕ → ℕ → List ℕ → Moved

abbrev pub tried : {A : Type 0} → ℕ → List ℕ → Work A → (A → Moved) → Moved
tried l σ (gives a) f = f a
tried l σ (faults n) f = refuses n l σ

abbrev pub deeper : (size line level used more : ℕ) → List ℕ → Moved → Moved
deeper size line level used more σ m =
    elim (nat_lt level 512) [ true ↦ elim (nat_le (used + more) size) [ true ↦ m | false ↦ refuses 25 line σ ] | false ↦ refuses 24 line σ ]

-- a statement's puts, with the store after them, where the store has room for them or not: a refused put is fault 26, and ends the puts.
-- A put past the end of a store changes nothing, so the puts that were made leave the same store.
abbrev pub stored : Bool → ℕ → List Item → List ℕ → Moved
stored true line qs σ = moves qs σ
stored false line qs σ = refuses 26 line σ

-- The machine's steps. How a cell is read (fetch) and whether there is room for the cells below a place (room) is the store's matter.
module _ (K : Arithmetic) (size : ℕ) (fetch : List ℕ → ℕ → Work ℕ) (room : List ℕ → ℕ → Bool) (G : Names) where
  -- a call of what a name stands for, with the word w for the value formal and the cell c for the variable formal
  abbrev pub enters : Found → (line level used : ℕ) → List ℕ → ℕ → ℕ → Moved
  enters unknown line level used σ w c = refuses 0 line σ
  enters (closure x y body ρ) line level used σ w c =
      deeper size line level used 1 σ
      (stored (room σ (used + 1)) line (record { text = body; level = level + 1; used = used + 1; env = simple_in y c (simple_in x used ρ) } ∷ []) (slice_set σ used w))

  abbrev pub move : Statement → (level used : ℕ) → Env → List ℕ → Moved
  move (assign l p e) level used ρ σ =
      tried l σ (value K (standing G ρ) (fetch σ) e) (λ w. tried l σ (cell_at K (standing G ρ) (fetch σ) p) (λ c. stored (room σ (c + 1)) l [] (slice_set σ c w)))
  move (both l a b) level used ρ σ =
      deeper size l level used 0 σ
      (moves (record { text = a; level = level + 1; used = used; env = ρ } ∷ (record { text = b; level = level; used = used; env = ρ } ∷ [])) σ)
  move (branch l c a b) level used ρ σ =
      tried l σ (holds K (standing G ρ) (fetch σ) c) (λ t. moves (record { text = elim t [ true ↦ a | false ↦ b ]; level = level; used = used; env = ρ } ∷ []) σ)
  move (call l q e p) level used ρ σ =
      tried l σ (value K (standing G ρ) (fetch σ) e) (λ w. tried l σ (cell_at K (standing G ρ) (fetch σ) p) (λ c. enters (procedure_at ρ q) l level used σ w c))
  move (new_simple l x a) level used ρ σ =
      deeper size l level used 1 σ
      (stored (room σ (used + 1)) l (record { text = a; level = level + 1; used = used + 1; env = simple_in x used ρ } ∷ []) (slice_set σ used K.zero))
  move (new_array l a n b) level used ρ σ =
      deeper size l level used n σ
      (stored (room σ (used + n)) l (record { text = b; level = level + 1; used = used + n; env = array_in a used n ρ } ∷ []) (cleared n used K.zero σ))
  move (system l d a) level used ρ σ =
      deeper size l level used 0 σ
      (moves (record { text = a; level = level + 1; used = used; env = system_in d ρ } ∷ []) σ)

abbrev pub spent : List Item → List ℕ → Halt
spent [] σ = record { ending = finished; left = 0; store = σ }
spent (p ∷ ps) σ = record { ending = stopped; left = 0; store = σ }

module _ (K : Arithmetic) (size : ℕ) (fetch : List ℕ → ℕ → Work ℕ) (room : List ℕ → ℕ → Bool) (G : Names) where
  abbrev pub machine : ℕ → List Item → List ℕ → Halt
  machine zero ps σ = spent ps σ
  machine (suc n) [] σ = record { ending = finished; left = suc n; store = σ }
  machine (suc n) (p ∷ ps) σ =
      elim (move K size fetch room G p.text p.level p.used p.env σ)
      [ moves qs σ' ↦ machine n (qs ++ ps) σ' | refuses f l σ' ↦ record { ending = fault f l; left = n; store = σ' } ]
