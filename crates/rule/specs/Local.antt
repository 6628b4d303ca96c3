-- Cells that are not in use do not matter: the machine's runs from stores that agree on the cells in use end alike.
use Rattle.std.specs.Prelude.{◌≡◌, ℕ, ◌+◌, ◌<◌, ◌≤◌, ◌↔◌, List, [], ◌∷◌, length, take, ℤ}
use Rattle.kinds.specs.Arithmetic.{Arithmetic}
use Rattle.script.specs.Names.{Names, Standing, nothing, cell, cells, code}
use Rattle.rule.specs.Rewriting.{Halt}
use Rattle.rule.specs.Machine.{Env, outside, simple_in, array_in, system_in, Item, machine}
use Rattle.lines.specs.declared.records.Line.{Line}
use Rattle.script.specs.Apart.{globals_of, first_fresh}
use Rattle.script.specs.IsScript.{IsScript}
use Rattle.rule.specs.Closing.{Closing, Closes, IsOver, own_fetch, own_room, program_of, start}
use Rattle.rule.specs.Rewriting.{rewrite}

-- cells of a name below u
abbrev pub Sits : ℕ → Standing → Type 0
Sits u nothing = Unit {0}
Sits u (cell c) = c < u
Sits u (cells b n) = b + n ≤ u
Sits u (code x y s) = Unit {0}

abbrev pub Bounded : Env → ℕ → Type 0
Bounded outside u = Unit {0}
Bounded (simple_in x c ρ) u = (c < u) × Bounded ρ u
Bounded (array_in a b n ρ) u = (b + n ≤ u) × Bounded ρ u
Bounded (system_in d ρ) u = Bounded ρ u

-- down the statements to be begun the cells in use grow fewer, to the globals' at least, and each environment has only cells in use
abbrev pub Orderly : ℕ → ℕ → List Item → Type 0
Orderly taken u [] = taken ≤ u
Orderly taken u (p ∷ ps) = (p.used ≤ u) × Bounded p.env p.used × Orderly taken p.used ps

pub record Agree (u : ℕ) (σ τ : List ℕ) : Type 0 where
  pub front : take u σ ≡ take u τ
  pub long : length σ ≡ length τ

pub record SameHalt (taken : ℕ) (a b : Halt) : Type 0 where
  pub ending : a.ending ≡ b.ending
  pub left : a.left ≡ b.left
  pub store : Agree taken a.store b.store

abbrev pub Local : Type 0
Local = (K : Arithmetic) (size : ℕ) (G : Names) (taken : ℕ) → ((z : ℕ) → Sits taken (G z))
    → (n u : ℕ) (ps : List Item) (σ τ : List ℕ) → Orderly taken u ps → Agree u σ τ
    → SameHalt taken (machine K size own_fetch own_room G n ps σ) (machine K size own_fetch own_room G n ps τ)

-- a script's runs by the copy rule, from stores of one length that agree on the globals' cells: equal endings, allowances left and globals,
-- whatever the other cells hold
abbrev pub GlobalsSuffice : Type 0
GlobalsSuffice = (K : Arithmetic) (size : ℕ) (low high : ℤ) (ls : List Line) → length ls ≤ 2048 → (s : IsScript low high ls)
    → (n : ℕ) (σ τ : List ℕ) → Agree (globals_of ls).taken σ τ
    → let run : List ℕ → Halt = λ store. rewrite K size own_fetch n (start (program_of ls s.text)) (record { names = (globals_of ls).names; fresh = first_fresh; store = store }) in
    SameHalt (globals_of ls).taken (run σ) (run τ)

-- closings that tell the same of the globals' cells
pub record SameClosing (taken : ℕ) (c d : Closing) : Type 0 where
  pub ending : c.ending ≡ d.ending
  pub count : c.count ≡ d.count
  pub store : Agree taken c.store d.store

-- and so, with every allowance: equal endings, counts and globals in its closings, and it is over from the one store exactly where it is from the other
abbrev pub ClosingsAlike : Type 0
ClosingsAlike = (K : Arithmetic) (size : ℕ) (low high : ℤ) (ls : List Line) → length ls ≤ 2048 → (s : IsScript low high ls)
    → (n : ℕ) (σ τ : List ℕ) → Agree (globals_of ls).taken σ τ
    → let P = program_of ls s.text in
    ((c d : Closing) → Closes K P size σ n c → Closes K P size τ n d → SameClosing (globals_of ls).taken c d)
    × (IsOver K P size σ n ↔ IsOver K P size τ n)
