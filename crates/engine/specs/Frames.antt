-- When the levels of a run stand for an environment of the machine.
use Rattle.std.specs.Prelude.{◌≡◌, ℕ, zero, suc, ◌<◌, ◌≤◌, Bool, true, false, List, Some, None, Option, ◌==◌}
use Rattle.std.specs.List.{slice_get}
use Rattle.lines.specs.declared.records.Record.{Record}
use Rattle.lines.specs.declared.records.Declaration.{Declaration}
use Rattle.lines.specs.declared.records.Role.{Role}
use Rattle.lines.specs.declared.records.Role.TheVariants.{Declared, ValueFormal, VariableFormal, GlobalSimple, GlobalArray}
use Rattle.script.specs.Script.{Declarations}
use Rattle.script.specs.Names.{Names, Standing, nothing, cell, cells}
use Rattle.script.specs.Apart.{own, own_value, own_variable}
use Rattle.standing.specs.Records.{Tells}
use Rattle.standing.specs.Standing.{Owns, ProcedureOf, StandsDeclarations, StandsStatement}
use Rattle.rule.specs.Machine.{Env, outside, simple_in, array_in, system_in, standing, Found, unknown, closure, procedure_at}
use Rattle.engine.specs.declared.frame.Binding.{Binding}
use Rattle.engine.specs.declared.frame.Binding.TheVariants.{Script, Sequel, Simple, Array, System, Call}
use Rattle.engine.specs.declared.frame.Frame.{Frame}
use Rattle.engine.specs.declared.frame.Stand.{Stand}
use Rattle.engine.specs.declared.frame.Stand.TheVariants.{Cell, Cells}

module _ (G : Names) (rs : List Record) where
  -- what the binding of level k, made by line l, adds to the environment around it, of which `go` speaks
  abbrev pub Binds : ℕ → Binding → ℕ → Env → (Env → Type 0) → Type 0
  Binds k Script l ρ go = (k ≡ 0) × (ρ ≡ outside)
  Binds k Sequel l ρ go = go ρ
  Binds k (Simple c) l ρ go = (σ : Env) × (ρ ≡ simple_in (own l) c σ) × (G (own l) ≡ nothing) × go σ
  Binds k (Array b n) l ρ go = (σ : Env) × (ρ ≡ array_in (own l) b n σ) × (G (own l) ≡ nothing) × go σ
  Binds k System l ρ go = (d : Declarations) × (j : ℕ) × (σ : Env) × (ρ ≡ system_in d σ) × StandsDeclarations G rs d j l × Owns rs d l × go σ
  Binds k (Call c v) l ρ go = (σ : Env) × (ρ ≡ simple_in (own_variable l) v (simple_in (own_value l) c σ)) × go σ

  -- and the level around it has a lower number
  abbrev pub Link : Option Frame → ℕ → Env → (ℕ → Env → Type 0) → Type 0
  Link None k ρ go = ⊥
  Link (Some f) k ρ go = Binds k f.binding f.line ρ (λ σ. (f.outer < k) × go f.outer σ)

  -- with at most n levels around it
  abbrev pub Framed : List Frame → ℕ → ℕ → Env → Type 0
  Framed fs zero k ρ = ⊥
  Framed fs (suc n) k ρ = Link (slice_get fs k) k ρ (Framed fs n)

  -- level k, with the levels around it, stands for the environment
  abbrev pub FramesStand : List Frame → ℕ → Env → Type 0
  FramesStand fs k ρ = (n : ℕ) × Framed fs n k ρ

abbrev pub when : {A : Type 0} → Bool → Option A → Option A
when true a = a
when false a = None

-- what a binding makes of its line's declaration
abbrev pub bound_as : Binding → Role → Option Stand
bound_as (Simple c) Declared = Some (Cell c)
bound_as (Simple c) ValueFormal = None
bound_as (Simple c) VariableFormal = None
bound_as (Simple c) (GlobalSimple a) = None
bound_as (Simple c) (GlobalArray a k) = None
bound_as (Array b n) Declared = Some (Cells b n)
bound_as (Array b n) ValueFormal = None
bound_as (Array b n) VariableFormal = None
bound_as (Array b n) (GlobalSimple a) = None
bound_as (Array b n) (GlobalArray a k) = None
bound_as (Call c v) Declared = None
bound_as (Call c v) ValueFormal = Some (Cell c)
bound_as (Call c v) VariableFormal = Some (Cell v)
bound_as (Call c v) (GlobalSimple a) = None
bound_as (Call c v) (GlobalArray a k) = None
bound_as Script r = None
bound_as Sequel r = None
bound_as System r = None

-- what the binding that line m made binds the name of line l's declaration to
abbrev pub bound : Binding → ℕ → ℕ → Role → Option Stand
bound b m l r = when (m == l) (bound_as b r)

abbrev pub or_else : Option Stand → Standing → Standing
or_else None s = s
or_else (Some (Cell c)) s = cell c
or_else (Some (Cells b n)) s = cells b n

abbrev pub stands_as : Option Stand → Standing
stands_as r = or_else r nothing

-- a binding is a system's, and of the line that is asked for
abbrev pub is_system : Binding → Bool → Bool
is_system Script same = false
is_system Sequel same = false
is_system (Simple c) same = false
is_system (Array b n) same = false
is_system System same = same
is_system (Call c v) same = false

-- the level, at most m, that a call of the procedure of line p with its body at line b goes on from, by what its name stands for
abbrev pub Callable : Names → List Record → List Frame → ℕ → ℕ → ℕ → Option ℕ → Found → Type 0
Callable G rs fs m p b None unknown = Unit {0}
Callable G rs fs m p b None (closure x y s ρ) = ⊥
Callable G rs fs m p b (Some k) unknown = ⊥
Callable G rs fs m p b (Some k) (closure x y s ρ) = (x ≡ own_value p) × (y ≡ own_variable p) × StandsStatement G rs s b × FramesStand G rs fs k ρ × (k ≤ m)

module _ (rs : List Record) (fs : List Frame) (level : ℕ) where
  -- the levels bind the name of the declaration so, or else leave it to the globals
  abbrev pub BoundIs : Declaration → Option Stand → Type 0
  BoundIs d r = (G : Names) (ρ : Env) (x : ℕ) → FramesStand G rs fs level ρ → Tells G d x → standing G ρ x ≡ or_else r (G x)

  -- the name stands for that
  abbrev pub StandIs : Declaration → Option Stand → Type 0
  StandIs d r = (G : Names) (ρ : Env) (x : ℕ) → FramesStand G rs fs level ρ → Tells G d x → standing G ρ x ≡ stands_as r

  -- the procedures of the system of that line can be called from the level r
  abbrev pub SystemIs : ℕ → Option ℕ → Type 0
  SystemIs line r = (G : Names) (ρ : Env) (p b : ℕ) → FramesStand G rs fs level ρ → ProcedureOf rs p line b → Callable G rs fs level p b r (procedure_at ρ (own p))
