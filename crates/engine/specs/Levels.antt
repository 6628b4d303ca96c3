-- When the levels of a run stand for what the machine is still to begin.
use Rattle.std.specs.Prelude.{◌≡◌, ℕ, zero, suc, List, [], ◌∷◌, slice_index_or, Some, None, Option}
use Rattle.std.specs.List.{slice_get}
use Rattle.lines.specs.declared.records.Record.{Record}
use Rattle.script.specs.Names.{Names}
use Rattle.standing.specs.Standing.{StandsStatement}
use Rattle.rule.specs.Fine.{Fine}
use Rattle.rule.specs.Machine.{Item}
use Rattle.engine.specs.declared.frame.Binding.{Binding}
use Rattle.engine.specs.declared.frame.Binding.TheVariants.{Script, Sequel, Simple, Array, System, Call}
use Rattle.engine.specs.declared.frame.Frame.{Frame}
use Rattle.engine.specs.declared.levels.Next.{Next}
use Rattle.engine.specs.Proper.{kinds_at, Proper}
use Rattle.engine.specs.Frames.{FramesStand}

abbrev pub blank : Frame
blank = record { line = 0; binding = Script; outer = 0; used = 0; rest = None }

abbrev pub with_rest : Frame → Option ℕ → Frame
with_rest f t = record { line = f.line; binding = f.binding; outer = f.outer; used = f.used; rest = t }

abbrev pub binder_by : Binding → ℕ → ℕ → ℕ
binder_by Script o k = k
binder_by Sequel o k = o
binder_by (Simple c) o k = k
binder_by (Array b n) o k = k
binder_by System o k = k
binder_by (Call c v) o k = k

-- the innermost level that bound something, where level k has the frame f: level k itself, but for the first of two statements
abbrev pub binder : Frame → ℕ → ℕ
binder f k = binder_by f.binding f.outer k

module _ (G : Names) (rs : List Record) where
  -- the statement of line j, to be begun at the level k with the frame f, stands for an item; its names are in order
  pub record At (fs : List Frame) (f : Frame) (k j : ℕ) (p : Item) : Type 0 where
    pub level : p.level ≡ k
    pub used : p.used ≡ f.used
    pub text : StandsStatement G rs p.text j
    pub env : FramesStand G rs fs k p.env
    pub fine : Fine (kinds_at G p.env) p.text
    pub proper : Proper G p.env

  abbrev pub Rest : List Frame → Frame → Option ℕ → ℕ → List Item → (List Item → Type 0) → Type 0
  Rest fs f None k ps go = go ps
  Rest fs f (Some j) k ps go = (p : Item) × (qs : List Item) × (ps ≡ p ∷ qs) × At fs f k j p × go qs

  abbrev pub Held : List Frame → Option Frame → ℕ → List Item → (List Item → Type 0) → Type 0
  Held fs None k ps go = ⊥
  Held fs (Some f) k ps go = Rest fs f f.rest k ps go

  -- the levels below h hold the items, the innermost first
  abbrev pub Waiting : List Frame → ℕ → List Item → Type 0
  Waiting fs zero ps = ps ≡ []
  Waiting fs (suc k) ps = Held fs (slice_get fs k) k ps (Waiting fs k)

  -- what is to be begun next is the first of the items
  abbrev pub Tops : List Frame → Option Next → List Item → Type 0
  Tops fs None ps = ps ≡ []
  Tops fs (Some n) ps = (p : Item) × (qs : List Item) × (ps ≡ p ∷ qs) × At fs (slice_index_or fs n.level blank) n.level n.line p × Waiting fs n.level qs
