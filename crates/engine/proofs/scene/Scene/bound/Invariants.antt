use Rattle.std.proofs.Common.{◌≡◌, ℕ}
use Rattle.script.specs.Names.{Names}
use Rattle.standing.specs.Records.{Tells}
use Rattle.rule.specs.Machine.{Env, standing}
use Rattle.engine.specs.Frames.{FramesStand}
use Rattle.engine.proofs.scene.Scene.bound.Given as goal

-- the name stands for what it does in the environment of the level that has been come to
abbrev pub invariant-loop-at : goal.invariant-loop-at
invariant-loop-at g l =
    (G : Names) (ρ : Env) (x : ℕ) → FramesStand G l.self.records.now l.self.frames.now l.self.level ρ → Tells G l.name x
    → (σ : Env) × FramesStand G l.self.records.now l.self.frames.now l.at σ × (standing G ρ x ≡ standing G σ x)

abbrev pub decreases-loop-at : goal.decreases-loop-at
decreases-loop-at g l = l.at
