use Rattle.std.proofs.Common.{◌≡◌, ℕ, ◌≤◌}
use Rattle.script.specs.Names.{Names}
use Rattle.script.specs.Apart.{own}
use Rattle.standing.specs.Standing.{ProcedureOf}
use Rattle.rule.specs.Machine.{Env, procedure_at}
use Rattle.engine.specs.Frames.{FramesStand}
use Rattle.engine.proofs.scene.Scene.system.Given as goal

-- the procedure's name stands for what it does in the environment of the level that has been come to
abbrev pub invariant-loop-at : goal.invariant-loop-at
invariant-loop-at g l =
    (l.at ≤ l.self.level)
    × ((G : Names) (ρ : Env) (p b : ℕ) → FramesStand G l.self.records.now l.self.frames.now l.self.level ρ → ProcedureOf l.self.records.now p l.line b
    → (σ : Env) × FramesStand G l.self.records.now l.self.frames.now l.at σ × (procedure_at ρ (own p) ≡ procedure_at σ (own p)))

abbrev pub decreases-loop-at : goal.decreases-loop-at
decreases-loop-at g l = l.at
