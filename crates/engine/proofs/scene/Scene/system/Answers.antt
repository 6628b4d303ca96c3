use Rattle.std.proofs.Common.{◌∙◌, sym, arith}
use Rattle.std.proofs.lemmas.Option.{slice_get-get_or}
use Rattle.engine.specs.Levels.{blank}
use Rattle.engine.proofs.Finding.{no_frame}
use Rattle.engine.proofs.Calling.{called_here, called_nowhere, called_around}
use Rattle.engine.proofs.scene.Scene.system.Goals as goal

pub returns-then-is_system : goal.returns-then-is_system
returns-then-is_system g c G ρ p b w r =
    let s = c.args.self.now in
    let i = c.loop-at.invariant.1 G ρ p b w r in
    let l = slice_get-get_or s.frames.now c.loop-at.at blank c.loop-at-test.true in
    rw i.2 (called_here G s.records.now s.frames.now c.loop-at.at _ c.args.line p b i.0 l r i.1.0 s.level c.loop-at.invariant.0 (sym c.if-is_system.ensures) i.1.1)

pub returns-then-frame-at : goal.returns-then-frame-at
returns-then-frame-at g c G ρ p b w r =
    let s = c.args.self.now in
    let i = c.loop-at.invariant.1 G ρ p b w r in
    let l = slice_get-get_or s.frames.now c.loop-at.at blank c.loop-at-test.true in
    rw i.2 (called_nowhere G s.records.now s.frames.now c.loop-at.at _ c.args.line p b i.0 l r i.1.0 s.level (sym c.if-is_system.ensures) c.if-frame-at.true i.1.1)

pub loop-at-preserved : goal.loop-at-preserved
loop-at-preserved g c = (
  omega (arith, c.loop-at.invariant.0, c.if-frame-at.false),
  λ G ρ p b w r.
      let s = c.args.self.now in
      let i = c.loop-at.invariant.1 G ρ p b w r in
      let l = slice_get-get_or s.frames.now c.loop-at.at blank c.loop-at-test.true in
      let o = called_around G s.records.now s.frames.now c.loop-at.at _ c.args.line p b i.0 l r i.1.0 (sym c.if-is_system.ensures) c.if-frame-at.false i.1.1 in
      (o.0, o.1, i.2 ∙ o.2),
)

pub returns : goal.returns
returns g c G ρ p b w r =
    let s = c.args.self.now in
    let i = c.loop-at.invariant.1 G ρ p b w r in
    absurd (no_frame G s.records.now s.frames.now c.loop-at.at i.1.0 i.0 c.loop-at-test.false i.1.1)
