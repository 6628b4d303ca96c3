use Rattle.std.proofs.Common.{◌∙◌, sym}
use Rattle.std.proofs.lemmas.Option.{slice_get-get_or}
use Rattle.engine.specs.Levels.{blank}
use Rattle.engine.proofs.Finding.{found_here, found_nowhere, found_around, no_frame}
use Rattle.engine.proofs.scene.Scene.bound.Goals as goal

pub returns-in-Some : goal.returns-in-Some
returns-in-Some g c G ρ x w t =
    let s = c.args.self.now in
    let i = c.loop-at.invariant G ρ x w t in
    let l = slice_get-get_or s.frames.now c.loop-at.at blank c.loop-at-test.true in
    i.2 ∙ found_here G s.records.now s.frames.now c.loop-at.at _ c.args.name i.0 x l i.1 t c.in-Some.stand (sym c.in-Some.ensures)

pub returns-then-frame-at : goal.returns-then-frame-at
returns-then-frame-at g c G ρ x w t =
    let s = c.args.self.now in
    let i = c.loop-at.invariant G ρ x w t in
    let l = slice_get-get_or s.frames.now c.loop-at.at blank c.loop-at-test.true in
    i.2 ∙ found_nowhere G s.records.now s.frames.now c.loop-at.at _ c.args.name i.0 x l i.1 t (sym c.in_default.ensures) c.if-frame-at.true

pub loop-at-preserved : goal.loop-at-preserved
loop-at-preserved g c G ρ x w t =
    let s = c.args.self.now in
    let i = c.loop-at.invariant G ρ x w t in
    let l = slice_get-get_or s.frames.now c.loop-at.at blank c.loop-at-test.true in
    let o = found_around G s.records.now s.frames.now c.loop-at.at _ c.args.name i.0 x l i.1 t (sym c.in_default.ensures) c.if-frame-at.false in
    (o.0, o.1, i.2 ∙ o.2)

pub returns : goal.returns
returns g c G ρ x w t =
    let s = c.args.self.now in
    let i = c.loop-at.invariant G ρ x w t in
    absurd (no_frame G s.records.now s.frames.now c.loop-at.at i.1.0 i.0 c.loop-at-test.false i.1.1)
