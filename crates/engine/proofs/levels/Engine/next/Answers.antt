use Rattle.std.proofs.Common.{◌≡◌, suc, ◌-◌, arith}
use Rattle.engine.proofs.Topping.{top_some, top_none}
use Rattle.engine.proofs.levels.Engine.next.Goals as goal

pub returns-in-Some-clause-stands : goal.returns-in-Some-clause-stands
returns-in-Some-clause-stands c G rs ps w =
    let h = c.loop-level.level in
    let e : h ≡ suc (h - 1) = omega (arith, c.loop-level-test.true) in
    top_some G rs c.args.self.now.frames h (h - 1) e ps (c.loop-level.invariant G rs ps w) c.in-Some.line c.in-Some.is

pub loop-level-preserved : goal.loop-level-preserved
loop-level-preserved c G rs ps w =
    let h = c.loop-level.level in
    let e : h ≡ suc (h - 1) = omega (arith, c.loop-level-test.true) in
    top_none G rs c.args.self.now.frames h (h - 1) e ps (c.loop-level.invariant G rs ps w) c.in_default.is
