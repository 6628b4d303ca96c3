use Rattle.std.proofs.Common.{subst}
use Rattle.standing.specs.Records.{Tells}
use Rattle.engine.proofs.Finding.{simple_global, array_global}
use Rattle.engine.proofs.scene.Scene.stand.Goals as goal

pub returns-in-GlobalSimple : goal.returns-in-GlobalSimple
returns-in-GlobalSimple g c G ρ x w t =
    let s = c.args.self.now in
    simple_global G s.records.now s.frames.now s.level c.args.name.line ρ x c.in-GlobalSimple.cell w
    (subst (λ r. Tells G (record { line = c.args.name.line; role = r }) x) c.in-GlobalSimple.is t)

pub returns-in-GlobalArray : goal.returns-in-GlobalArray
returns-in-GlobalArray g c G ρ x w t =
    let s = c.args.self.now in
    array_global G s.records.now s.frames.now s.level c.args.name.line ρ x c.in-GlobalArray.first c.in-GlobalArray.length w
    (subst (λ r. Tells G (record { line = c.args.name.line; role = r }) x) c.in-GlobalArray.is t)
