use Rattle.std.proofs.Common.{subst, take}
use Rattle.std.proofs.Math.Logic.{∥∥₁_map}
use Rattle.acceptance.specs.Scripts.{HasScript}
use Rattle.acceptance.proofs.Stable.{accepted_again}
use Rattle.acceptance.proofs.scripts.Reading.script.Goals as goal

pub new-requires : goal.new-requires
new-requires g c =
    let low = g.K.NumberKind.kind.least in
    let high = g.K.NumberKind.kind.most in
    let rs = c.args.self.now.lent.now in
    accepted_again low high (take c.in-Ok.count rs) (∥∥₁_map c.args.self.now.has_script (λ h. (subst (λ r. HasScript low high r rs) c.in-Ok.is h).1))
