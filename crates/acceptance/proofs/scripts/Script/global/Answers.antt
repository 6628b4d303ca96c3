use Rattle.std.proofs.Common.{sym, ap, ◌∙◌, subst}
use Rattle.acceptance.specs.Sheet.{lines_of}
use Rattle.acceptance.specs.Scopes.{HasGlobals}
use Rattle.acceptance.proofs.Cells.{role_in, role_of_global}
use Rattle.acceptance.proofs.scripts.Script.global.Goals as goal

pub returns-in_err-declaration : goal.returns-in_err-declaration
returns-in_err-declaration g c =
    let ls = lines_of c.args.self.now in
    let listed : HasGlobals ls c.self.inside.globals = subst (λ rs. HasGlobals (lines_of rs) c.self.inside.globals) c.self.view_is c.self.invariant.1 in
    let told = role_of_global c.args.sort c.args.name ls c.sought.result c.find.result c.sought.ensures (c.find.ensures ls listed) in
    c.from_residual.ensures ∙ (sym (ap role_in c.in_err-declaration.was) ∙ told)

pub returns : goal.returns
returns g c =
    let ls = lines_of c.args.self.now in
    let listed : HasGlobals ls c.self.inside.globals = subst (λ rs. HasGlobals (lines_of rs) c.self.inside.globals) c.self.view_is c.self.invariant.1 in
    let told = role_of_global c.args.sort c.args.name ls c.sought.result c.find.result c.sought.ensures (c.find.ensures ls listed) in
    sym (ap role_in c.in_ok-declaration.was) ∙ told
