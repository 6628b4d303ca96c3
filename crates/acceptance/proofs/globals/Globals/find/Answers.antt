use Rattle.std.proofs.Common.{sym, ap, ◌∙◌}
use Rattle.script.specs.Apart.{heads}
use Rattle.acceptance.specs.Scopes.{global_declared, last_declared}
use Rattle.acceptance.proofs.Outward.{no_procedures}
use Rattle.acceptance.proofs.globals.Globals.find.Goals as goal

pub returns-in-Procedure : goal.returns-in-Procedure
returns-in-Procedure c ls h =
    sym (ap (λ k. global_declared k c.args.name ls) c.in-Procedure.is ∙ ap (λ es. last_declared es c.args.name) (no_procedures 1 0 (heads ls)))
