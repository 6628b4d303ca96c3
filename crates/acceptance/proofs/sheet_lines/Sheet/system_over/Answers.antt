use Rattle.std.proofs.Common.{◌+◌, ◌-◌, ◌<◌, length, sym, ◌∙◌, arith}
use Rattle.acceptance.specs.Scopes.{system_from}
use Rattle.acceptance.proofs.Systems.{no_system, system_top, system_turn}
use Rattle.acceptance.proofs.sheet_lines.Sheet.system_over.Goals as goal

pub returns-in_err-at-clause-is : goal.returns-in_err-at-clause-is
returns-in_err-at-clause-is c =
    let ls = c.args.self.now in
    let q : c.loop-step._step < length ls = omega (arith, c.len-step-end.ensures.is) in
    c.from_residual.ensures ∙ (sym (system_top ls c.loop-step._step c.loop-step.at q c.in_err-at.ensures.user) ∙ c.loop-step.invariant)

pub returns-in-System-clause-is : goal.returns-in-System-clause-is
returns-in-System-clause-is c =
    let ls = c.args.self.now in
    let q : c.loop-step._step < length ls = omega (arith, c.len-step-end.ensures.is) in
    sym (system_turn ls c.loop-step._step c.loop-step.at c.in_ok-at.at _ q c.in_ok-at.ensures.user c.in-System.ensures) ∙ c.loop-step.invariant

pub returns-in_default-clause-is : goal.returns-in_default-clause-is
returns-in_default-clause-is c =
    let ls = c.args.self.now in
    let q : c.loop-step._step < length ls = omega (arith, c.len-step-end.ensures.is) in
    let y = system_from ls (length ls - (c.loop-step._step + 1)) c.in_ok-at.at in
    sym (no_system c.in_ok-at.at y c.line.result c.in_default.not-System c.in_default.not-Join)
    ∙ (sym (system_turn ls c.loop-step._step c.loop-step.at c.in_ok-at.at c.line.result q c.in_ok-at.ensures.user c.line.ensures) ∙ c.loop-step.invariant)

pub loop-step-preserved : goal.loop-step-preserved
loop-step-preserved c =
    let ls = c.args.self.now in
    let q : c.loop-step._step < length ls = omega (arith, c.len-step-end.ensures.is) in
    sym (system_turn ls c.loop-step._step c.loop-step.at c.in_ok-at.at _ q c.in_ok-at.ensures.user c.in-Join.ensures) ∙ c.loop-step.invariant
