use Rattle.std.proofs.Common.{◌≡◌, None, Err, ap, ◌∙◌, rules}
use Rattle.script.specs.Tests.{or_later}
use Rattle.acceptance.specs.Verdict.{told}
use Rattle.acceptance.proofs.Stages.{passed, right, stopped}
use Rattle.acceptance.proofs.sheet_lines.Sheet.judge.Goals as goal

pub returns-in_err-pass : goal.returns-in_err-pass
returns-in_err-pass g c =
    let r : c.from_residual.result ≡ Err c.in_err-pass.field-0.0 = search rules in
    let p = right g.K.NumberKind.kind.least g.K.NumberKind.kind.most c.args.self.now c.from_residual.result (ap told r ∙ stopped 6 _ _ _ _ c.lowest_out_of_form.ensures c.in_err-pass.ensures) in
    record { right = p.0; refusal = p.1 }

pub returns-in_err-pass-2 : goal.returns-in_err-pass-2
returns-in_err-pass-2 g c =
    let r : c.from_residual-in_err-pass-2.result ≡ Err c.in_err-pass-2.field-0.0 = search rules in
    let p = right g.K.NumberKind.kind.least g.K.NumberKind.kind.most c.args.self.now c.from_residual-in_err-pass-2.result (ap told r ∙ passed 6 _ _ _ _ c.lowest_out_of_form.ensures c.in_ok-pass.ensures (stopped 8 _ _ _ _ c.lowest_name_again.ensures c.in_err-pass-2.ensures)) in
    record { right = p.0; refusal = p.1 }

pub returns-in_err-pass-3 : goal.returns-in_err-pass-3
returns-in_err-pass-3 g c =
    let r : c.from_residual-in_err-pass-3.result ≡ Err c.in_err-pass-3.field-0.0 = search rules in
    let p = right g.K.NumberKind.kind.least g.K.NumberKind.kind.most c.args.self.now c.from_residual-in_err-pass-3.result (ap told r ∙ passed 6 _ _ _ _ c.lowest_out_of_form.ensures c.in_ok-pass.ensures (passed 8 _ _ _ _ c.lowest_name_again.ensures c.in_ok-pass-2.ensures (stopped 7 _ _ _ _ c.lowest_undeclared.ensures c.in_err-pass-3.ensures))) in
    record { right = p.0; refusal = p.1 }

pub returns-in_err-pass-4 : goal.returns-in_err-pass-4
returns-in_err-pass-4 g c =
    let r : c.from_residual-in_err-pass-4.result ≡ Err c.in_err-pass-4.field-0.0 = search rules in
    let p = right g.K.NumberKind.kind.least g.K.NumberKind.kind.most c.args.self.now c.from_residual-in_err-pass-4.result (ap told r ∙ passed 6 _ _ _ _ c.lowest_out_of_form.ensures c.in_ok-pass.ensures (passed 8 _ _ _ _ c.lowest_name_again.ensures c.in_ok-pass-2.ensures (passed 7 _ _ _ _ c.lowest_undeclared.ensures c.in_ok-pass-3.ensures (stopped 9 _ _ _ _ c.lowest_too_deep.ensures c.in_err-pass-4.ensures)))) in
    record { right = p.0; refusal = p.1 }

pub returns : goal.returns
returns g c =
    let p = right g.K.NumberKind.kind.least g.K.NumberKind.kind.most c.args.self.now c.pass-5.result (passed 6 _ _ _ _ c.lowest_out_of_form.ensures c.in_ok-pass.ensures (passed 8 _ _ _ _ c.lowest_name_again.ensures c.in_ok-pass-2.ensures (passed 7 _ _ _ _ c.lowest_undeclared.ensures c.in_ok-pass-3.ensures (passed 9 _ _ _ _ c.lowest_too_deep.ensures c.in_ok-pass-4.ensures (c.pass-5.ensures ∙ ap (λ o. or_later 10 o None) c.lowest_out_of_kind.ensures))))) in
    record { right = p.0; refusal = p.1 }
