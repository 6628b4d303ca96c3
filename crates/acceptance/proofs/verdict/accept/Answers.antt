use Rattle.std.proofs.Common.{◌≡◌, Err, sym, ap, ◌∙◌, subst, rules, arith}
use lib.ListN.{length-map}
use Rattle.script.specs.IsScript.{IsScript}
use Rattle.script.specs.Tests.{refusal}
use Rattle.acceptance.specs.Sheet.{lines_of}
use Rattle.acceptance.specs.Verdict.{told, Judged}
use Rattle.acceptance.proofs.Belonging.{belonging}
use Rattle.acceptance.proofs.verdict.accept.Goals as goal

pub returns-in_err-judge-clause-refusal : goal.returns-in_err-judge-clause-refusal
returns-in_err-judge-clause-refusal g c =
    let r : c.from_residual.result ≡ Err c.in_err-judge.field-0.0 = search rules in
    ap told (r ∙ sym c.in_err-judge.was) ∙ (c.judge.ensures.refusal ∙ ap (refusal g.K.NumberKind.kind.least g.K.NumberKind.kind.most) c.new.ensures)

pub returns-in_err-judge-clause-right : goal.returns-in_err-judge-clause-right
returns-in_err-judge-clause-right g c =
    let r : c.from_residual.result ≡ Err c.in_err-judge.field-0.0 = search rules in
    subst (λ ls. Judged g.K.NumberKind.kind.least g.K.NumberKind.kind.most ls c.from_residual.result) c.new.ensures
    (subst (λ v. Judged g.K.NumberKind.kind.least g.K.NumberKind.kind.most c.new.result v) (sym (r ∙ sym c.in_err-judge.was)) c.judge.ensures.right)

pub returns-clause-refusal : goal.returns-clause-refusal
returns-clause-refusal g c = c.in_ok-judge.ensures.refusal ∙ ap (refusal g.K.NumberKind.kind.least g.K.NumberKind.kind.most) c.new.ensures

pub returns-clause-records : goal.returns-clause-records
returns-clause-records g c =
    let script = subst (IsScript g.K.NumberKind.kind.least g.K.NumberKind.kind.most) c.new.ensures c.in_ok-judge.ensures.right in
    belonging g.K.NumberKind.kind.least g.K.NumberKind.kind.most (lines_of c.args.records.now) script c.resolve.new.records c.resolve.ensures.lines
    (λ n p q. c.resolve.ensures.told n p (omega (arith, q, length-map c.args.records.now (λ r. r.line))))
