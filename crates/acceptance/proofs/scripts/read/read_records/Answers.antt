use Rattle.std.proofs.Common.{◌≡◌, Ok, Err, length, take, sym, ap, ◌∙◌, subst}
use Rattle.script.specs.IsScript.{IsScript}
use Rattle.sheet.specs.Reading.{Outcome, outcome}
use Rattle.acceptance.specs.declared.scripts.ScriptCause.TheVariants.{OfSheet}
use Rattle.acceptance.specs.Sheet.{lines_of}
use Rattle.acceptance.specs.Scripts.{RightAnswer}
use Rattle.acceptance.specs.Verdict.{Judged}
use Rattle.acceptance.proofs.Reading.{all_read, front_lines, left, one_answer}
use Rattle.acceptance.proofs.scripts.read.read_records.Goals as goal

pub returns-in-Ok-accept : goal.returns-in-Ok-accept
returns-in-Ok-accept g c =
    let low = g.K.NumberKind.kind.least in
    let high = g.K.NumberKind.kind.most in
    let o : Outcome = outcome (length c.args.records.now) c.args.text.now in
    let n : c.in-Ok.count ≡ length o.lines = all_read o c.in-Ok.count (sym c.in-Ok.ensures.answer) in
    let front : lines_of (take c.in-Ok.count c.read_lines.new.records) ≡ o.lines = front_lines o.lines c.args.records.now c.read_lines.new.records c.in-Ok.count n c.read_lines.ensures.left in
    let right : RightAnswer low high o (Ok c.in-Ok.count) = (sym c.in-Ok.ensures.answer, subst (IsScript low high) front c.in-Ok-accept.ensures.right) in
    record {
      right = right;
      only = λ s h. one_answer low high o (Ok c.in-Ok.count) s right h;
      bound = c.in-Ok.ensures.bound;
      left = left low high o c.args.records.now c.read_lines.new.records c.accept.new.records c.in-Ok.count n c.in-Ok.ensures.most c.read_lines.ensures.left c.in-Ok-accept.ensures.right c.in-Ok-accept.ensures.records;
    }

pub returns-in-Err-accept-clause-right : goal.returns-in-Err-accept-clause-right
returns-in-Err-accept-clause-right g c =
    let o : Outcome = outcome (length c.args.records.now) c.args.text.now in
    let n : c.in-Ok.count ≡ length o.lines = all_read o c.in-Ok.count (sym c.in-Ok.ensures.answer) in
    let front : lines_of (take c.in-Ok.count c.read_lines.new.records) ≡ o.lines = front_lines o.lines c.args.records.now c.read_lines.new.records c.in-Ok.count n c.read_lines.ensures.left in
    let judged = subst (λ ls. Judged {A = Unit {0}} g.K.NumberKind.kind.least g.K.NumberKind.kind.most ls (Err c.in-Err-accept.field-0)) front c.in-Err-accept.ensures.right in
    (sym c.in-Ok.ensures.answer ∙ ap Ok n, judged.0, judged.1)

pub returns-in-Err-accept-clause-only : goal.returns-in-Err-accept-clause-only
returns-in-Err-accept-clause-only g c s h =
    one_answer g.K.NumberKind.kind.least g.K.NumberKind.kind.most (outcome (length c.args.records.now) c.args.text.now)
    (Err (record { cause = OfSheet c.in-Err-accept.field-0.cause; line = c.in-Err-accept.field-0.line })) s (returns-in-Err-accept-clause-right g c) h
