use Rattle.std.proofs.Common.{◌≡◌, Ok, ap, ◌∙◌, arith}
use Rattle.acceptance.specs.Sheet.{lines_of}
use Rattle.faults.specs.Endings.{in_rule, ending_of}
use Rattle.calls.specs.declared.asked.Answer.TheVariants.{Opened}
use Rattle.report.specs.Rows.{run_rows}
use Rattle.field.proofs.Once.{opening_written, over_so, over_written, ran_written, refused_line, refused_so}
use Rattle.field.proofs.run.run_once.Goals as goal

pub overflow_cast-refusal : goal.overflow_cast-refusal
overflow_cast-refusal g c =
    let a = c.play.ensures.accepted in
    let h = refused_line (g.S.Store.words c.args.store.now) (g.S.Store.words c.play.new.store) c.args.script.now a c.play.new.replies
    c.play.result c.play.ensures.count (c.play.ensures.promise a) (Ok Opened) c.in-Err.refusal c.in-Err.is in
    let e = c.numbered-refusal.ensures.line in
    omega (arith, e, h)

pub returns-in-Err-clause-writes : goal.returns-in-Err-clause-writes
returns-in-Err-clause-writes g c room n text s e =
    let a = c.play.ensures.accepted in
    let words = g.S.Store.words c.args.store.now in
    let σ = g.S.Store.words c.play.new.store in
    let o = refused_so words σ c.args.script.now a c.play.new.replies c.play.result c.play.ensures.count (c.play.ensures.promise a) (Ok Opened) c.in-Err.refusal c.in-Err.is in
    opening_written room n text words c.of_refusal.result.items σ (lines_of c.args.script.now) s e c.in-Err.refusal
    c.numbered-refusal.result.cause c.numbered-refusal.result.line o.0 c.numbered-refusal.ensures.number c.numbered-refusal.ensures.line c.of_refusal.ensures o.1

pub closing_of-ending-requires : goal.closing_of-ending-requires
closing_of-ending-requires g c =
    let a = c.play.ensures.accepted in
    let w = over_so (g.S.Store.words c.args.store.now) (g.S.Store.words c.play.new.store) c.args.script.now a c.play.new.replies
    c.play.result c.play.ensures.count (c.play.ensures.promise a) (Ok Opened) c.in_default.not-Err in
    (ending_of w.2.ending, w.2.count, w.4 (Ok Opened))

pub returns-clause-writes : goal.returns-clause-writes
returns-clause-writes g c room n text s e =
    let a = c.play.ensures.accepted in
    let words = g.S.Store.words c.args.store.now in
    let σ = g.S.Store.words c.play.new.store in
    let d = c.closing_of-ending.result in
    let p : c.of_run.result.items ≡ run_rows (lines_of c.args.script.now) (in_rule d.0) d.1 σ =
    c.of_run.ensures ∙ ap (λ ls. run_rows ls (in_rule d.0) d.1 σ) c.requires in
    ran_written room n text words c.of_run.result.items σ (lines_of c.args.script.now) s e
    (over_written words σ c.args.script.now a c.play.new.replies c.play.result c.play.ensures.count (c.play.ensures.promise a) (Ok Opened) c.in_default.not-Err
    d.0 d.1 c.closing_of-ending.ensures c.of_run.result.items p)
