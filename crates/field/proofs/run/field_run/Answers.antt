use Rattle.std.proofs.Common.{length, arith}
use Rattle.kinds.specs.Whole.{whole}
use Rattle.acceptance.specs.Readings.{answer_of, records_of}
use Rattle.field.proofs.Bounds.{sheet_line}
use Rattle.field.proofs.Once.{if_ok, read_refused, read_script, sheet_written}
use Rattle.field.proofs.run.field_run.Goals as goal

pub overflow_cast-refusal : goal.overflow_cast-refusal
overflow_cast-refusal g c =
    let room = length c.args.records.now in
    let r = c.read_script-reading.result in
    let h = read_refused room c.args.text.now c.args.records.now (records_of r) (answer_of r) c.read_script-reading.ensures.right c.in-Err.refusal c.in-Err.ensures in
    let k = sheet_line whole.least whole.most room c.args.text.now c.in-Err.refusal h in
    let e = c.numbered-refusal.ensures.line in
    omega (arith, e, k)

pub returns-in-Err-clause-writes : goal.returns-in-Err-clause-writes
returns-in-Err-clause-writes g c =
    let room = length c.args.records.now in
    let r = c.read_script-reading.result in
    let h = read_refused room c.args.text.now c.args.records.now (records_of r) (answer_of r) c.read_script-reading.ensures.right c.in-Err.refusal c.in-Err.ensures in
    if_ok c.refusal_report.result
    (λ report e. sheet_written room c.args.text.now (g.S.Store.words c.args.store.now) c.in-Err.refusal c.numbered-refusal.result.cause c.numbered-refusal.result.line
    h c.numbered-refusal.ensures.number c.numbered-refusal.ensures.line report.items e)
    c.refusal_report.ensures

pub returns-clause-writes : goal.returns-clause-writes
returns-clause-writes g c =
    let room = length c.args.records.now in
    let r = c.read_script-reading.result in
    let w = read_script room c.args.text.now c.args.records.now (records_of r) (answer_of r) c.read_script-reading.ensures.right c.in-Ok.script c.in-Ok.ensures c.read_script-reading.ensures.left in
    if_ok c.run_script.result (λ report e. e room w.0 c.args.text.now w.1 w.2) c.run_script.ensures.writes
