use Rattle.std.proofs.Common.{length, subst}
use Rattle.std.proofs.lemmas.Result.{IfOk-weaker}
use Rattle.sheet.specs.Reading.{outcome}
use Rattle.acceptance.specs.Readings.{answer_of, records_of}
use Rattle.call_vectors.specs.Lists.{IsRight}
use Rattle.call_vectors.proofs.Read.{right_for_text}
use Rattle.call_vectors.proofs.is_right.Goals as goal

pub returns : goal.returns
returns g c =
    let K = g.K.NumberKind.kind in
    let r = c.read_script-reading.result in
    let before = g.S.Store.words c.args.store.now in
    let after = g.S.Store.words c.plays_right.new.store in
    let text = c.args.case.now.calls.now in
    IfOk-weaker c.plays_right.result _ _ (λ right h yes. subst (λ sheet. IsRight K (outcome (length c.args.records.now) sheet) before text after)
    c.as_bytes.ensures.value
    (right_for_text K (outcome (length c.args.records.now) c.as_bytes.result.now) c.args.records.now (records_of r) (answer_of r)
    c.read_script-reading.ensures.right c.read_script-reading.ensures.left c.in-Ok.script c.in-Ok.ensures before text after (h yes)))
    c.plays_right.ensures
