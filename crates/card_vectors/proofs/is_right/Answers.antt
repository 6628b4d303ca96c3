use Rattle.std.proofs.Common.{rules, ◌≡◌, length, subst}
use Rattle.field.specs.Report.{Writes}
use Rattle.card_vectors.proofs.is_right.Goals as goal

pub returns : goal.returns
returns g c = λ right.
    let same : c.as_slice.result.now ≡ c.args.case.now.want.now = search rules in
    subst (λ written. Writes (length c.args.records.now) c.args.case.now.sheet.now (g.S.Store.words c.args.store.now) written (g.S.Store.words c.field_run.new.store)) same
    (subst (λ written. Writes (length c.args.records.now) c.args.case.now.sheet.now (g.S.Store.words c.args.store.now) written (g.S.Store.words c.field_run.new.store)) (search rules) c.in_ok-lines.ensures.writes)
