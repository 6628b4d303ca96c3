use Rattle.std.proofs.Common.{◌∙◌, ap}
use Rattle.std.proofs.lemmas.Option.{unwrap_or-slice_get}
use Rattle.std.specs.Option.{unwrap_or}
use Rattle.report.proofs.rows.word_at.Goals as goal

pub returns : goal.returns
returns g c = c.unwrap_or.ensures ∙ (ap (λ o. unwrap_or o 0) c.load.ensures ∙ unwrap_or-slice_get (g.S.Store.words c.args.store.now) c.args.cell 0)
