use Rattle.text.proofs.Commas.{first_by}
use Rattle.text.proofs.fields.first_field.Goals as goal

pub returns : goal.returns
returns c = first_by c.args.line.now (λ p. p.0.now) (λ p. p.1.now) _ c.cut.ensures
