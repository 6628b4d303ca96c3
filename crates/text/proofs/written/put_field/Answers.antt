use Rattle.std.proofs.Common.{◌+◌, [], ◌∷◌, decimal, ap, ◌∙◌, arith}
use Rattle.text.specs.Written.{placed}
use Rattle.text.proofs.Placed.{placed_between, placed_more, placed_set}
use Rattle.text.proofs.written.put_field.Goals as goal

pub returns-clause-left : goal.returns-clause-left
returns-clause-left c =
    let old = c.args.buffer.now in
    let at = c.args.at in
    let digits = decimal c.args.n in
    let e = c.write_digits.ensures in
    placed_between (at + 1) _ _ digits _ _ e.start (omega (arith, c.digit_count.ensures.value)) e.before e.written
    ∙ (ap (placed (at + 1) digits) (placed_set at 44 old (omega arith)) ∙ placed_more at (at + 1) (44 ∷ []) digits old (omega arith) (omega arith))
