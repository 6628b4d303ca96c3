use Rattle.std.proofs.Common.{◌≡◌, Some, sym, ap, ◌∙◌, arith}
use Rattle.text.specs.Spelling.{negative}
use Rattle.text.proofs.Spelled.{integer_says, minus_read}
use Rattle.text.proofs.numbers.read_integer.Goals as goal

pub returns-in_err-read_number-clause-spelled : goal.returns-in_err-read_number-clause-spelled
returns-in_err-read_number-clause-spelled c =
    integer_says c.args.field.now _ (c.from_residual.ensures ∙ sym (minus_read c.args.field.now (omega arith) (omega arith) ∙ ap negative (sym c.in_err-read_number.ensures.value)))

pub returns-in_err-n-clause-spelled : goal.returns-in_err-n-clause-spelled
returns-in_err-n-clause-spelled c =
    let z : c.in_ok-read_number.field-0 ≡ 0 = omega (arith, c.in_err-n.ensures) in
    integer_says c.args.field.now _ (c.from_residual-in_err-n.ensures
    ∙ sym (minus_read c.args.field.now (omega arith) (omega arith) ∙ (ap negative (sym c.in_ok-read_number.ensures.value) ∙ ap (λ n. negative (Some n)) z)))
