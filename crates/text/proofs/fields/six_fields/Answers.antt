use Rattle.std.proofs.Common.{length, ap, arith}
use Rattle.text.proofs.Commas.{fields_some}
use Rattle.text.proofs.fields.six_fields.Goals as goal

pub returns-in-Some : goal.returns-in-Some
returns-in-Some c six =
    omega (arith, ap length c.in_ok-number.ensures, ap length c.in_ok-kind.ensures, ap length c.in_ok-a.ensures, ap length c.in_ok-b.ensures, ap length c.in_ok-c.ensures, ap length c.in-Some.ensures, fields_some c.in-Some.field-0.1.now)
