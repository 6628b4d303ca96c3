use Rattle.std.proofs.Common.{◌/◌, sym, arith}
use Rattle.std.proofs.lemmas.Fmt.{length-decimal-le}
use Rattle.text.proofs.Placed.{digits_one, digits_more, two_digits_more, four_digits_more}
use Rattle.text.proofs.written.+digit_count.Goals as goal

pub returns-then-n-lt10-clause-value : goal.returns-then-n-lt10-clause-value
returns-then-n-lt10-clause-value t c = sym (digits_one c.args.n c.if-n-lt10.true)

pub returns-then-n-lt100-clause-value : goal.returns-then-n-lt100-clause-value
returns-then-n-lt100-clause-value t c =
    omega (arith, digits_more c.args.n c.if-n-lt10.false (omega arith), digits_one (c.args.n / 10) (omega arith))

pub returns-then-n-lt1000-clause-value : goal.returns-then-n-lt1000-clause-value
returns-then-n-lt1000-clause-value t c =
    omega (arith, two_digits_more c.args.n c.if-n-lt100.false (omega arith), digits_one (c.args.n / 100) (omega arith))

pub returns-then-n-lt10000-clause-value : goal.returns-then-n-lt10000-clause-value
returns-then-n-lt10000-clause-value t c =
    omega (arith, two_digits_more c.args.n c.if-n-lt100.false (omega arith), digits_more (c.args.n / 100) (omega arith) (omega arith), digits_one (c.args.n / 100 / 10) (omega arith))

pub returns-else-n-lt10000-clause-value : goal.returns-else-n-lt10000-clause-value
returns-else-n-lt10000-clause-value t c = omega (arith, four_digits_more c.args.n c.if-n-lt10000.false (omega arith))

pub returns-else-n-lt10000-clause-bound : goal.returns-else-n-lt10000-clause-bound
returns-else-n-lt10000-clause-bound t c =
    omega (arith, four_digits_more c.args.n c.if-n-lt10000.false (omega arith), length-decimal-le 10 c.args.n (omega arith) (omega arith) (omega arith))
