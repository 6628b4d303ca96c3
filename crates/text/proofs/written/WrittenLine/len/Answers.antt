use Rattle.std.proofs.Common.{arith}
use Rattle.text.proofs.Placed.{length_spelling}
use Rattle.text.proofs.written.WrittenLine.len.Goals as goal

pub returns : goal.returns
returns c = omega (arith, length_spelling c.args.self.now)
