use Rattle.std.proofs.Common.{arith, length-take}
use Rattle.stores.proofs.word_table.WordTableStore.size.Goals as goal

pub returns-clause-size : goal.returns-clause-size
returns-clause-size c = let e = length-take 65536 c.args.self.now.cells.now in omega arith
