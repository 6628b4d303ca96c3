use Rattle.std.proofs.Common.{arith}
use lib.Seq.{take-set-lt}
use Rattle.std.proofs.lemmas.List.{drop-set-lt}
use Rattle.stores.proofs.Capped.{within}
use Rattle.stores.proofs.word_table.WordTableStore.put.Goals as goal

pub bounds-self-at : goal.bounds-self-at
bounds-self-at c = (within 65536 c.args.at c.args.self.now.cells.now (omega arith)).1

pub returns-clause-words : goal.returns-clause-words
returns-clause-words c =
    let cells = c.args.self.now.cells.now in
    take-set-lt 65536 cells c.args.at c.args.word (within 65536 c.args.at cells (omega arith)).0

pub returns-clause-lent : goal.returns-clause-lent
returns-clause-lent c =
    let cells = c.args.self.now.cells.now in
    let kept = drop-set-lt 65536 cells c.args.at c.args.word (within 65536 c.args.at cells (omega arith)).0 in
    λ j. record { loan = c.args.self.now.cells.ghost_name; rest = kept j }
