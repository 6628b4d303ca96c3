use Rattle.std.proofs.Common.{rules, ◌∙◌}
use Rattle.std.proofs.lemmas.Bool.Decides.{same_from_decides}
use Rattle.std.proofs.lemmas.Iterator.{YieldsList-from_slice}
use Rattle.std.proofs.lemmas.Iterator.Consumers.{YieldsList-from_filter, count_from_yields_List}
use Rattle.std.proofs.lemmas.List.Sums.{length-filter}
use Rattle.vectors.proofs.Tests.{asks, asks_decides, agrees, agrees_decides}
use Rattle.vectors.proofs.tally_of.Goals as goal

pub returns-clause-agree : goal.returns-clause-agree
returns-clause-agree g c =
    let test = agrees g.K.NumberKind.kind c.args.operation in (
      test,
      agrees_decides g.K.NumberKind.kind c.args.operation,
      count_from_yields_List c.filter.result c.count.result c.count.ensures.ran
          (YieldsList-from_filter _ test (YieldsList-from_slice c.args.cases.now (cc)) c.filter.ensures.closure (λ x b q k. (search rules, same_from_decides b (test x.now) (search rules) (agrees_decides g.K.NumberKind.kind c.args.operation x.now))))
          ∙ length-filter test c.args.cases.now,
    )

pub returns-clause-all : goal.returns-clause-all
returns-clause-all g c =
    let test = asks c.args.operation in (
      test,
      asks_decides c.args.operation,
      count_from_yields_List c.filter-2.result c.count-2.result c.count-2.ensures.ran
          (YieldsList-from_filter _ test (YieldsList-from_slice c.args.cases.now (cc)) c.filter-2.ensures.closure (λ x b q k. (search rules, same_from_decides b (test x.now) (search rules) (asks_decides c.args.operation x.now))))
          ∙ length-filter test c.args.cases.now,
    )
