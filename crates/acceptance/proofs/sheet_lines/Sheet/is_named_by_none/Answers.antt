use Rattle.std.proofs.Common.{suc, not, length, ap, ◌∙◌}
use Rattle.script.specs.Tree.{line}
use Rattle.script.specs.Tests.{named}
use Rattle.acceptance.specs.Naming.{stands}
use Rattle.acceptance.proofs.Naming.{none_named}
use Rattle.acceptance.proofs.sheet_lines.Sheet.is_named_by_none.Goals as goal

pub returns : goal.returns
returns c =
    let L = line c.args.self.now in
    ap not c.is_named_below.ensures
    ∙ (ap (λ s. not (stands c.args.m (named L s.end))) c.numbers.ensures ∙ none_named c.args.m (named L (suc (length c.args.self.now))))
