use Rattle.std.proofs.Common.{rules}
use Rattle.script.specs.Tree.{line}
use Rattle.script.specs.Fields.{fields, named_in}
use Rattle.script.specs.Tests.{named}
use Rattle.acceptance.proofs.Naming.{again_stands}
use Rattle.acceptance.proofs.sheet_lines.Sheet.names_again.Goals as goal

pub returns : goal.returns
returns c =
    let L = line c.args.self.now in
    let e = again_stands (named L c.args.n) (named_in (fields (L c.args.n))) in
    search (rules, e)
