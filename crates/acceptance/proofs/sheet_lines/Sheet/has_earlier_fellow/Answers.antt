use Rattle.std.proofs.Common.{sym, ap, ◌∙◌}
use Rattle.script.specs.Tree.{line}
use Rattle.script.specs.Tests.{taken_before, under}
use Rattle.acceptance.proofs.Systems.{fellows_in, fellows_none, none_there}
use Rattle.acceptance.proofs.sheet_lines.Sheet.has_earlier_fellow.Goals as goal

pub returns-in_default : goal.returns-in_default
returns-in_default c = sym (ap (taken_before c.args.n c.args.name) (fellows_none c.args.self.now c.args.n c.in_default.ensures.is))

pub returns-in-System : goal.returns-in-System
returns-in-System c =
    c.is_taken.ensures ∙ sym (ap (taken_before c.args.n c.args.name) (fellows_in c.args.self.now c.args.n c.in-Some.system _ c.in-Some.ensures.is c.in-System.ensures))

pub returns-in_default-line : goal.returns-in_default-line
returns-in_default-line c =
    let ls = c.args.self.now in
    sym (ap (taken_before c.args.n c.args.name)
    (fellows_in ls c.args.n c.in-Some.system c.line.result c.in-Some.ensures.is c.line.ensures ∙ none_there (under (line ls)) c.line.result c.in_default-line.not-System))
