use Rattle.std.proofs.Common.{not, length, ap, ◌∙◌}
use Rattle.script.specs.Tree.{line}
use Rattle.script.specs.Apart.{globals_of}
use Rattle.script.specs.Tests.{declared, scope_by_lines}
use Rattle.acceptance.specs.declared.declared.Sought.TheVariants.{Simple, Array, Procedure}
use Rattle.acceptance.proofs.Innermost.{not_known}
use Rattle.acceptance.proofs.sheet_lines.Sheet.is_undeclared.Goals as goal

pub returns-in-Simple : goal.returns-in-Simple
returns-in-Simple c =
    let ls = c.args.self.now in
    not_known c.in-Simple.name Simple ls c.args.n c.is_none.result c.look_up.result c.is_none.ensures c.look_up.ensures
    ∙ ap (λ l. not (declared (scope_by_lines (line ls) (length ls) (globals_of ls).scope c.args.n) l)) c.in-Simple.ensures

pub returns-in-Element : goal.returns-in-Element
returns-in-Element c =
    let ls = c.args.self.now in
    not_known c.in-Element.name Array ls c.args.n c.is_none-in-Element.result c.look_up-in-Element.result c.is_none-in-Element.ensures c.look_up-in-Element.ensures
    ∙ ap (λ l. not (declared (scope_by_lines (line ls) (length ls) (globals_of ls).scope c.args.n) l)) c.in-Element.ensures

pub returns-in-Call : goal.returns-in-Call
returns-in-Call c =
    let ls = c.args.self.now in
    not_known c.in-Call.procedure Procedure ls c.args.n c.is_none-in-Call.result c.look_up-in-Call.result c.is_none-in-Call.ensures c.look_up-in-Call.ensures
    ∙ ap (λ l. not (declared (scope_by_lines (line ls) (length ls) (globals_of ls).scope c.args.n) l)) c.in-Call.ensures
