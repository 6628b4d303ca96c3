use Rattle.std.proofs.Common.{sym, ap₂, ◌∙◌}
use Rattle.std.specs.Option.{option_or}
use Rattle.script.specs.Tree.{line}
use Rattle.acceptance.proofs.Called.{called_joined}
use Rattle.acceptance.proofs.sheet_lines.Sheet.+procedure_at.Goals as goal

pub procedure_at-returns-in-Join : goal.procedure_at-returns-in-Join
procedure_at-returns-in-Join t c =
    c.or.ensures ∙ (ap₂ option_or c.procedure_below-found.ensures c.procedure_below.ensures
    ∙ sym (called_joined c.args.name (line c.args.self.now) c.args.d c.in-Join.first c.in-Join.second c.in-Join.ensures))
