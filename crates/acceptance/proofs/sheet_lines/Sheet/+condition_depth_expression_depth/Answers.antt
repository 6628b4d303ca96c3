use Rattle.std.proofs.Common.{sym, ◌∙◌, rules}
use Rattle.script.specs.Tree.{line}
use Rattle.acceptance.proofs.Depths.{condition_at, condition_deep, condition_rest, expression_at, expression_deep, expression_rest}
use Rattle.acceptance.proofs.sheet_lines.Sheet.+condition_depth_expression_depth.Goals as goal

pub condition_depth-returns-in_default : goal.condition_depth-returns-in_default
condition_depth-returns-in_default t c =
    let L = line c.args.self.now in
    sym (condition_at L c.args.n c.line.result c.line.ensures
    ∙ condition_rest (expression_deep L) (condition_deep L) c.args.n c.line.result c.in_default.not-Truth c.in_default.not-Comparison c.in_default.not-Negation c.in_default.not-Implication)

pub expression_depth-returns-in_default : goal.expression_depth-returns-in_default
expression_depth-returns-in_default t c =
    let L = line c.args.self.now in
    sym (expression_at L c.args.n c.line.result c.line.ensures
    ∙ expression_rest (expression_deep L) (condition_deep L) c.args.n c.line.result c.in_default.not-Constant c.in_default.not-Simple c.in_default.not-Element c.in_default.not-Operation c.in_default.not-Choice)

pub condition_depth-returns-in-Comparison : goal.condition_depth-returns-in-Comparison
condition_depth-returns-in-Comparison t c = let e = condition_at (line c.args.self.now) c.args.n _ c.in-Comparison.ensures in search rules

pub condition_depth-returns-in-Negation : goal.condition_depth-returns-in-Negation
condition_depth-returns-in-Negation t c = let e = condition_at (line c.args.self.now) c.args.n _ c.in-Negation.ensures in search rules

pub condition_depth-returns-in-Implication : goal.condition_depth-returns-in-Implication
condition_depth-returns-in-Implication t c = let e = condition_at (line c.args.self.now) c.args.n _ c.in-Implication.ensures in search rules

pub expression_depth-returns-in-Element : goal.expression_depth-returns-in-Element
expression_depth-returns-in-Element t c = let e = expression_at (line c.args.self.now) c.args.n _ c.in-Element.ensures in search rules

pub expression_depth-returns-in-Operation : goal.expression_depth-returns-in-Operation
expression_depth-returns-in-Operation t c = let e = expression_at (line c.args.self.now) c.args.n _ c.in-Operation.ensures in search rules

pub expression_depth-returns-in-Choice : goal.expression_depth-returns-in-Choice
expression_depth-returns-in-Choice t c = let e = expression_at (line c.args.self.now) c.args.n _ c.in-Choice.ensures in search rules
