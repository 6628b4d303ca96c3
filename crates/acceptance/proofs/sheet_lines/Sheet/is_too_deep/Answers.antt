use Rattle.std.proofs.Common.{ltb, sym, ap, ◌∙◌, ap₂, rules}
use Rattle.script.specs.Tree.{line, part}
use Rattle.acceptance.specs.Depths.{as_condition_deep, counted}
use Rattle.acceptance.proofs.Depths.{either_over, over_is, over_none}
use Rattle.acceptance.proofs.Optional.{some_and}
use Rattle.acceptance.proofs.sheet_lines.Sheet.is_too_deep.Goals as goal

pub returns-in-Some : goal.returns-in-Some
returns-in-Some c =
    let P = part (line c.args.self.now) c.args.n in
    sym (over_is P ∙ ap (λ o. either_over o (counted (as_condition_deep P))) (sym c.in-Some.ensures))

pub returns-in-None : goal.returns-in-None
returns-in-None c =
    let P = part (line c.args.self.now) c.args.n in
    let e = some_and c.condition_depth.result (ltb 64) c.is_some_and.result c.is_some_and.ensures (λ x k. search rules) in
    e ∙ (over_none c.condition_depth.result ∙ sym (over_is P ∙ ap₂ either_over (sym c.in-None.ensures) (sym c.condition_depth.ensures)))
