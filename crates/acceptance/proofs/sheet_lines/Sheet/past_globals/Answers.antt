use Rattle.std.proofs.Common.{ap, ◌∙◌, rules, arith}
use Rattle.std.proofs.lemmas.Iterator.{IsFirst-from_position, YieldsList-from_slice}
use Rattle.script.specs.Apart.{past_globals}
use Rattle.acceptance.proofs.Front.{IsGlobal, IsOther, count_of_globals, no_class, some_class}
use Rattle.acceptance.proofs.sheet_lines.Sheet.past_globals.Goals as goal

pub returns : goal.returns
returns c =
    let rs = c.self.inside.records.now in
    let e = IsFirst-from_position _ _ _ IsOther IsGlobal c.position-globals.ensures.ran (YieldsList-from_slice rs (cc)) (λ x q k. search (rules, some_class)) (λ x q k. search (rules, no_class)) in
    let n = count_of_globals rs c.position-globals.result e in
    omega (arith, n, c.unwrap_or.ensures) ∙ ap past_globals c.self.view_is
