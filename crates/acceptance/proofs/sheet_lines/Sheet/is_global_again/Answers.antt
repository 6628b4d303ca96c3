use Rattle.std.proofs.Common.{ℕ, Bool, ◌&&◌, ltb, ◌∙◌, rules, arith}
use Rattle.std.proofs.lemmas.Iterator.{YieldsList-from_range}
use Rattle.std.proofs.lemmas.Iterator.Search.{any_from_yields_List}
use Rattle.script.specs.Tree.{line}
use Rattle.script.specs.Apart.{as_global}
use Rattle.script.specs.Tests.{same_global}
use Rattle.acceptance.proofs.Search.{any_upto}
use Rattle.acceptance.proofs.sheet_lines.Sheet.is_global_again.Goals as goal

pub returns : goal.returns
returns c =
    let L = line c.args.self.now in
    let t : ℕ → Bool = λ m. ltb 0 m && same_global (as_global (L m)) (as_global (L c.args.n)) in
    any_from_yields_List t _ _ _ c.any.ensures.ran (YieldsList-from_range 0 c.args.n c.args.n (cc) (omega arith)) (λ x b q k. search rules)
    ∙ any_upto t c.args.n
