use Rattle.std.proofs.Common.{ℕ, Bool, ◌∙◌, rules, arith}
use Rattle.std.proofs.lemmas.Iterator.{YieldsList-from_range}
use Rattle.std.proofs.lemmas.Iterator.Search.{any_from_yields_List}
use Rattle.script.specs.Tree.{line}
use Rattle.script.specs.Fields.{fields, named_in}
use Rattle.acceptance.specs.Naming.{stands}
use Rattle.acceptance.proofs.Naming.{any_names}
use Rattle.acceptance.proofs.Search.{any_upto}
use Rattle.acceptance.proofs.sheet_lines.Sheet.is_named_below.Goals as goal

pub returns : goal.returns
returns c =
    let L = line c.args.self.now in
    let t : ℕ → Bool = λ k. stands c.args.m (named_in (fields (L k))) in
    any_from_yields_List t _ _ _ c.any.ensures.ran (YieldsList-from_range 0 c.args.n c.args.n (cc) (omega arith)) (λ x b q k. search rules)
    ∙ (any_upto t c.args.n ∙ any_names L c.args.m c.args.n)
