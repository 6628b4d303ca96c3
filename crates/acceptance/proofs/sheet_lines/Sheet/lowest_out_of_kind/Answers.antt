use Rattle.std.proofs.Common.{rules, ◌≡◌, true, false}
use Rattle.std.proofs.lemmas.Iterator.{first_from_Range}
use Rattle.script.specs.Tree.{line}
use Rattle.script.specs.Tests.{off_kind}
use Rattle.acceptance.proofs.Search.{lowest_by}
use Rattle.acceptance.proofs.sheet_lines.Sheet.lowest_out_of_kind.Goals as goal

pub returns : goal.returns
returns g c =
    let t = off_kind g.K.NumberKind.kind.least g.K.NumberKind.kind.most (line c.args.self.now) in
    lowest_by t _ _ _ c.numbers.ensures (first_from_Range _ _ _ _ (λ x. t x ≡ true) (λ x. t x ≡ false) c.find.ensures.ran (λ x q k. search rules) (λ x q k. search rules))
