use Rattle.std.proofs.Common.{rules, ◌≡◌, true, false, length}
use Rattle.std.proofs.lemmas.Iterator.{first_from_Range}
use Rattle.script.specs.Tree.{line}
use Rattle.script.specs.Apart.{globals_of}
use Rattle.script.specs.Tests.{not_declared}
use Rattle.acceptance.proofs.Search.{lowest_by}
use Rattle.acceptance.proofs.sheet_lines.Sheet.lowest_undeclared.Goals as goal

pub returns : goal.returns
returns c =
    let t = not_declared (line c.args.self.now) (length c.args.self.now) (globals_of c.args.self.now).scope in
    lowest_by t _ _ _ c.numbers.ensures (first_from_Range _ _ _ _ (λ x. t x ≡ true) (λ x. t x ≡ false) c.find.ensures.ran (λ x q k. search rules) (λ x q k. search rules))
