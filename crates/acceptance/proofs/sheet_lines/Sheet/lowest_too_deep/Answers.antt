use Rattle.std.proofs.Common.{rules, ◌≡◌, true, false}
use Rattle.std.proofs.lemmas.Iterator.{first_from_Range}
use Rattle.std.proofs.Common.{ℕ, Bool, ltb}
use Rattle.script.specs.Tree.{line, part}
use Rattle.script.specs.Depth.{deepest_allowed, depth}
use Rattle.acceptance.proofs.Search.{lowest_by}
use Rattle.acceptance.proofs.sheet_lines.Sheet.lowest_too_deep.Goals as goal

pub returns : goal.returns
returns c =
    let t = let u : ℕ → Bool = λ n. ltb deepest_allowed (depth (part (line c.args.self.now) n)) in u in
    lowest_by t _ _ _ c.numbers.ensures (first_from_Range _ _ _ _ (λ x. t x ≡ true) (λ x. t x ≡ false) c.find.ensures.ran (λ x q k. search rules) (λ x q k. search rules))
