use Rattle.std.proofs.Common.{◌≡◌, ◌+◌, sym, ap, ◌∙◌, arith}
use Rattle.script.specs.Tree.{line}
use Rattle.script.specs.Around.{user}
use Rattle.acceptance.proofs.Around.{named_from_one, user_before, user_here}
use Rattle.acceptance.proofs.sheet_lines.Sheet.user.Goals as goal

pub returns-then-names : goal.returns-then-names
returns-then-names c =
    let e : c.in-Some.k + 1 ≡ c.loop-k.k-iterator.iter.end = omega (arith, c.in-Some.ensures.steps) in
    record {
      user = sym (user_here (line c.args.self.now) c.args.m _ c.in-Some.k e (sym c.if-names.ensures)) ∙ c.loop-k.invariant.1;
      counted = (named_from_one c.args.self.now c.args.m c.in-Some.k (sym c.if-names.ensures), omega (arith, e, c.loop-k.invariant.2));
    }

pub loop-k-preserved : goal.loop-k-preserved
loop-k-preserved c =
    let e : c.in-Some.k + 1 ≡ c.loop-k.k-iterator.iter.end = omega (arith, c.in-Some.ensures.steps) in
    let k : c.next.new.self.iter.end ≡ c.in-Some.k = omega (arith, c.in-Some.ensures.steps) in
    let s : c.next.new.self.iter.start ≡ 0 = omega (arith, c.in-Some.ensures.steps, c.loop-k.invariant.0) in
    (s, ap (λ j. user (line c.args.self.now) j c.args.m) k ∙ (sym (user_before (line c.args.self.now) c.args.m _ c.in-Some.k e (sym c.if-names.ensures)) ∙ c.loop-k.invariant.1), omega (arith, k, e, c.loop-k.invariant.2))

pub returns-clause-user : goal.returns-clause-user
returns-clause-user c =
    let z : c.loop-k.k-iterator.iter.end ≡ 0 = omega (arith, c.in-None.ensures.steps, c.loop-k.invariant.0) in
    sym (ap (λ k. user (line c.args.self.now) k c.args.m) z) ∙ c.loop-k.invariant.1
