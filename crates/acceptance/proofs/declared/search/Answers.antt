use Rattle.std.proofs.Common.{rules, sym, ◌∙◌}
use Rattle.acceptance.proofs.Sought.{found_here, none_left, not_here}
use Rattle.acceptance.proofs.declared.search.Goals as goal

pub loop-declared-init : goal.loop-declared-init
loop-declared-init g c = search rules

pub returns-then-name : goal.returns-then-name
returns-then-name g c =
    found_here g.D.Named.told c.args.name c.args.declarations.now c.loop-declared.declared-iterator.iter.rest.now c.next.new.self.iter.rest.now c.in-Some.declared.now
    c.loop-declared.invariant c.in-Some.ensures.steps c.name.result c.name.ensures c.if-name.true c.declaration.result c.declaration.ensures

pub loop-declared-preserved : goal.loop-declared-preserved
loop-declared-preserved g c =
    not_here g.D.Named.told c.args.name c.args.declarations.now c.loop-declared.declared-iterator.iter.rest.now c.next.new.self.iter.rest.now c.in-Some.declared.now
    c.loop-declared.invariant c.in-Some.ensures.steps c.name.result c.name.ensures c.if-name.false

pub returns : goal.returns
returns g c = sym (none_left g.D.Named.told c.args.name c.loop-declared.declared-iterator.iter.rest.now c.in-None.ensures.steps.0) ∙ c.loop-declared.invariant
