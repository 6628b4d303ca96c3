use Rattle.std.proofs.Common.{◌≡◌, map}
use Rattle.acceptance.specs.Scopes.{last_declared}
use Rattle.acceptance.proofs.declared.search.Given as goal

-- the last declaration of the name is that of those not yet looked at
abbrev pub invariant-loop-declared : goal.invariant-loop-declared
invariant-loop-declared g l = last_declared (map g.D.Named.told l.declared-iterator.iter.rest.now) l.name ≡ last_declared (map g.D.Named.told l.declarations) l.name
