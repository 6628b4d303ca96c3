use Rattle.std.proofs.Common.{◌≡◌, ◌-◌, List}
use Rattle.rule.specs.Machine.{Item}
use Rattle.engine.specs.Running.{Holds, StandsFor, globals_in, machine_after}
use Rattle.engine.proofs.levels.Engine.run.Given as goal

-- what is left of the allowance takes the machine from the state that the engine stands for to where all of it does from the first
abbrev pub invariant-loop-begun : goal.invariant-loop-begun
invariant-loop-begun g l =
    (g.S.Store.lent l.store ≡ g.S.Store.lent l.fn.store)
    × ((ps : List Item) → StandsFor l.script l.fn.self ps → (qs : List Item) × Holds (globals_in l.script) l.script l.self qs
    × (machine_after g.K.NumberKind.kind l.size (globals_in l.script) (l.allowance - l.begun) qs (g.S.Store.words l.store)
    ≡ machine_after g.K.NumberKind.kind l.size (globals_in l.script) l.allowance ps (g.S.Store.words l.fn.store)))
