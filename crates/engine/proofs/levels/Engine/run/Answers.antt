use Rattle.std.proofs.Common.{◌≡◌, suc, ◌+◌, ◌-◌, ◌∙◌, ap, subst, arith}
use Rattle.engine.specs.Running.{CameTo, globals_in, machine_after}
use Rattle.engine.proofs.Granting.{step_from, turn_on, turn_finished, turn_fault, used_up}
use Rattle.engine.proofs.Starting.{accepted_of_kind}
use Rattle.engine.proofs.levels.Engine.run.Goals as goal

pub returns-in-Finished-clause-came : goal.returns-in-Finished-clause-came
returns-in-Finished-clause-came g c ps w =
    let K = g.K.NumberKind.kind in
    let a = c.args in
    let rs = a.script.now in
    let G = globals_in rs in
    let t = c.step-state in
    let b = c.loop-begun.begun in
    let i = c.loop-begun.invariant.1 ps w in
    let σ = g.S.Store.words c.loop-begun.store in
    let σ' = g.S.Store.words t.new.store in
    let v = step_from K a.size G _ rs c.loop-begun.self t.new.self t.result σ' σ c.records.ensures.is t.ensures.stepped i.0 (accepted_of_kind K rs c.records.ensures.accepted) i.1 in
    subst (CameTo G rs t.new.self a.allowance b t.result σ') i.2
    (turn_finished K a.size G rs t.new.self t.result σ' σ b (a.allowance - b) a.allowance i.0 c.in-Finished.is (omega (arith, c.loop-begun-test.true)) v)

pub returns-in-Faulted-clause-came : goal.returns-in-Faulted-clause-came
returns-in-Faulted-clause-came g c ps w =
    let K = g.K.NumberKind.kind in
    let a = c.args in
    let rs = a.script.now in
    let G = globals_in rs in
    let t = c.step-state in
    let b = c.loop-begun.begun in
    let n = a.allowance - (b + 1) in
    let i = c.loop-begun.invariant.1 ps w in
    let σ = g.S.Store.words c.loop-begun.store in
    let σ' = g.S.Store.words t.new.store in
    let v = step_from K a.size G _ rs c.loop-begun.self t.new.self t.result σ' σ c.records.ensures.is t.ensures.stepped i.0 (accepted_of_kind K rs c.records.ensures.accepted) i.1 in
    let e : suc n ≡ a.allowance - b = omega (arith, c.loop-begun-test.true) in
    subst (CameTo G rs t.new.self a.allowance (b + 1) t.result σ') (ap (λ m. machine_after K a.size G m i.0 σ) e ∙ i.2)
    (turn_fault K a.size G rs t.new.self t.result σ' σ c.in-Faulted.fault c.in-Faulted.line (b + 1) n a.allowance i.0 c.in-Faulted.is (omega (arith, c.loop-begun-test.true)) v)

pub loop-begun-preserved : goal.loop-begun-preserved
loop-begun-preserved g c = (
  c.step-state.ensures.lent ∙ c.loop-begun.invariant.0,
  λ ps w.
      let K = g.K.NumberKind.kind in
      let a = c.args in
      let rs = a.script.now in
      let G = globals_in rs in
      let t = c.step-state in
      let b = c.loop-begun.begun in
      let n = a.allowance - (b + 1) in
      let i = c.loop-begun.invariant.1 ps w in
      let σ = g.S.Store.words c.loop-begun.store in
      let σ' = g.S.Store.words t.new.store in
      let v = step_from K a.size G _ rs c.loop-begun.self t.new.self t.result σ' σ c.records.ensures.is t.ensures.stepped i.0 (accepted_of_kind K rs c.records.ensures.accepted) i.1 in
      let e : suc n ≡ a.allowance - b = omega (arith, c.loop-begun-test.true) in
      let o = turn_on K a.size G rs t.new.self t.result σ' σ n i.0 c.in-Running.is v in
      (o.0, o.1, o.2 ∙ ap (λ m. machine_after K a.size G m i.0 σ) e ∙ i.2),
)

pub returns-clause-came : goal.returns-clause-came
returns-clause-came g c ps w =
    let K = g.K.NumberKind.kind in
    let a = c.args in
    let rs = a.script.now in
    let G = globals_in rs in
    let i = c.loop-begun.invariant.1 ps w in
    let σ = g.S.Store.words c.loop-begun.store in
    subst (CameTo G rs c.loop-begun.self a.allowance a.allowance c.left.result σ) i.2
    (used_up K a.size G rs c.loop-begun.self a.allowance (a.allowance - c.loop-begun.begun) c.left.result σ i.0 (omega (arith, c.loop-begun-test.false)) (c.left.ensures G rs i.0 i.1) i.1)
