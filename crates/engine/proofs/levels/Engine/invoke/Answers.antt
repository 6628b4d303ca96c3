use Rattle.std.proofs.Common.{◌≡◌, Some, None, Err, sym, subst, rules}
use Rattle.script.specs.Apart.{own}
use Rattle.standing.specs.Standing.{ProcedureOf}
use Rattle.rule.specs.Handed.{handed, handed_room}
use Rattle.rule.specs.Machine.{procedure_at, enters}
use Rattle.engine.specs.Beginning.{Went}
use Rattle.engine.proofs.Naming.{procedure_there}
use Rattle.engine.proofs.Valuing.{never, inner, system_from}
use Rattle.engine.proofs.Stepping.{invoke_law, invoke_fault, invoke_never}
use Rattle.engine.proofs.levels.Engine.invoke.Goals as goal

pub returns-in_default-clause-begun : goal.returns-in_default-clause-begun
returns-in_default-clause-begun g c K G p qs is kind ready = absurd (never _ (sym (c.in_default.ensures is.0 is.1 is.2)))

pub returns-in_default-system-clause-begun : goal.returns-in_default-system-clause-begun
returns-in_default-system-clause-begun g c K G p qs is kind ready =
    let a = c.args in
    let rs = a.run.now.records.now in
    let fs = a.self.now.frames in
    let here = c.scene-scene.ensures in
    let t = c.in-Some.routine in
    let said = subst (λ r. ProcedureOf rs a.procedure r.system r.body) (sym (inner t _ (c.in-Some.ensures is.0 is.1 is.2))) is.2 in
    let b = system_from t.system _ rs _ fs _ a.at.level here.records here.frames here.level None c.in_default-system.ensures G p.env a.procedure t.body (ready.0).env said in
    absurd (invoke_never K a.run.now.size G rs fs a.at.level a.at.line p qs (g.S.Store.words a.store.now) ready.0 ready.1 (procedure_at p.env (own a.procedure)) a.procedure t.body b
    (procedure_there G p.env (own a.procedure) (ready.0).proper kind))

pub returns-in_err-enter-clause-begun : goal.returns-in_err-enter-clause-begun
returns-in_err-enter-clause-begun g c K G p qs is kind ready =
    let a = c.args in
    let rs = a.run.now.records.now in
    let fs = a.self.now.frames in
    let σ = g.S.Store.words a.store.now in
    let here = c.scene-scene.ensures in
    let e = c.enter in
    let t = c.in-Some.routine in
    let f = c.in_err-enter.field-0.0 in
    let F = procedure_at p.env (own a.procedure) in
    let said = subst (λ r. ProcedureOf rs a.procedure r.system r.body) (sym (inner t _ (c.in-Some.ensures is.0 is.1 is.2))) is.2 in
    let b = system_from t.system _ rs _ fs _ a.at.level here.records here.frames here.level (Some c.in-Some-system.outer) c.in-Some-system.ensures G p.env a.procedure t.body (ready.0).env said in
    let r : c.from_residual.result ≡ Err f = search rules in
    subst (λ x. Went G rs e.new.self.frames e.new.self.height x σ a.at.line qs (enters K a.run.now.size (handed K) handed_room G F a.at.line p.level p.used σ a.word a.variable)) (sym r)
    (invoke_fault K a.run.now.size G rs fs a.at.level a.at.line p qs σ ready.0 ready.1 e.new.self.frames e.new.self.height e.result f F a.procedure t.body c.in-Some-system.outer a.variable a.word b (e.ensures.moved, c.in_err-enter.was))

pub returns-clause-begun : goal.returns-clause-begun
returns-clause-begun g c K G p qs is kind ready =
    let a = c.args in
    let rs = a.run.now.records.now in
    let fs = a.self.now.frames in
    let here = c.scene-scene.ensures in
    let e = c.enter in
    let i = c.in_ok-enter in
    let t = c.in-Some.routine in
    let said = subst (λ r. ProcedureOf rs a.procedure r.system r.body) (sym (inner t _ (c.in-Some.ensures is.0 is.1 is.2))) is.2 in
    let b = system_from t.system _ rs _ fs _ a.at.level here.records here.frames here.level (Some c.in-Some-system.outer) c.in-Some-system.ensures G p.env a.procedure t.body (ready.0).env said in
    invoke_law K a.run.now.size G rs fs a.at.level a.at.line p qs (g.S.Store.words a.store.now) ready.0 ready.1
    e.new.self.frames e.new.self.height (g.S.Store.words c.put.new.store) e.result c.put.result (procedure_at p.env (own a.procedure)) a.procedure t.body c.in-Some-system.outer a.variable
    c.used-value.result a.word b (procedure_there G p.env (own a.procedure) (ready.0).proper kind) c.used-value.ensures (e.ensures.moved, i.was, i.ensures.frames) c.put.ensures.answer c.put.ensures.words
