use Rattle.std.proofs.Common.{ℕ, ◌+◌, Ok, List, refl, subst, sym}
use Rattle.rule.specs.Machine.{Item}
use Rattle.rule.specs.Resume.{Reached}
use Rattle.engine.specs.Running.{StandsFor, globals_in, machine_after}
use Rattle.session.specs.declared.runs.RunState.TheVariants as Run
use Rattle.session.specs.declared.sessions.State.TheVariants as State
use Rattle.session.specs.Sessions.{over}
use Rattle.session.specs.States.{set_of}
use Rattle.session.specs.Runs.{WentOn}
use Rattle.session.proofs.Going.{goes_on, granted_there, has_faulted, is_finished, stays_open}
use Rattle.session.proofs.sessions.Session.grant_run.Goals as goal
use Rattle.session.proofs.sessions.Session.grant_run.Goals.{in-Finished, in-Faulted}

pub returns-in-Running-clause-granted : goal.returns-in-Running-clause-granted
returns-in-Running-clause-granted g c =
    let o = set_of c.in-Some.opened in
    let e' = c.run-progress.new.self in
    let σ' = g.S.Store.words c.run-progress.new.store in
    let k = c.in_ok-begun.begun in
    let begun = c.run-progress.result.begun in
    granted_there g.K.NumberKind.kind c.self.inside.opened c.in-Some.opened c.self.inside.state (State.Running (k + begun)) c.self.inside.engine e' c.args.self.now
    c.args.run c.args.count k (g.S.Store.words c.args.store.now) σ' (Ok Run.Running) c.in-Some.is c.self.view_is (sym c.in_ok-begun.ensures.answer)
    (λ ps w. goes_on o e' k c.args.count begun σ' c.run-progress.result.state c.in-Running.is
    (machine_after g.K.NumberKind.kind o.size (globals_in o.records) c.args.count ps (g.S.Store.words c.args.store.now)) (c.run-progress.ensures.came ps w))

pub returns-clause-granted : goal.returns-clause-granted
returns-clause-granted g c =
    let o = set_of c.in-Some.opened in
    let e' = c.run-progress.new.self in
    let σ = g.S.Store.words c.args.store.now in
    let σ' = g.S.Store.words c.run-progress.new.store in
    let k = c.in_ok-begun.begun in
    let n = c.args.count in
    let begun = c.run-progress.result.begun in
    let x : List Item → Reached Item (List ℕ) = λ ps. machine_after g.K.NumberKind.kind o.size (globals_in o.records) n ps σ in
    let went : (ps : List Item) → StandsFor o.records c.self.inside.engine ps → WentOn o k n (Ok Run.Over) (over o c.match-progress.ending (k + begun)) σ' (x ps) =
    λ ps w. elim c.match-progress.branch [
      | in-Finished v ↦ subst (λ d. WentOn o k n (Ok Run.Over) (over o d (k + begun)) σ' (x ps)) (sym v.ending-is)
          (is_finished o e' k n begun σ' c.run-progress.result.state v.in-Finished.is (x ps) (c.run-progress.ensures.came ps w))
      | in-Faulted v ↦ subst (λ d. WentOn o k n (Ok Run.Over) (over o d (k + begun)) σ' (x ps)) (sym v.ending-is)
          (has_faulted o e' k n begun σ' c.run-progress.result.state v.in-Faulted.fault v.in-Faulted.line v.in-Faulted.is (x ps) (c.run-progress.ensures.came ps w))
    ] in
    granted_there g.K.NumberKind.kind c.self.inside.opened c.in-Some.opened c.self.inside.state (State.Over c.match-progress.ending (k + begun)) c.self.inside.engine e' c.args.self.now
    c.args.run n k σ σ' (Ok Run.Over) c.in-Some.is c.self.view_is (sym c.in_ok-begun.ensures.answer) went

pub returns-in-Running-clause-open : goal.returns-in-Running-clause-open
returns-in-Running-clause-open g c =
    stays_open c.self.inside.opened c.in-Some.opened c.self.inside.state (State.Running (c.in_ok-begun.begun + c.run-progress.result.begun)) c.self.inside.engine c.run-progress.new.self
    c.args.self.now c.args.run c.args.count c.in_ok-begun.begun c.in-Some.is c.self.view_is (sym c.in_ok-begun.ensures.answer) refl

pub returns-clause-open : goal.returns-clause-open
returns-clause-open g c =
    stays_open c.self.inside.opened c.in-Some.opened c.self.inside.state (State.Over c.match-progress.ending (c.in_ok-begun.begun + c.run-progress.result.begun)) c.self.inside.engine
    c.run-progress.new.self c.args.self.now c.args.run c.args.count c.in_ok-begun.begun c.in-Some.is c.self.view_is (sym c.in_ok-begun.ensures.answer) refl
