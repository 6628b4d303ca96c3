use Rattle.std.proofs.Common.{◌≡◌, Ok, length, sym, ap, ◌∙◌, subst}
use Rattle.session.specs.Sessions.{running}
use Rattle.session.specs.States.{held, opened_held, set_of}
use Rattle.session.specs.Runs.{AfterBegin, Starts, in_run}
use Rattle.session.proofs.Going.{started}
use Rattle.session.proofs.sessions.Session.begin_run.Goals as goal

pub returns-in-AtRest-Some-clause-session : goal.returns-in-AtRest-Some-clause-session
returns-in-AtRest-Some-clause-session g c =
    let o = set_of c.in-Some.opened in
    let n = c.in-AtRest-Some.run' in
    let e' = c.start.new.self in
    let is : opened_held o c.self.inside.state c.self.inside.engine ≡ c.args.self.now =
    ap (λ x. held x c.self.inside.state c.self.inside.engine) (sym c.in-Some.is) ∙ c.self.view_is in
    let starts : Starts o.records e' = λ K a. c.start.ensures K.least K.most o.records a (sym (ap length c.records.ensures.is)) (sym c.cells.ensures) in
    subst (λ h. AfterBegin h (Ok n) (running (in_run n o) 0 e')) is (started o c.self.inside.state c.self.inside.engine e' n c.in-AtRest-Some.is-0 starts)
