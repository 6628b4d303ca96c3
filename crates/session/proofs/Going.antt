-- A begin starts the machine's run, and a grant goes on with it.
use Rattle.std.proofs.Common.{◌≡◌, ℕ, ◌+◌, Bool, true, false, cond, List, Some, None, Ok, Err, Option, Result, sym, refl, ap, ap₂, eqb, ◌∙◌, subst, arith}
use Rattle.kinds.specs.Arithmetic.{Arithmetic}
use Rattle.text.specs.declared.refusals.Refusal.{Refusal}
use Rattle.rule.specs.Rewriting.{finished, stopped, fault}
use Rattle.rule.specs.Machine.{Item}
use Rattle.rule.specs.Resume.{Reached, going, ended}
use Rattle.faults.specs.declared.ending.Ending.TheVariants as End
use Rattle.faults.specs.declared.fault.Fault.{Fault}
use Rattle.faults.specs.Faults.{number_of}
use Rattle.engine.specs.declared.levels.Engine.{Engine}
use Rattle.engine.specs.declared.run.State.{State as Came}
use Rattle.engine.specs.Running.{CameTo, StandsFor, globals_in, machine_after}
use Rattle.calls.specs.declared.causes.SessionCause.{SessionCause}
use Rattle.calls.specs.declared.causes.SessionCause.TheVariants.{NoSuchRun, RunIsOver}
use Rattle.text.specs.Refusals.{without_line}
use Rattle.session.specs.declared.sessions.Opened.{Opened}
use Rattle.session.specs.declared.sessions.State.{State}
use Rattle.session.specs.declared.sessions.State.TheVariants.{AtRest, Running, Over}
use Rattle.session.specs.declared.runs.RunState.{RunState}
use Rattle.session.specs.declared.runs.RunState.TheVariants as Run
use Rattle.session.specs.Sessions.{Setting, Held, running, over}
use Rattle.session.specs.States.{held, opened_held, set_of}
use Rattle.session.specs.Runs.{AfterBegin, Granted, Starts, WentOn, grant_refusal, in_run, open_ticket, or_begun}

some_none : (c : SessionCause) → ◌≡◌ {A = Option SessionCause} (Some c) None → ⊥
some_none c e = let z : ◌≡◌ {A = ℕ} 0 1 = cc in omega arith

either_some : (b : Bool) (c d : SessionCause) → cond b (Some c) (Some d) ≡ None → ⊥
either_some true c d e = some_none c e
either_some false c d e = some_none d e

-- ## What the engine has come to

module _ (o : Setting) (e : Engine) (k n begun : ℕ) (σ : List ℕ) where
  abbrev Reaches : Came → Reached Item (List ℕ) → Type 0
  Reaches s x = CameTo (globals_in o.records) o.records e n begun s σ x

  pub goes_on : (s : Came) → s ≡ Came.Running → (x : Reached Item (List ℕ)) → Reaches s x → WentOn o k n (Ok Run.Running) (running o (k + begun) e) σ x
  goes_on s w (going ps τ) h = (refl, h.2, e, ap (λ i. running o (k + i) e) h.1, h.3)
  goes_on s w (ended finished m τ) h = absurd (let z : Came.Running ≡ Came.Finished = sym w ∙ h.0 in let y : ◌≡◌ {A = ℕ} 0 1 = cc in omega arith)
  goes_on s w (ended stopped m τ) h = absurd h
  goes_on s w (ended (fault f l) m τ) h = absurd (let z : Came.Running ≡ Came.Faulted h.0 l = sym w ∙ h.1 in let y : ◌≡◌ {A = ℕ} 0 1 = cc in omega arith)

  pub is_finished : (s : Came) → s ≡ Came.Finished → (x : Reached Item (List ℕ)) → Reaches s x → WentOn o k n (Ok Run.Over) (over o End.Finished (k + begun)) σ x
  is_finished s w (going ps τ) h = absurd (let z : Came.Finished ≡ Came.Running = sym w ∙ h.0 in let y : ◌≡◌ {A = ℕ} 0 1 = cc in omega arith)
  is_finished s w (ended finished m τ) h = (refl, h.2, End.Finished, refl, ap (λ i. over o End.Finished (k + i)) (let q : begun + m ≡ n = h.1 in omega (arith, q)))
  is_finished s w (ended stopped m τ) h = absurd h
  is_finished s w (ended (fault f l) m τ) h = absurd (let z : Came.Finished ≡ Came.Faulted h.0 l = sym w ∙ h.1 in let y : ◌≡◌ {A = ℕ} 0 1 = cc in omega arith)

  pub has_faulted : (s : Came) (f : Fault) (l : ℕ) → s ≡ Came.Faulted f l → (x : Reached Item (List ℕ)) → Reaches s x
      → WentOn o k n (Ok Run.Over) (over o (End.Fault f l) (k + begun)) σ x
  has_faulted s f l w (going ps τ) h = absurd (let z : Came.Faulted f l ≡ Came.Running = sym w ∙ h.0 in let y : ◌≡◌ {A = ℕ} 0 1 = cc in omega arith)
  has_faulted s f l w (ended finished m τ) h = absurd (let z : Came.Faulted f l ≡ Came.Finished = sym w ∙ h.0 in let y : ◌≡◌ {A = ℕ} 0 1 = cc in omega arith)
  has_faulted s f l w (ended stopped m τ) h = absurd h
  has_faulted s f l w (ended (fault g j) m τ) h =
      let same : Came.Faulted h.0 j ≡ Came.Faulted f l = sym h.1 ∙ w in
      let line : j ≡ l = cc in
      let why : h.0 ≡ f = cc in
      (refl, h.4, End.Fault f l, ap₂ fault (ap number_of (sym why) ∙ sym h.2) (sym line), ap (λ i. over o (End.Fault f l) (k + i)) (let q : begun + m ≡ n = h.3 in omega (arith, q)))

-- ## A grant that is not refused is to a run

module _ (K : Arithmetic) (o : Setting) (e : Engine) (run n begun : ℕ) (σ σ' : List ℕ) (r : Result RunState (Refusal SessionCause)) (new : Held) where
  abbrev Goes : Type 0
  Goes = (ps : List Item) → StandsFor o.records e ps → WentOn o begun n r new σ' (machine_after K o.size (globals_in o.records) n ps σ)

  pub to_a_run : (s : State) → or_begun (opened_held o s e) (grant_refusal (opened_held o s e) run n) ≡ Ok begun → Goes
      → grant_refusal (opened_held o s e) run n ≡ None → Granted K (opened_held o s e) n σ r new σ'
  to_a_run AtRest b g h = absurd (some_none NoSuchRun h)
  to_a_run (Running k) b g h =
      let same : k ≡ begun = let u : ◌≡◌ {A = Result ℕ (Refusal SessionCause)} (Ok k) (Ok begun) = sym (ap (or_begun (running o k e)) h) ∙ b in cc in
      λ ps w. subst (λ i. WentOn o i n r new σ' (machine_after K o.size (globals_in o.records) n ps σ)) (sym same) (g ps w)
  to_a_run (Over d k) b g h = absurd (either_some (eqb o.runs run) RunIsOver NoSuchRun h)

-- the same where the fields of the place are told: p is what was opened there, s and e are its state and its engine, t and e' those after it
pub granted_there : {X : Type 0} (K : Arithmetic) (p : Option (Opened X)) (q : Opened X) (s t : State) (e e' : Engine) (old : Held) (run n begun : ℕ) (σ σ' : List ℕ)
    (r : Result RunState (Refusal SessionCause)) → p ≡ Some q → held p s e ≡ old → or_begun old (grant_refusal old run n) ≡ Ok begun
    → Goes K (set_of q) e run n begun σ σ' r (opened_held (set_of q) t e')
    → grant_refusal old run n ≡ None → Granted K old n σ r (held p t e') σ'
granted_there K p q s t e e' old run n begun σ σ' r is view b g =
    let o = set_of q in
    subst (λ h. or_begun h (grant_refusal h run n) ≡ Ok begun → grant_refusal h run n ≡ None → Granted K h n σ r (held p t e') σ') view
    (subst (λ x. or_begun (held x s e) (grant_refusal (held x s e) run n) ≡ Ok begun → grant_refusal (held x s e) run n ≡ None → Granted K (held x s e) n σ r (held x t e') σ') (sym is)
    (λ u. to_a_run K o e run n begun σ σ' r (opened_held o t e') s u g)) b

-- ## The run stays open

ok_err : (n : ℕ) (c : SessionCause) → ◌≡◌ {A = Result ℕ (Refusal SessionCause)} (Err (without_line c)) (Ok n) → ⊥
ok_err n c e = let z : ◌≡◌ {A = ℕ} 0 1 = cc in omega arith

-- a session that may be granted more is in a run
in_that_run : (o : Setting) (s : State) (e : Engine) (run n begun : ℕ) → or_begun (opened_held o s e) (grant_refusal (opened_held o s e) run n) ≡ Ok begun
    → open_ticket (opened_held o s e) ≡ Some o.runs
in_that_run o AtRest e run n begun b = absurd (ok_err begun NoSuchRun b)
in_that_run o (Running k) e run n begun b = refl
in_that_run o (Over d k) e run n begun b = refl

-- the same where the fields of the place are told
pub stays_open : {X : Type 0} (p : Option (Opened X)) (q : Opened X) (s t : State) (e e' : Engine) (old : Held) (run n begun : ℕ)
    → p ≡ Some q → held p s e ≡ old → or_begun old (grant_refusal old run n) ≡ Ok begun
    → open_ticket (opened_held (set_of q) t e') ≡ Some q.runs → open_ticket (held p t e') ≡ open_ticket old
stays_open p q s t e e' old run n begun is view b g =
    let o = set_of q in
    let was : held (Some q) s e ≡ old = ap (λ x. held x s e) (sym is) ∙ view in
    ap (λ x. open_ticket (held x t e')) is ∙ (g ∙ (sym (in_that_run o s e run n begun (subst (λ h. or_begun h (grant_refusal h run n) ≡ Ok begun) (sym was) b)) ∙ ap open_ticket was))

-- ## A begin

pub started : (o : Setting) (s : State) (e e' : Engine) (n : ℕ) → s ≡ AtRest → Starts o.records e' → AfterBegin (opened_held o s e) (Ok n) (running (in_run n o) 0 e')
started o s e e' n w h = subst (λ x. AfterBegin (opened_held o x e) (Ok n) (running (in_run n o) 0 e')) (sym w) (e', refl, h)
