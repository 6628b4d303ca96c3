-- What begin, grant and close answer, and what they leave, for any session and any store that is handed over.
use Rattle.std.specs.Prelude.{◌≡◌, ℕ, ◌+◌, ◌-◌, ◌||◌, cond, List, Some, None, Ok, Err, Option, Result, nat_lt, ◌==◌}
use Rattle.kinds.specs.Arithmetic.{Arithmetic}
use Rattle.lines.specs.declared.records.Record.{Record}
use Rattle.text.specs.declared.refusals.Refusal.{Refusal}
use Rattle.text.specs.Refusals.{without_line}
use Rattle.acceptance.specs.Sheet.{lines_of}
use Rattle.acceptance.specs.Scripts.{Accepted}
use Rattle.rule.specs.Closing.{first_items, program_of}
use Rattle.rule.specs.Machine.{Item}
use Rattle.rule.specs.Resume.{Reached, going, ended}
use Rattle.faults.specs.declared.ending.Ending.{Ending}
use Rattle.faults.specs.declared.ending.Ending.TheVariants.{Stopped}
use Rattle.faults.specs.Endings.{in_rule}
use Rattle.engine.specs.declared.levels.Engine.{Engine}
use Rattle.engine.specs.Running.{StandsFor, globals_in, machine_after}
use Rattle.calls.specs.declared.causes.SessionCause.{SessionCause}
use Rattle.calls.specs.declared.causes.SessionCause.TheVariants.{NotAtRest, NoSuchRun, WrongGrant, RunIsOver, NoRunLeft}
use Rattle.calls.specs.Answers.{largest}
use Rattle.session.specs.declared.runs.Closing.{Closing}
use Rattle.session.specs.declared.runs.RunState.{RunState}
use Rattle.session.specs.declared.runs.RunState.TheVariants.{Running, Over}
use Rattle.session.specs.declared.tickets.Ticket.{Ticket}
use Rattle.session.specs.declared.tickets.Unclosed.{Unclosed}
use Rattle.session.specs.Sessions.{Setting, Held, none, at_rest, running, over}

-- the number of the open run's ticket, if a run is open
abbrev pub open_ticket : Held → Option ℕ
open_ticket none = None
open_ticket (at_rest o) = None
open_ticket (running o k e) = Some o.runs
open_ticket (over o d k) = Some o.runs

-- ## Begin

-- the number of a ticket that is given
abbrev pub numbered : Result Ticket (Refusal SessionCause) → Result ℕ (Refusal SessionCause)
numbered (Ok t) = Ok t.run
numbered (Err r) = Err r

abbrev pub begin_answer : Held → Result ℕ (Refusal SessionCause)
begin_answer none = Err (without_line NotAtRest)
begin_answer (at_rest o) = cond (nat_lt o.runs largest) (Ok (o.runs + 1)) (Err (without_line NoRunLeft))
begin_answer (running o k e) = Err (without_line NotAtRest)
begin_answer (over o d k) = Err (without_line NotAtRest)

-- the engine stands for the first state of the machine in a run of an accepted script
abbrev pub Starts : List Record → Engine → Type 0
Starts rs e = (K : Arithmetic) (a : Accepted K.least K.most rs) → StandsFor rs e (first_items (program_of (lines_of rs) a.script.text))

abbrev pub in_run : ℕ → Setting → Setting
in_run n o = record { records = o.records; size = o.size; runs = n }

-- the session after a begin that was answered so
abbrev pub AfterBegin : Held → Result ℕ (Refusal SessionCause) → Held → Type 0
AfterBegin (at_rest o) (Ok n) new = (e : Engine) × (new ≡ running (in_run n o) 0 e) × Starts o.records e
AfterBegin (at_rest o) (Err r) new = new ≡ at_rest o
AfterBegin none a new = new ≡ none
AfterBegin (running o k e) a new = new ≡ running o k e
AfterBegin (over o d k) a new = new ≡ over o d k

-- ## Grant

-- why a grant of n to the run with that number is refused, if it is
abbrev pub grant_refusal : Held → (run n : ℕ) → Option SessionCause
grant_refusal none run n = Some NoSuchRun
grant_refusal (at_rest o) run n = Some NoSuchRun
grant_refusal (running o k e) run n = cond (o.runs == run) (cond (n == 0 || nat_lt largest (k + n)) (Some WrongGrant) None) (Some NoSuchRun)
grant_refusal (over o d k) run n = cond (o.runs == run) (Some RunIsOver) (Some NoSuchRun)

-- how many statements a run has begun that is granted more, or why it is not
abbrev pub or_begun : Held → Option SessionCause → Result ℕ (Refusal SessionCause)
or_begun h (Some c) = Err (without_line c)
or_begun none None = Ok 0
or_begun (at_rest o) None = Ok 0
or_begun (running o k e) None = Ok k
or_begun (over o d k) None = Ok k

-- how far the machine came in n statements, k begun before: it is running where something is left to do
abbrev pub WentOn : Setting → (k n : ℕ) → Result RunState (Refusal SessionCause) → Held → List ℕ → Reached Item (List ℕ) → Type 0
WentOn o k n r new σ (going ps τ) = (r ≡ Ok Running) × (σ ≡ τ) × (e : Engine) × (new ≡ running o (k + n) e) × StandsFor o.records e ps
WentOn o k n r new σ (ended d m τ) = (r ≡ Ok Over) × (σ ≡ τ) × (c : Ending) × (in_rule c ≡ d) × (new ≡ over o c (k + (n - m)))

-- A grant that is not refused, over a store with the words σ: for every state of the machine that the session stands for, it then stands for
-- the machine's state that many statements later.
abbrev pub Granted : Arithmetic → Held → ℕ → List ℕ → Result RunState (Refusal SessionCause) → Held → List ℕ → Type 0
Granted K none n σ r new σ' = ⊥
Granted K (at_rest o) n σ r new σ' = ⊥
Granted K (running o k e) n σ r new σ' = (ps : List Item) → StandsFor o.records e ps → WentOn o k n r new σ' (machine_after K o.size (globals_in o.records) n ps σ)
Granted K (over o d k) n σ r new σ' = ⊥

-- ## Close

abbrev pub closing : Ending → ℕ → Closing
closing d k = record { ending = d; count = k }

abbrev pub close_answer : Held → ℕ → Result Closing (Refusal SessionCause)
close_answer none run = Err (without_line NoSuchRun)
close_answer (at_rest o) run = Err (without_line NoSuchRun)
close_answer (running o k e) run = cond (o.runs == run) (Ok (closing Stopped k)) (Err (without_line NoSuchRun))
close_answer (over o d k) run = cond (o.runs == run) (Ok (closing d k)) (Err (without_line NoSuchRun))

abbrev pub after_close : Held → ℕ → Held
after_close none run = none
after_close (at_rest o) run = at_rest o
after_close (running o k e) run = cond (o.runs == run) (at_rest o) (running o k e)
after_close (over o d k) run = cond (o.runs == run) (at_rest o) (over o d k)

-- a close without the ticket that a refused one hands back
abbrev pub unclosed : Result Closing Unclosed → Result Closing (Refusal SessionCause)
unclosed (Ok c) = Ok c
unclosed (Err u) = Err u.refusal
