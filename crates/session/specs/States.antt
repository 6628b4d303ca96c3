-- What the fields of a session's place stand for.
use Rattle.std.specs.Prelude.{Some, None, Option}
use Rattle.engine.specs.declared.levels.Engine.{Engine}
use Rattle.session.specs.declared.sessions.Opened.{Opened}
use Rattle.session.specs.declared.sessions.State.{State}
use Rattle.session.specs.declared.sessions.State.TheVariants.{AtRest, Running, Over}
use Rattle.session.specs.Sessions.{Setting, Held, none, at_rest, running, over}

abbrev pub set_of : {K : Type 0} → Opened K → Setting
set_of o = record { records = o.script.now; size = o.size; runs = o.runs }

abbrev pub opened_held : Setting → State → Engine → Held
opened_held o AtRest e = at_rest o
opened_held o (Running k) e = running o k e
opened_held o (Over d k) e = over o d k

abbrev pub held : {K : Type 0} → Option (Opened K) → State → Engine → Held
held None s e = none
held (Some o) s e = opened_held (set_of o) s e
