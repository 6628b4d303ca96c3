-- The environment machine and the copy rule agree: on every text whose names are in order, and so on every script.
use Rattle.std.specs.Prelude.{◌≡◌, ℕ, ◌<◌, ◌≤◌, List, [], ◌∷◌, length, ℤ}
use Rattle.kinds.specs.Arithmetic.{Arithmetic}
use Rattle.lines.specs.declared.records.Line.{Line}
use Rattle.script.specs.Script.{Statement}
use Rattle.script.specs.Apart.{first_fresh, statement_apart, globals_of, past_globals}
use Rattle.script.specs.Lists.{Each, EachOnce}
use Rattle.script.specs.Scoped.{Scoped, declaring_lines}
use Rattle.script.specs.IsScript.{IsScript}
use Rattle.rule.specs.Work.{Work}
use Rattle.rule.specs.Rewriting.{rewrite}
use Rattle.rule.specs.Machine.{outside, machine}
use Rattle.rule.specs.Closing.{own_room}

module _ (K : Arithmetic) (size : ℕ) (fetch : List ℕ → ℕ → Work ℕ) (ls : List Line) (t : Statement) (fresh : ℕ) where
  -- from every store, with every allowance, both come to the same halt, where every put is taken and the rule's fresh names are those from one on
  abbrev pub GoTogether : Type 0
  GoTogether = (n level used : ℕ) (σ : List ℕ)
      → machine K size fetch own_room (globals_of ls).names n
      (record { text = statement_apart (globals_of ls).scope t; level = level; used = used; env = outside } ∷ []) σ
      ≡ rewrite K size fetch n (record { text = statement_apart (globals_of ls).scope t; level = level; used = used } ∷ [])
      (record { names = (globals_of ls).names; fresh = fresh; store = σ })

-- a text under the globals of a sheet: its names are declared, and its declaring lines are distinct, behind the globals and below 2049;
-- its fresh names may start anywhere above the sheet's own
abbrev pub ToldAgrees : Type 0
ToldAgrees = (K : Arithmetic) (size : ℕ) (fetch : List ℕ → ℕ → Work ℕ) (ls : List Line) (t : Statement) → past_globals ls ≤ 2049
    → Scoped (globals_of ls).scope t → EachOnce (declaring_lines t) → Each (λ l. (past_globals ls ≤ l) × (l < 2049)) (declaring_lines t)
    → (fresh : ℕ) → first_fresh ≤ fresh → GoTogether K size fetch ls t fresh

-- every script of at most 2,048 lines, for every kind, size and store that takes every put
abbrev pub AcceptedAgrees : Type 0
AcceptedAgrees = (K : Arithmetic) (size : ℕ) (fetch : List ℕ → ℕ → Work ℕ) (low high : ℤ) (ls : List Line) → length ls ≤ 2048
    → (s : IsScript low high ls) → GoTogether K size fetch ls s.text first_fresh
