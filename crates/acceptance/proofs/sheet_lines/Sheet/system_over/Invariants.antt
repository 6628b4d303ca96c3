use Rattle.std.proofs.Common.{◌≡◌, ◌-◌, length}
use Rattle.acceptance.specs.Scopes.{system_at, system_from}
use Rattle.acceptance.proofs.sheet_lines.Sheet.system_over.Given as goal

abbrev pub invariant-loop-step : goal.invariant-loop-step
invariant-loop-step l = system_from l.self (length l.self - l._step) l.at ≡ system_at l.self l.n
