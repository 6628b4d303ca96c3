use Rattle.std.proofs.Common.{◌≡◌, ◌-◌, length}
use Rattle.acceptance.specs.Scopes.{declared_around, declared_from}
use Rattle.acceptance.proofs.sheet_lines.Sheet.look_up.Given as goal

abbrev pub invariant-loop-step : goal.invariant-loop-step
invariant-loop-step l = declared_from l.sought l.name l.self (length l.self - l._step) l.at ≡ declared_around l.sought l.name l.self l.n
