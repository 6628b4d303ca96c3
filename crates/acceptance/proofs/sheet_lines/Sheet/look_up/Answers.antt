use Rattle.std.proofs.Common.{◌+◌, ◌-◌, ◌<◌, ◌≤◌, length, sym, ap, ◌∙◌, arith}
use Rattle.std.specs.Option.{option_or}
use Rattle.acceptance.specs.Scopes.{declared_from}
use Rattle.acceptance.proofs.Called.{or_none, or_some}
use Rattle.acceptance.proofs.Outward.{outward_out, outward_top, outward_turn}
use Rattle.acceptance.proofs.sheet_lines.Sheet.look_up.Goals as goal

pub returns-in_default : goal.returns-in_default
returns-in_default c =
    let ls = c.args.self.now in
    let q : c.loop-step._step < length ls = omega (arith, c.len-step-end.ensures.is) in
    c.find.ensures ls c.globals.ensures ∙ (sym (outward_top c.args.sought c.args.name ls c.loop-step._step c.loop-step.at q c.in_default.ensures.user) ∙ c.loop-step.invariant)

pub returns-then-is_some : goal.returns-then-is_some
returns-then-is_some c =
    let ls = c.args.self.now in
    let q : c.loop-step._step < length ls = omega (arith, c.len-step-end.ensures.is) in
    let rest = declared_from c.args.sought c.args.name ls (length ls - (c.loop-step._step + 1)) c.in-Some.user in
    sym (or_some c.declared_by-found.result rest (sym c.if-is_some.ensures))
    ∙ (ap (λ o. option_or o rest) c.declared_by-found.ensures
    ∙ (sym (outward_turn c.args.sought c.args.name ls c.loop-step._step c.loop-step.at c.in-Some.user q c.in-Some.ensures.user c.in-Some.ensures.counted.0) ∙ c.loop-step.invariant))

pub loop-step-preserved : goal.loop-step-preserved
loop-step-preserved c =
    let ls = c.args.self.now in
    let q : c.loop-step._step < length ls = omega (arith, c.len-step-end.ensures.is) in
    let rest = declared_from c.args.sought c.args.name ls (length ls - (c.loop-step._step + 1)) c.in-Some.user in
    sym (or_none c.declared_by-found.result rest (sym c.if-is_some.ensures))
    ∙ (ap (λ o. option_or o rest) c.declared_by-found.ensures
    ∙ (sym (outward_turn c.args.sought c.args.name ls c.loop-step._step c.loop-step.at c.in-Some.user q c.in-Some.ensures.user c.in-Some.ensures.counted.0) ∙ c.loop-step.invariant))

pub returns : goal.returns
returns c =
    let ls = c.args.self.now in
    let q : length ls ≤ c.loop-step._step = omega (arith, c.len-step-end.ensures.is) in
    c.find-2.ensures ls c.globals-2.ensures ∙ (sym (outward_out c.args.sought c.args.name ls c.loop-step._step c.loop-step.at q) ∙ c.loop-step.invariant)
