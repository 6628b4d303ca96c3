use Rattle.std.proofs.Common.{sym, ap, ◌∙◌, arith}
use Rattle.text.specs.Lines.{if_closed}
use Rattle.text.proofs.Rows.{past_first, none_closed, first_closed}
use Rattle.text.proofs.lines.line_after.Goals as goal

pub loop-passed-preserved : goal.loop-passed-preserved
loop-passed-preserved c = c.loop-passed.invariant ∙ ap if_closed (past_first _ _ _ c.args.others c.loop-passed.passed c.loop-passed-test.true c.in_ok-rest.ensures)

pub returns-in_err-rest : goal.returns-in_err-rest
returns-in_err-rest c = rw c.from_residual.ensures (sym (c.loop-passed.invariant ∙ none_closed _ _ c.in_err-rest.ensures))

pub returns-in_err-line : goal.returns-in_err-line
returns-in_err-line c = rw c.from_residual-in_err-line.ensures (sym (c.loop-passed.invariant ∙ none_closed _ _ c.in_err-line.ensures))

pub returns : goal.returns
returns c = sym (c.loop-passed.invariant ∙ first_closed _ _ _ _ (omega arith) c.in_ok-line.ensures)
