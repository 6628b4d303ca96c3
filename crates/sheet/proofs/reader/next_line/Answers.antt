use Rattle.std.proofs.lemmas.Option.{MatchOption-at_none, MatchOption-at_some}
use Rattle.sheet.proofs.Fills.{stopped_by, ok_or_said, first_reads, first_refused, first_unclosed}
use Rattle.sheet.proofs.reader.next_line.Goals as goal

pub returns-in_err-line : goal.returns-in_err-line
returns-in_err-line c =
    let r = stopped_by c.from_residual.result _ c.from_residual.ensures.0 c.from_residual.ensures.1 in
    let a = MatchOption-at_none _ _ c.in_err-line.ensures.ok_part c.cut.ensures in
    let f = first_unclosed c.args.number c.args.text.now c.in_err-line.field-0.0 c.requires a (ok_or_said c.cut.result _ _ c.in_err-line.ensures.value) in
    rw r f

pub returns-in_err-read_line : goal.returns-in_err-read_line
returns-in_err-read_line c =
    let r = stopped_by c.from_residual-in_err-read_line.result _ c.from_residual-in_err-read_line.ensures.0 c.from_residual-in_err-read_line.ensures.1 in
    rw r (first_refused c.args.number c.args.text.now _ _ _ (MatchOption-at_some _ _ _ c.in_ok-line.ensures.ok_part c.cut.ensures) c.in_err-read_line.ensures)

pub returns : goal.returns
returns c = first_reads c.args.number c.args.text.now _ _ _ (MatchOption-at_some _ _ _ c.in_ok-line.ensures.ok_part c.cut.ensures) c.in_ok-read_line.ensures
