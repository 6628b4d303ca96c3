use Rattle.std.proofs.lemmas.Bool.{le-leb}
use Rattle.report.proofs.Lengths.{fits, short}
use Rattle.report.proofs.rows.write_row.Goals as goal

pub unwrap-length-requires : goal.unwrap-length-requires
unwrap-length-requires c =
    let a = c.args in
    let h = short (record { letter = a.letter; first = a.first; second = a.second; third = a.third }) c.ranges.first.fits c.ranges.second.fits c.ranges.third.fits in
    fits c.write.result _ _ _ c.write.ensures.answer (le-leb _ _ h)
