use Rattle.std.proofs.Common.{◌≡◌, ◌+◌, ◌*◌, ◌-◌, ◌≤◌, ◌++◌, vec_len, vec_capacity}
use Rattle.report.specs.Rows.{element_rows}
use Rattle.report.proofs.rows.write_elements.Given as goal

abbrev pub invariant-loop-index : goal.invariant-loop-index
invariant-loop-index g l =
    let words = g.S.Store.words l.store in
    record {
      len : vec_len l.lines ≤ vec_len l.initial.lines + 35 * l.index;
      capacity : vec_capacity l.initial.lines ≤ vec_capacity l.lines;
      items : (l.lines.items ++ element_rows words l.name l.index (l.first + l.index) (l.length - l.index)) ≡ (l.initial.lines.items ++ element_rows words l.name 0 l.first l.length);
    }
