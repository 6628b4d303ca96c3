use Rattle.std.proofs.Common.{◌≡◌, ◌+◌, ◌*◌, ◌≤◌, ◌++◌, drop, vec_len, vec_capacity}
use Rattle.script.specs.Apart.{heads}
use Rattle.acceptance.specs.Sheet.{lines_of}
use Rattle.acceptance.proofs.Cells.{Counted}
use Rattle.report.specs.Rows.{rows_from}
use Rattle.report.proofs.rows.write_globals.Given as goal

abbrev pub invariant-loop-record : goal.invariant-loop-record
invariant-loop-record g l =
    let words = g.S.Store.words l.store in
    record {
      small : l.first ≤ 65535 * l.record-index;
      counted : Counted l.records l.record-index l.first;
      len : vec_len l.lines ≤ vec_len l.initial.lines + 35 * l.first;
      capacity : vec_capacity l.initial.lines ≤ vec_capacity l.lines;
      items : (l.lines.items ++ rows_from words l.first (heads (lines_of (drop l.record-index l.records)))) ≡ (l.initial.lines.items ++ rows_from words 0 (heads (lines_of l.records)));
    }
