use Rattle.std.proofs.Common.{◌≡◌, length, replicate, take, ap, arith}
use Rattle.field.proofs.Cards.{front_told, none_told, told}
use Rattle.field.proofs.card.run_card.Goals as goal

pub returns-in_err-card-clause-front : goal.returns-in_err-card-clause-front
returns-in_err-card-clause-front g c = none_told (g.R.Read.remaining c.args.reader.now) (g.W.Write.contents c.args.writer.now)

pub returns-in_err-records-clause-front : goal.returns-in_err-records-clause-front
returns-in_err-records-clause-front g c = none_told (g.R.Read.remaining c.args.reader.now) (g.W.Write.contents c.args.writer.now)

pub returns-in_err-report-clause-front : goal.returns-in_err-report-clause-front
returns-in_err-report-clause-front g c = none_told (g.R.Read.remaining c.args.reader.now) (g.W.Write.contents c.args.writer.now)

pub returns-clause-told : goal.returns-clause-told
returns-clause-told g c =
    let r : length c.deref_mut.result.now ≡ 2048 = omega (arith, ap length c.deref_mut.ensures.value, c.deref_mut.ensures.len, c.in_ok-records.ensures.len, c.in_ok-records.records.ok.0) in
    let z : take 65536 c.new-store.result.cells.now ≡ replicate 1024 0 = ap (take 65536) c.new-store.ensures.cells in
    told (length c.deref_mut.result.now) c.deref.result.now c.in_ok-card.card.items (take 65536 c.new-store.result.cells.now) c.in_ok-report.report.items
    (take 65536 c.field_run.new.store.cells.now) c.deref-2.result.now (g.R.Read.remaining c.args.reader.now) (g.W.Write.contents c.args.writer.now)
    (g.W.Write.contents c.write_report.new.writer) r z c.deref.ensures.value c.deref-2.ensures.value c.in_ok-report.ensures.writes
    c.write_report.result c.in_ok-card.ensures.bytes c.write_report.ensures.whole

pub returns-clause-front : goal.returns-clause-front
returns-clause-front g c =
    let r : length c.deref_mut.result.now ≡ 2048 = omega (arith, ap length c.deref_mut.ensures.value, c.deref_mut.ensures.len, c.in_ok-records.ensures.len, c.in_ok-records.records.ok.0) in
    let z : take 65536 c.new-store.result.cells.now ≡ replicate 1024 0 = ap (take 65536) c.new-store.ensures.cells in
    front_told (length c.deref_mut.result.now) c.deref.result.now c.in_ok-card.card.items (take 65536 c.new-store.result.cells.now) c.in_ok-report.report.items
    (take 65536 c.field_run.new.store.cells.now) c.deref-2.result.now (g.R.Read.remaining c.args.reader.now) (g.W.Write.contents c.args.writer.now)
    (g.W.Write.contents c.write_report.new.writer) r z c.deref.ensures.value c.deref-2.ensures.value c.in_ok-report.ensures.writes
    c.write_report.ensures.front.0 c.in_ok-card.ensures.bytes c.write_report.ensures.front.1
