use Rattle.std.proofs.Common.{◌≡◌, ◌+◌, None, Ok, Err, [], ◌∷◌, ◌++◌, length, drop, sym, refl, ap, ◌∙◌, subst, arith, rules}
use Rattle.std.proofs.lemmas.List.{set-append_left, length-take-le}
use Rattle.lines.specs.declared.records.Line.{Line}
use Rattle.sheet.specs.Reading.{unresolved}
use Rattle.lines.specs.declared.refusals.Cause.TheVariants.{Room}
use Rattle.text.specs.Lines.{rows}
use Rattle.sheet.proofs.Fills.{ReadSoFar, stopped, one_more, rows_some, rows_none, lines_full, lines_read, lines_refused, all_taken, unwritten}
use Rattle.sheet.proofs.reader.fill.Goals as goal

pub returns-then-is_empty : goal.returns-then-is_empty
returns-then-is_empty c =
    let i = c.loop-index.invariant in
    let f = rows_none (length c.args.records.now) (c.loop-index.index + 1) c.loop-index.rest.now (grind (arith, rules)) in
    let e = stopped _ _ _ _ _ _ _ _ i.1 f in
    record { answer = e.0; bound = i.1.full; most = i.1.within; line = tt; left = unwritten c.loop-index.record-items (drop c.min-room.result c.args.records.now) c.loop-index.index (record { line = Line.Global 0 0; declaration = None }) ∙ e.1 }

pub returns-in-Err : goal.returns-in-Err
returns-in-Err c =
    let i = c.loop-index.invariant in
    let k = length-take-le c.min-room.result c.args.records.now (omega arith) in
    let f = lines_refused (length c.args.records.now) (c.loop-index.index + 1) c.loop-index.rest.now _ (omega arith) (omega arith) c.in-Err.ensures in
    let e = stopped _ _ _ _ _ _ _ _ i.1 f in
    record { answer = e.0; bound = tt; most = tt; line = omega arith; left = unwritten c.loop-index.record-items (drop c.min-room.result c.args.records.now) c.loop-index.index (record { line = Line.Global 0 0; declaration = None }) ∙ e.1 }

pub loop-index-preserved : goal.loop-index-preserved
loop-index-preserved c =
    let i = c.loop-index.invariant in
    let k = length-take-le c.min-room.result c.args.records.now (omega arith) in
    let f = lines_read (length c.args.records.now) (c.loop-index.index + 1) c.loop-index.rest.now c.in-Ok.after.now c.in-Ok.line (omega arith) (omega arith) c.in-Ok.ensures in
    let m = one_more _ _ _ _ _ _ _ _ _ i.1 (omega arith) (omega arith) refl f in
    (i.0 ++ c.in-Ok.line ∷ [], subst (λ now. ReadSoFar (length c.args.records.now) (c.loop-index.index + 1) c.args.text.now c.in-Ok.after.now now c.args.records.now (i.0 ++ c.in-Ok.line ∷ [])) (set-append_left c.loop-index.record-items (drop c.min-room.result c.args.records.now) c.loop-index.index (unresolved c.in-Ok.line) (omega arith)) m)

pub returns-then-is_empty-2 : goal.returns-then-is_empty-2
returns-then-is_empty-2 c =
    let i = c.loop-index.invariant in
    let k = length-take-le c.min-room.result c.args.records.now (omega arith) in
    let z : c.min-room.result ≡ c.loop-index.index = omega arith in
    let f = rows_none (length c.args.records.now) (c.loop-index.index + 1) c.loop-index.rest.now (grind (arith, rules)) in
    let e = stopped _ _ _ _ _ _ _ _ i.1 f in
    record { answer = ap Ok z ∙ e.0; bound = omega arith; most = omega (arith, i.1.within); line = tt; left = e.1 }

pub returns : goal.returns
returns c =
    let i = c.loop-index.invariant in
    let k = length-take-le c.min-room.result c.args.records.now (omega arith) in
    let z : c.min-room.result ≡ c.loop-index.index = omega arith in
    let t = all_taken (length c.args.records.now) c.loop-index.index (sym z ∙ c.min-room.ensures) in
    let f = lines_full (length c.args.records.now) (c.loop-index.index + 1) (rows c.loop-index.rest.now) (rows_some c.loop-index.rest.now (grind (arith, rules))) t in
    let e = stopped _ _ _ _ _ _ _ _ i.1 f in
    record { answer = ap (λ n. Err (record { cause = Room; line = n + 1 })) z ∙ e.0; bound = tt; most = tt; line = omega (arith, c.min-room.ensures); left = e.1 }
