use Rattle.std.proofs.Common.{◌≡◌, length, sym, subst, rules}
use Rattle.sheet.specs.Reading.{outcome, answer}
use Rattle.sheet.specs.Verdict.{Verdict}
use Rattle.sheet.proofs.Verdicts.{verdict, one_verdict}
use Rattle.sheet.proofs.reader.read_lines.Goals as goal

pub returns : goal.returns
returns c =
    let room = length c.args.records.now in
    let text = c.args.text.now in
    let a : c.fill.result ≡ answer (outcome room text) = search rules in
    let v : Verdict room text c.fill.result = subst (Verdict room text) (sym a) (verdict room text) in
    record { answer = a; bound = c.fill.ensures.bound; most = c.fill.ensures.most; line = c.fill.ensures.line; right = v; only = λ s h. one_verdict room text s c.fill.result h v; left = search rules }
