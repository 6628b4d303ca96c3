use Rattle.std.proofs.Common.{◌≡◌, None, arith, rules}
use Rattle.std.proofs.lemmas.Result.{MatchResult-at_ok, MatchResult-at_err}
use Rattle.text.proofs.Spelled.{both_number, number_says, spells_none, ok_said, err_said, no_value, decimal_utf8, reads_decimal, reads_back}
use Rattle.text.proofs.numbers.read_number.Goals as goal

pub returns-in_default-clause-spelled : goal.returns-in_default-clause-spelled
returns-in_default-clause-spelled c = number_says c.args.most c.args.field.now None (omega arith) (search rules)

pub returns-then-first-eq43-clause-spelled : goal.returns-then-first-eq43-clause-spelled
returns-then-first-eq43-clause-spelled c = number_says c.args.most c.args.field.now None (omega arith) (search rules)

pub returns-then-not-is_empty-clause-spelled : goal.returns-then-not-is_empty-clause-spelled
returns-then-not-is_empty-clause-spelled c = number_says c.args.most c.args.field.now None (omega arith) (search rules)

pub returns-then-n-most : goal.returns-then-n-most
returns-then-n-most c =
    let t = (MatchResult-at_ok _ _ c.in_ok-text.text (ok_said c.from_utf8.result _ c.in_ok-text.ensures.value) c.from_utf8.ensures.cases).0 in
    let p = both_number c.args.most c.args.field.now _ (omega arith) (reads_decimal c.in_ok-text.text.now c.args.field.now c.parse.result c.in_ok-n.n t c.parse.ensures.value.0 (λ p. grind (arith, rules)) (λ z. grind (arith, rules)) (ok_said c.parse.result _ c.in_ok-n.ensures.value), c.if-n-most.true) in
    record { spelled = p.0; value = p.1 }

pub returns-else-n-most : goal.returns-else-n-most
returns-else-n-most c =
    let p = both_number c.args.most c.args.field.now _ (omega arith) (λ n l e.
    let t = (MatchResult-at_ok _ _ c.in_ok-text.text (ok_said c.from_utf8.result _ c.in_ok-text.ensures.value) c.from_utf8.ensures.cases).0 in
    let b = reads_back c.in_ok-text.text.now c.args.field.now c.parse.result n t c.parse.ensures.value.0 (omega arith) e in
    let i = ok_said c.parse.result _ c.in_ok-n.ensures.value in
    let s : n ≡ c.in_ok-n.n = cc in
    omega arith) in
    record { spelled = p.0; value = p.1 }

pub returns-in_err-text : goal.returns-in_err-text
returns-in_err-text c =
    let p = spells_none c.args.most c.args.field.now _ (omega arith) c.from_residual.ensures (λ n l e.
    let f = err_said c.from_utf8.result c.in_err-text.ensures.value in
    (MatchResult-at_err _ _ f.0 f.1 c.from_utf8.ensures.cases).0 (decimal_utf8 _ n (omega arith) e)) in
    record { spelled = p.0; value = p.1 }

pub returns-in_err-n : goal.returns-in_err-n
returns-in_err-n c =
    let p = spells_none c.args.most c.args.field.now _ (omega arith) c.from_residual-in_err-n.ensures (λ n l e.
    let t = (MatchResult-at_ok _ _ c.in_ok-text.text (ok_said c.from_utf8.result _ c.in_ok-text.ensures.value) c.from_utf8.ensures.cases).0 in
    let b = reads_back c.in_ok-text.text.now c.args.field.now c.parse.result n t c.parse.ensures.value.0 (omega arith) e in
    no_value c.parse.result n c.in_err-n.ensures.value b) in
    record { spelled = p.0; value = p.1 }
