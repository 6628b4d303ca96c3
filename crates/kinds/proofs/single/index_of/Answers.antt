use Rattle.std.proofs.Common.{arith}
use Rattle.std.proofs.lemmas.Bool.Decides.{nat_tests}
use Rattle.std.proofs.lemmas.Bool.{lt-ltb, le-ltb}
use Rattle.kinds.proofs.Indexes.{whole_is}
use Rattle.kinds.proofs.single.index_of.Goals as goal
use Rattle.kinds.proofs.single.index_of.Goals.{else-n-lt-INDEX_LIMIT-via-then-n-lt-INDEX_LIMIT+else-n-x, else-n-lt-INDEX_LIMIT-via-else-n-lt-INDEX_LIMIT}

pub returns-then-n-x : goal.returns-then-n-x
returns-then-n-x c =
    let p = whole_is c.args.x c.saturating_f32_to_u32-n.result c.saturating_f32_to_u32-n.ensures in
    let t = c.if-n-x.true in
    let l = lt-ltb c.saturating_f32_to_u32-n.result 16777216 c.if-n-lt-INDEX_LIMIT.true in
    grind (arith, nat_tests)

pub returns-else-n-lt-INDEX_LIMIT : goal.returns-else-n-lt-INDEX_LIMIT
returns-else-n-lt-INDEX_LIMIT c =
    let p = whole_is c.args.x c.saturating_f32_to_u32-n.result c.saturating_f32_to_u32-n.ensures in
    elim c.else-n-lt-INDEX_LIMIT.branch [
      | else-n-lt-INDEX_LIMIT-via-then-n-lt-INDEX_LIMIT+else-n-x w ↦ let t = w.if-n-x.false in grind (arith, nat_tests)
      | else-n-lt-INDEX_LIMIT-via-else-n-lt-INDEX_LIMIT w ↦ let l = le-ltb c.saturating_f32_to_u32-n.result 16777216 w.if-n-lt-INDEX_LIMIT.false in grind (arith, nat_tests)
    ]
