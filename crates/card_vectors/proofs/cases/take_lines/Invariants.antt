use Rattle.std.proofs.Common.{◌≡◌, ℕ, List, ◌++◌}
use Rattle.card_vectors.proofs.cases.take_lines.Given as goal

-- what is left stands at the end of the lines
abbrev pub invariant-loop : goal.invariant-loop
invariant-loop l = (front : List ℕ) × (l.lines ≡ front ++ l.rest)
