use Rattle.std.proofs.Common.{◌≡◌, ℕ, ◌<◌, ◌≤◌}
use Rattle.standing.specs.Records.{declaration_in, record_at}
use Rattle.acceptance.specs.Sheet.{lines_of}
use Rattle.acceptance.specs.Scopes.{declaration_at}
use Rattle.acceptance.proofs.resolve.resolve.Given as goal

abbrev pub invariant-loop-index : goal.invariant-loop-index
invariant-loop-index l =
    (lines_of l.records ≡ lines_of l.initial.records)
    × ((n : ℕ) → 0 < n → n ≤ l.index → declaration_in (record_at l.records n) ≡ declaration_at (lines_of l.initial.records) n)
