use Rattle.std.proofs.Common.{rules}
use Rattle.script.specs.Tree.{line}
use Rattle.acceptance.proofs.Around.{taken_at}
use Rattle.acceptance.proofs.sheet_lines.Sheet.+is_taken.Goals as goal

pub returns-then-is_taken : goal.returns-then-is_taken
returns-then-is_taken t c = let e = taken_at c.args.n c.args.name (line c.args.self.now) c.args.a _ c.in-Join.ensures in search rules

pub returns-then-second-a : goal.returns-then-second-a
returns-then-second-a t c = let e = taken_at c.args.n c.args.name (line c.args.self.now) c.args.a _ c.in-Join.ensures in search rules

pub returns-else-second-a : goal.returns-else-second-a
returns-else-second-a t c = let e = taken_at c.args.n c.args.name (line c.args.self.now) c.args.a _ c.in-Join.ensures in search rules
