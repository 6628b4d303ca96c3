use Rattle.acceptance.proofs.sheet_lines.Sheet.+is_taken.Given as goal

abbrev pub decreases-is_taken : goal.decreases-is_taken
decreases-is_taken l = l.a
