-- A script's declaring lines are distinct, behind the globals and lines of the sheet.
use Rattle.std.proofs.Common.{ℕ, ◌<◌, ◌≤◌, List, length, ℤ, subst, arith}
use Rattle.lines.specs.declared.records.Line.{Line}
use Rattle.script.specs.Tree.{line}
use Rattle.script.specs.Apart.{past_globals}
use Rattle.script.specs.Lists.{Each, EachOnce, times}
use Rattle.script.specs.Scoped.{declaring_lines}
use Rattle.script.specs.IsScript.{IsScript}
use Rattle.script.proofs.Lists.{each_from, once_all}
use Rattle.script.proofs.Globals.{front_of}
use Rattle.script.proofs.Declaring.{declares_once, declares_range, declaring_lines_in}
use Rattle.script.proofs.Accept.{the_form}

module _ (low high : ℤ) (ls : List Line) (s : IsScript low high ls) where
  pub lines_once : EachOnce (declaring_lines s.text)
  lines_once = once_all (declaring_lines s.text) (subst (λ p. (l : ℕ) → times l (declaring_lines_in p) ≤ 1) s.is (declares_once (line ls) (length ls) (past_globals ls) (front_of ls) (the_form low high ls s)))

  lines_range : (l : ℕ) → 1 ≤ times l (declaring_lines s.text) → (past_globals ls ≤ l) × (l ≤ length ls)
  lines_range = subst (λ p. (l : ℕ) → 1 ≤ times l (declaring_lines_in p) → (past_globals ls ≤ l) × (l ≤ length ls)) s.is (declares_range (line ls) (length ls) (past_globals ls) (front_of ls) (the_form low high ls s))

  pub lines_within : (k : ℕ) → length ls < k → Each (λ l. (past_globals ls ≤ l) × (l < k)) (declaring_lines s.text)
  lines_within k h = each_from (λ l. (past_globals ls ≤ l) × (l < k)) (declaring_lines s.text) (λ l q. let w : (past_globals ls ≤ l) × (l ≤ length ls) = lines_range l q in (w.0, omega arith))
