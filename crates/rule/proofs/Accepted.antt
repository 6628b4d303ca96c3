-- The machine, which has no fresh names, and the copy rule agree on every script, wherever the rule's fresh names start; so the start does not show.
use Rattle.std.proofs.Common.{ℕ, ◌≤◌, List, length, ℤ, sym, ◌∙◌, le_refl, arith}
use Rattle.kinds.specs.Arithmetic.{Arithmetic}
use Rattle.lines.specs.declared.records.Line.{Line}
use Rattle.script.specs.Apart.{globals_of, first_fresh}
use Rattle.script.specs.IsScript.{IsScript}
use Rattle.script.proofs.Globals.{past_bound}
use Rattle.script.proofs.Declared.{lines_once, lines_within}
use Rattle.rule.specs.Work.{Work}
use Rattle.rule.specs.Agreement.{GoTogether, AcceptedAgrees}
use Rattle.rule.specs.FreshNames.{FreshNeverShows}
use Rattle.rule.proofs.InOrder.{told_agrees}

agrees_from : (K : Arithmetic) (size : ℕ) (fetch : List ℕ → ℕ → Work ℕ) (low high : ℤ) (ls : List Line) → length ls ≤ 2048 → (s : IsScript low high ls)
    → (f : ℕ) → first_fresh ≤ f → GoTogether K size fetch ls s.text f
agrees_from K size fetch low high ls h s =
    told_agrees K size fetch ls s.text (omega (arith, past_bound ls)) s.scoped (lines_once low high ls s) (lines_within low high ls s 2049 (omega arith))

pub accepted_agrees : AcceptedAgrees
accepted_agrees K size fetch low high ls h s = agrees_from K size fetch low high ls h s first_fresh (le_refl first_fresh)

pub fresh_never_shows : FreshNeverShows
fresh_never_shows K size fetch low high ls h s f above n σ =
    let used = (globals_of ls).taken in
    sym (agrees_from K size fetch low high ls h s f above n 0 used σ) ∙ accepted_agrees K size fetch low high ls h s n 0 used σ
