-- The verdict on a sheet.
use Rattle.std.proofs.Common.{◌≡◌, ℕ, suc, Bool, ◌⊎◌, ◌↔◌, List, length, ℤ, Some, None, inl, inr}
use Rattle.lines.specs.declared.records.Line.{Line}
use Rattle.script.specs.IsScript.{IsScript}
use Rattle.script.specs.Causes.{Reason, Refused, order}
use Rattle.script.specs.Tests.{finds_fault, refusal}
use Rattle.script.specs.Laws.{AcceptedExactly, OneVerdict}
use Rattle.script.proofs.Lowest.{AllNone, RefusedBy, none_and_refused, refusal_none, refusal_some, refused_one, the_refusal}
use Rattle.script.proofs.Accept.{faultless_script, script_faultless}
use Rattle.script.proofs.Faults.{none_same, refused_same}

module _ (low high : ℤ) (ls : List Line) where
  abbrev tests : Reason → ℕ → Bool
  tests = finds_fault low high ls

  abbrev end : ℕ
  end = suc (length ls)

  to_script : AllNone tests end order → IsScript low high ls
  to_script a = faultless_script low high ls ((none_same low high ls).0 a)

  from_script : IsScript low high ls → AllNone tests end order
  from_script s = (none_same low high ls).1 (script_faultless low high ls s)

  to_faults : (c n : ℕ) → RefusedBy tests end order c n → Refused low high ls c n
  to_faults c n = (refused_same low high ls c n).0

  from_faults : (c n : ℕ) → Refused low high ls c n → RefusedBy tests end order c n
  from_faults c n = (refused_same low high ls c n).1

  pub accepts_scripts : refusal low high ls ≡ None ↔ IsScript low high ls
  accepts_scripts = ((λ e. to_script ((refusal_none tests end order).0 e)), (λ s. (refusal_none tests end order).1 (from_script s)))

  pub refuses_faults : (c n : ℕ) → refusal low high ls ≡ Some (c, n) ↔ Refused low high ls c n
  refuses_faults c n = ((λ e. to_faults c n ((refusal_some tests end order c n).0 e)), (λ h. (refusal_some tests end order c n).1 (from_faults c n h)))

  abbrev Verdict : Type 0
  Verdict = (IsScript low high ls × ((c n : ℕ) → ¬ (Refused low high ls c n)))
      ⊎ ((c n : ℕ) × Refused low high ls c n × ((d m : ℕ) → Refused low high ls d m → (d ≡ c) × (m ≡ n)) × (¬ (IsScript low high ls)))

  pub verdict : Verdict
  verdict = elim (the_refusal tests end order) [
    | inl h ↦ inl (to_script h.1, λ c n r. none_and_refused tests end order c n h.1 (from_faults c n r))
    | inr h ↦ inr (
      h.0,
      h.1,
      to_faults h.0 h.1 h.3,
      (λ d m r. refused_one tests end order d m h.0 h.1 (from_faults d m r) h.3),
      (λ s. none_and_refused tests end order h.0 h.1 (from_script s) h.3),
    )
  ]

pub accepted_exactly : AcceptedExactly
accepted_exactly low high ls = (accepts_scripts low high ls, refuses_faults low high ls)

pub one_verdict : OneVerdict
one_verdict = verdict
