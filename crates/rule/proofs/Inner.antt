-- A script's runs depend on the globals' cells alone, and so do its closings and whether it is over.
use Rattle.std.proofs.Common.{◌≡◌, ℕ, ◌-◌, ◌≤◌, not, List, length, ℤ, sym, ap, ◌∙◌, subst, le_refl}
use Rattle.lines.specs.declared.records.Line.{Line}
use Rattle.kinds.specs.Arithmetic.{Arithmetic}
use Rattle.script.specs.IsScript.{IsScript}
use Rattle.script.specs.Apart.{globals_of, first_fresh}
use Rattle.rule.specs.Rewriting.{Ending, Halt, rewrite}
use Rattle.rule.specs.Machine.{machine}
use Rattle.rule.specs.Closing.{Program, Closing, Closes, own_fetch, own_room, program_of, start, first_items}
use Rattle.rule.specs.Local.{Agree, SameHalt, SameClosing, GlobalsSuffice, ClosingsAlike}
use Rattle.rule.proofs.Local.{globals_sit, runs_locally}
use Rattle.rule.proofs.Accepted.{accepted_agrees}
use Rattle.rule.proofs.Count.{closing, closing_from, closes_so, halt_at, is_over, is_stopped, over_true, true_over}

pub globals_suffice : GlobalsSuffice
globals_suffice K size low high ls few s n σ τ e =
    let u = (globals_of ls).taken in
    let items = first_items (program_of ls s.text) in
    let m = runs_locally K size (globals_of ls).names u (globals_sit ls) n u items σ τ (le_refl u, tt, le_refl u) e in
    let run : List ℕ → Halt = λ store. rewrite K size own_fetch n (start (program_of ls s.text)) (record { names = (globals_of ls).names; fresh = first_fresh; store = store }) in
    subst (λ (h : Halt). SameHalt u h (run τ)) (accepted_agrees K size own_fetch low high ls few s n 0 u σ)
    (subst (λ (h : Halt). SameHalt u (machine K size own_fetch own_room (globals_of ls).names n items σ) h) (accepted_agrees K size own_fetch low high ls few s n 0 u τ) m)

same_closing : (taken n : ℕ) (g h : Halt) → SameHalt taken g h → SameClosing taken (closing_from n g) (closing_from n h)
same_closing taken n g h e = record { ending = e.ending; count = ap (λ (k : ℕ). n - k) e.left; store = e.store }

module _ (K : Arithmetic) (size : ℕ) (low high : ℤ) (ls : List Line) (few : length ls ≤ 2048) (s : IsScript low high ls)
    (n : ℕ) (σ τ : List ℕ) (e : Agree (globals_of ls).taken σ τ) where
  abbrev P : Program
  P = program_of ls s.text

  halts_alike : SameHalt (globals_of ls).taken (halt_at K P size σ n) (halt_at K P size τ n)
  halts_alike = globals_suffice K size low high ls few s n σ τ e

  pub closes_alike : (c d : Closing) → Closes K P size σ n c → Closes K P size τ n d → SameClosing (globals_of ls).taken c d
  closes_alike c d p q =
      subst (λ (x : Closing). SameClosing (globals_of ls).taken x d) (sym (closes_so K P size σ n c p))
      (subst (SameClosing (globals_of ls).taken (closing K P size σ n)) (sym (closes_so K P size τ n d q))
      (same_closing (globals_of ls).taken n (halt_at K P size σ n) (halt_at K P size τ n) halts_alike))

  pub over_alike : is_over K P size σ n ≡ is_over K P size τ n
  over_alike = ap (λ (x : Ending). not (is_stopped x)) halts_alike.ending

pub closings_alike : ClosingsAlike
closings_alike K size low high ls few s n σ τ e =
    let P = program_of ls s.text in
    let o = over_alike K size low high ls few s n σ τ e in (
      closes_alike K size low high ls few s n σ τ e,
      ((λ i. true_over K P size τ n (sym o ∙ over_true K P size σ n i)), (λ i. true_over K P size σ n (o ∙ over_true K P size τ n i))),
    )
