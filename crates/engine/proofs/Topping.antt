-- What is to be begun next.
use Rattle.std.proofs.Common.{◌≡◌, ℕ, suc, ◌<◌, ◌≤◌, List, length, get_or, Some, None, subst, ⊎_elim}
use Rattle.std.specs.List.{slice_get}
use Rattle.std.proofs.lemmas.Bool.{cases_lt}
use Rattle.std.proofs.lemmas.Option.{slice_get-get_or, slice_get_past}
use Rattle.lines.specs.declared.records.Record.{Record}
use Rattle.script.specs.Names.{Names}
use Rattle.rule.specs.Machine.{Item}
use Rattle.engine.specs.declared.frame.Frame.{Frame}
use Rattle.engine.specs.Levels.{blank, Rest, Held, Waiting, Tops}

module _ (G : Names) (rs : List Record) (fs : List Frame) (h k : ℕ) (e : h ≡ suc k) (ps : List Item) (w : Waiting G rs fs h ps) where
  held : Held G rs fs (slice_get fs k) k ps (Waiting G rs fs k)
  held = subst (λ n. Waiting G rs fs n ps) e w

  there : k < length fs
  there =
      ⊎_elim (λ (l : k < length fs). l) (λ (l : length fs ≤ k). absurd (subst (λ o. Held G rs fs o k ps (Waiting G rs fs k)) (slice_get_past fs k l) held)) (cases_lt k (length fs))

  at_frame : Rest G rs fs (get_or fs k blank) (get_or fs k blank).rest k ps (Waiting G rs fs k)
  at_frame = subst (λ o. Held G rs fs o k ps (Waiting G rs fs k)) (slice_get-get_or fs k blank there) held

  pub top_some : (j : ℕ) → (get_or fs k blank).rest ≡ Some j → Tops G rs fs (Some (record { level = k; line = j })) ps
  top_some j t = subst (λ o. Rest G rs fs (get_or fs k blank) o k ps (Waiting G rs fs k)) t at_frame

  pub top_none : (get_or fs k blank).rest ≡ None → Waiting G rs fs k ps
  top_none t = subst (λ o. Rest G rs fs (get_or fs k blank) o k ps (Waiting G rs fs k)) t at_frame
