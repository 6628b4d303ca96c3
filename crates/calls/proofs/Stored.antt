-- In a run the store holds what the copy rule leaves of the statements granted so far.
use Rattle.std.proofs.Common.{◌≡◌, ℕ, ◌+◌, List, [], ◌∷◌, sym, refl, ap, ◌∙◌}
use Rattle.kinds.specs.Arithmetic.{Arithmetic}
use Rattle.lines.specs.declared.records.Line.{Line}
use Rattle.script.specs.Script.{Statement}
use Rattle.rule.specs.Closing.{Closing, program_of}
use Rattle.rule.proofs.Count.{closing, closes_so}
use Rattle.calls.specs.History.{Event, History, Ledger, Place, Run, empty, between, in_run, after, ledger, more}
use Rattle.calls.specs.Laws.{StoreInRun}
use Rattle.calls.specs.Answers.{Conversation, Due, Leaves, Runs, open_refused, open_done, post_not_at_rest, post_nowhere, post_unlawful, post_done, reading_not_at_rest, reading_nowhere, reading_done, begin_not_at_rest, begin_spent, begin_done, grant_no_run, grant_after_end, grant_of_nothing, grant_too_much, grant_goes_on, grant_ends, close_no_run, close_done}

module _ (K : Arithmetic) (ls : List Line) (t : Statement) (size : ℕ) where
  -- what the copy rule leaves in the store of a run with what it was granted
  abbrev left_by : Run → List ℕ
  left_by r = (closing K (program_of ls t) size r.from r.granted).store

  abbrev Held : Ledger → Type 0
  Held s = (r : Run) → s.place ≡ in_run r → s.words ≡ left_by r

  no_run : (x : Place) (m : ℕ) (r : Run) → x ≡ between m → x ≡ in_run r → ⊥
  no_run x m r p q = cc

  no_place : (r : Run) → empty ≡ in_run r → ⊥
  no_place r p = cc

  same_run : (q r : Run) → in_run q ≡ in_run r → q ≡ r
  same_run q r p = cc

  held_in : (σ : List ℕ) (q : Run) → σ ≡ left_by q → (r : Run) → in_run q ≡ in_run r → σ ≡ left_by r
  held_in σ q e r p = e ∙ ap left_by (same_run q r p)

  module _ (s : Ledger) where
    -- what a grant leaves
    granted_held : (k n : ℕ) (r : Run) (σ : List ℕ) → Runs K ls t size s k r → Leaves K ls t size r (r.granted + n) σ
        → (q : Run) → more n s.place ≡ in_run q → σ ≡ left_by q
    granted_held k n r σ p l q e =
        held_in σ (record { number = r.number; granted = r.granted + n; from = r.from })
        (sym l.2 ∙ ap (λ (c : Closing). c.store) (closes_so K (program_of ls t) size r.from (r.granted + n) l.0 l.1))
        q (ap (more n) (sym p.0) ∙ e)

    held : (e : Event) → Due K ls t size s e → Held s → Held (after ls e s)
    held _ (open_refused o) h r e = absurd (no_place r e)
    held _ (open_done o) h r e = absurd (no_run (between 0) 0 r refl e)
    held _ (post_not_at_rest n) h r e = h r e
    held _ (post_nowhere p q) h r e = h r e
    held _ (post_unlawful p q l) h r e = h r e
    held _ (post_done {m} p q l) h r e = absurd (no_run s.place m r p e)
    held _ (reading_not_at_rest n) h r e = h r e
    held _ (reading_nowhere p q) h r e = h r e
    held _ (reading_done p q w) h r e = h r e
    held _ (begin_not_at_rest n) h r e = h r e
    held _ (begin_spent p l) h r e = h r e
    held _ (begin_done {k} p l n) h r e = held_in s.words (record { number = k; granted = 0; from = s.words }) refl r e
    held _ (grant_no_run n) h r e = h r e
    held _ (grant_after_end p o) h r e = h r e
    held _ (grant_of_nothing p) h r e = h r e
    held _ (grant_too_much p m) h r e = h r e
    held _ (grant_goes_on {k} {n} {r = o} {σ} p z m e l) h r q = granted_held k n o σ p.0 l r q
    held _ (grant_ends {k} {n} {r = o} {σ} p z m e l) h r q = granted_held k n o σ p.0 l r q
    held _ (close_no_run n) h r e = h r e
    held _ (close_done {k} p d) h r e = absurd (no_run (between k) k r refl e)

  all_held : (first : List ℕ) (h : History) → Conversation K ls t size first h → Held (ledger ls first h)
  all_held first [] c r e = absurd (no_place r e)
  all_held first (e ∷ h) c r p = held (ledger ls first h) e c.1 (all_held first h c.0) r p

pub store_in_run : StoreInRun
store_in_run K ls t size first h talk r e c d =
    all_held K ls t size first h talk r e ∙ ap (λ (x : Closing). x.store) (sym (closes_so K (program_of ls t) size r.from r.granted c d))
