-- Every text and store has exactly one report.
use Rattle.std.proofs.Common.{◌≡◌, ℕ, List, [], ◌∷◌, length, Ok, Err, ℤ, Result, sym, refl, ap, ◌∙◌, subst, inl, inr, arith}
use Rattle.kinds.specs.Whole.{whole}
use Rattle.text.specs.declared.refusals.Refusal.{Refusal}
use Rattle.lines.specs.declared.records.Line.{Line}
use Rattle.lines.specs.declared.refusals.Cause.{Cause}
use Rattle.script.specs.Script.{Statement}
use Rattle.script.specs.Tree.{statement}
use Rattle.script.specs.IsScript.{IsScript}
use Rattle.script.specs.Causes.{Refused, Reason, FirstOf, Fault, order, number_of as reason_number}
use Rattle.script.specs.Causes.{out_of_form, name_again, undeclared, too_deep, out_of_kind}
use Rattle.script.proofs.Verdict.{one_verdict}
use Rattle.sheet.specs.Reading.{Outcome, answer, outcome}
use Rattle.acceptance.specs.Scripts.{RightAnswer, script_number_of}
use Rattle.acceptance.specs.Verdict.{reason_of}
use Rattle.acceptance.specs.declared.verdict.SheetCause.{SheetCause}
use Rattle.acceptance.specs.declared.verdict.SheetCause.TheVariants as Sheet
use Rattle.acceptance.specs.declared.scripts.ScriptCause.{ScriptCause}
use Rattle.acceptance.specs.declared.scripts.ScriptCause.TheVariants.{OfLine, OfSheet}
use Rattle.acceptance.proofs.Reading.{all_read, one_answer}
use Rattle.rule.specs.Closing.{Closing, Closes, program_of}
use Rattle.rule.proofs.Count.{closing, closes, closes_so}
use Rattle.calls.specs.Causes.{number_of}
use Rattle.calls.specs.Openings.{Opens}
use Rattle.calls.specs.declared.causes.SessionCause.{SessionCause}
use Rattle.calls.proofs.Opening.{one_opening, opening, opens_so}
use Rattle.report.specs.Rows.{refusal_row, run_rows}
use Rattle.field.specs.Report.{OneReport, Reads, Writes, allowance, no_script, not_opened, ran}

-- ## A text has an answer

told_by : (C : Reason → ℕ → Type 0) (k : ℕ) (rs : List Reason) (c n : ℕ) → FirstOf C k rs c n → (r : Reason) × (c ≡ reason_number r)
told_by C k [] c n h = absurd h
told_by C k (r ∷ rs) c n (inl h) = (r, h.0)
told_by C k (r ∷ rs) c n (inr h) = told_by C k rs c n h.1

cause_for : (r : Reason) → (c : SheetCause) × (reason_number r ≡ reason_number (reason_of c))
cause_for out_of_form = (Sheet.OutOfForm, refl)
cause_for name_again = (Sheet.NameAgain, refl)
cause_for undeclared = (Sheet.Undeclared, refl)
cause_for too_deep = (Sheet.TooDeep, refl)
cause_for out_of_kind = (Sheet.OutOfKind, refl)

abbrev Answer : ℤ → ℤ → Outcome → Type 0
Answer low high o = (r : Result ℕ (Refusal ScriptCause)) × RightAnswer low high o r

has_answer : (low high : ℤ) (o : Outcome) → Answer low high o
has_answer low high o = go (answer o) refl
  where
    go : (x : Result ℕ (Refusal Cause)) → answer o ≡ x → Answer low high o
    go (Err f) e = (Err (record { cause = OfLine f.cause; line = f.line }), e)
    go (Ok n) e = elim (one_verdict low high o.lines) [
      | inl v ↦ (Ok n, (e, v.0))
      | inr v ↦
          let r = told_by (Fault low high o.lines) _ order v.0 v.1 v.2 in
          let c = cause_for r.0 in (
            Err (record { cause = OfSheet c.0; line = v.1 }),
            (e ∙ ap Ok (all_read o n e), subst (λ i. Refused low high o.lines i v.1) (r.1 ∙ c.1) v.2, v.4),
          )
    ]

-- ## And so there is a report

module _ (room : ℕ) (text words : List ℕ) where
  abbrev ls : List Line
  ls = (outcome room text).lines

  abbrev Some : Type 0
  Some = (written σ : List ℕ) × Writes room text words written σ

  closed_so : (n m : ℕ) (s : Reads room text (Ok n)) → (c : Closing) × Closes whole (program_of ls s.1.text) (length words) words m c
  closed_so n m s = (closing whole (program_of ls s.1.text) (length words) words m, closes whole (program_of ls s.1.text) (length words) words m)

  some_opened : (n : ℕ) → Reads room text (Ok n) → (r : Result (Unit {0}) (Refusal SessionCause)) → Opens whole ls words r → Some
  some_opened n s (Err r) o = (refusal_row (number_of r.cause) r.line, words, not_opened n r s o refl refl)
  some_opened n s (Ok u) o =
      let c = closed_so n allowance s in
      (run_rows ls c.0.ending c.0.count c.0.store, c.0.store, ran n c.0 s o c.1 refl refl)

  some_read : (r : Result ℕ (Refusal ScriptCause)) → Reads room text r → Some
  some_read (Err r) h = (refusal_row (script_number_of r.cause) r.line, words, no_script r h refl refl)
  some_read (Ok n) s = some_opened n s (opening whole ls words) (opens_so whole ls words)

  some : Some
  some = let a = has_answer whole.least whole.most (outcome room text) in some_read a.0 a.1

  -- ## Only one

  abbrev Same : List ℕ → List ℕ → List ℕ → List ℕ → Type 0
  Same written σ other τ = (other ≡ written) × (τ ≡ σ)

  same_read : (r s : Result ℕ (Refusal ScriptCause)) → Reads room text r → Reads room text s → s ≡ r
  same_read = one_answer whole.least whole.most (outcome room text)

  pub same_text : (s t : IsScript whole.least whole.most ls) → t.text ≡ s.text
  same_text s t = let e : statement t.text ≡ statement s.text = sym t.is ∙ s.is in cc

  same_closing : (m : ℕ) (s t : IsScript whole.least whole.most ls) (c d : Closing) → Closes whole (program_of ls s.text) (length words) words m c
      → Closes whole (program_of ls t.text) (length words) words m d → d ≡ c
  same_closing m s t c d p q =
      let k : Closes whole (program_of ls s.text) (length words) words m d =
      subst (λ (x : Statement). Closes whole (program_of ls x) (length words) words m d) (same_text s t) q in
      closes_so whole (program_of ls s.text) (length words) words m d k ∙ sym (closes_so whole (program_of ls s.text) (length words) words m c p)

  clash : {A T E : Type 0} (x : T) (y : E) → ◌≡◌ {A = Result T E} (Ok x) (Err y) → A
  clash x y e = let z : ◌≡◌ {A = ℕ} 0 1 = cc in absurd (omega (arith, z))

  same_refusal : {C : Type 0} {T : Type 0} (f : C → ℕ) (r s : Refusal C) → ◌≡◌ {A = Result T (Refusal C)} (Err s) (Err r)
      → refusal_row (f s.cause) s.line ≡ refusal_row (f r.cause) r.line
  same_refusal f r s e = let k : s ≡ r = cc in ap (λ (x : Refusal _). refusal_row (f x.cause) x.line) k

  only : (written σ other τ : List ℕ) → Writes room text words written σ → Writes room text words other τ → Same written σ other τ
  only written σ other τ (no_script r h e w) (no_script s k f v) = (f ∙ same_refusal script_number_of r s (same_read (Err r) (Err s) h k) ∙ sym e, v ∙ sym w)
  only written σ other τ (no_script r h e w) (not_opened n s k o f v) = clash n r (same_read (Err r) (Ok n) h k)
  only written σ other τ (no_script r h e w) (ran n c k o p f v) = clash n r (same_read (Err r) (Ok n) h k)
  only written σ other τ (not_opened n r h o e w) (no_script s k f v) = clash n s (sym (same_read (Ok n) (Err s) h k))
  only written σ other τ (not_opened n r h o e w) (not_opened m s k p f v) =
      (f ∙ same_refusal number_of r s (one_opening whole ls words (Err r) (Err s) o p) ∙ sym e, v ∙ sym w)
  only written σ other τ (not_opened n r h o e w) (ran m c k p q f v) = clash tt r (one_opening whole ls words (Err r) (Ok tt) o p)
  only written σ other τ (ran n c h o p e w) (no_script s k f v) = clash n s (sym (same_read (Ok n) (Err s) h k))
  only written σ other τ (ran n c h o p e w) (not_opened m s k q f v) = clash tt s (sym (one_opening whole ls words (Ok tt) (Err s) o q))
  only written σ other τ (ran n c h o p e w) (ran m d k q u f v) =
      let i : d ≡ c = same_closing allowance h.1 k.1 c d p u in
      (f ∙ ap (λ (x : Closing). run_rows ls x.ending x.count x.store) i ∙ sym e, v ∙ ap (λ (x : Closing). x.store) i ∙ sym w)

pub one_report : OneReport
one_report room text words =
    let r = some room text words in
    (r.0, r.1, r.2, λ other τ w. only room text words r.0 r.1 other τ r.2 w)
