-- What the reader leaves, and that no text has two right answers.
use Rattle.std.proofs.Common.{◌≡◌, ℕ, ◌≤◌, cond, eqb, List, [], ◌∷◌, ◌++◌, map, length, take, drop, ℤ, Some, None, Ok, Err, Option, Result, refl, sym, ap, ap₂, ◌∙◌, subst, inl, inr, arith}
use lib.ListN.{length-map}
use Rattle.std.proofs.Math.Seq.{drop-append_seam, take-append_seam}
use Rattle.lines.specs.declared.records.Line.{Line}
use Rattle.lines.specs.declared.records.Record.{Record}
use Rattle.lines.specs.declared.refusals.Cause.{Cause}
use Rattle.text.specs.declared.refusals.Refusal.{Refusal}
use Rattle.sheet.specs.Reading.{Outcome, answer, filled, or_count, unresolved}
use Rattle.script.specs.IsScript.{IsScript}
use Rattle.script.specs.Causes.{Refused, number_of}
use Rattle.script.proofs.Verdict.{one_verdict}
use Rattle.standing.specs.Records.{Resolved}
use Rattle.acceptance.specs.declared.verdict.SheetCause.{SheetCause}
use Rattle.acceptance.specs.declared.verdict.SheetCause.TheVariants.{OutOfForm, NameAgain, Undeclared, TooDeep, OutOfKind}
use Rattle.acceptance.specs.declared.scripts.ScriptCause.{ScriptCause}
use Rattle.acceptance.specs.declared.scripts.ScriptCause.TheVariants.{OfLine, OfSheet}
use Rattle.acceptance.specs.Sheet.{lines_of}
use Rattle.acceptance.specs.Verdict.{reason_of}
use Rattle.acceptance.specs.Scripts.{Accepted, LeftAs, RightAnswer, RightRefusal}

-- ## The records

lines_read : (ls : List Line) → lines_of (map unresolved ls) ≡ ls
lines_read [] = refl
lines_read (l ∷ ls) = ap (λ ks. l ∷ ks) (lines_read ls)

ok_same : {E : Type 0} (m n : ℕ) → ◌≡◌ {A = Result ℕ E} (Ok m) (Ok n) → m ≡ n
ok_same m n e = cc

err_same : {E : Type 0} (d e : E) → ◌≡◌ {A = Result ℕ E} (Err d) (Err e) → d ≡ e
err_same d e h = cc

ok_err : {E : Type 0} (n : ℕ) (e : E) → ◌≡◌ {A = Result ℕ E} (Ok n) (Err e) → ⊥
ok_err n e h = let z : ◌≡◌ {A = ℕ} 0 1 = cc in omega arith

-- where all lines are read, the answer is their number
pub all_read : (o : Outcome) (n : ℕ) → answer o ≡ Ok n → n ≡ length o.lines
all_read o n e = go o.refusal e
  where
    go : (r : Option (Refusal Cause)) → or_count (length o.lines) r ≡ Ok n → n ≡ length o.lines
    go None h = ok_same n (length o.lines) (sym h)
    go (Some r) h = absurd (ok_err n r (sym h))

-- the records of the lines that are read, and the rest, as the reader fills them
module _ (ls : List Line) (old new : List Record) (n : ℕ) (e : n ≡ length ls) (f : new ≡ filled ls old) where
  long : n ≡ length (map unresolved ls)
  long = e ∙ sym (length-map ls unresolved)

  pub front_lines : lines_of (take n new) ≡ ls
  front_lines = ap (λ rs. lines_of (take n rs)) f
      ∙ (ap (λ k. lines_of (take k (filled ls old))) long
      ∙ (ap lines_of (take-append_seam (map unresolved ls) (drop (length ls) old)) ∙ lines_read ls))

  rest_stays : drop n new ≡ drop n old
  rest_stays = ap (drop n) f
      ∙ (ap (λ k. drop k (filled ls old)) long
      ∙ (drop-append_seam (map unresolved ls) (drop (length ls) old) ∙ ap (λ k. drop k old) (sym e)))

module _ (low high : ℤ) where
  -- the records of a script whose names are looked up
  pub accepted : (ls : List Line) (rs : List Record) → length rs ≤ 2048 → IsScript low high ls → Resolved ls rs → Accepted low high rs
  accepted ls rs few s r =
      let t : IsScript low high (lines_of rs) = subst (IsScript low high) (sym r.lines) s in
      let u : Resolved (lines_of rs) rs = subst (λ ks. Resolved ks rs) (sym r.lines) r in
      record { few = few; script = t; resolved = u }

  -- what is left where the lines that were read are a script: `part` is what acceptance leaves of their records
  pub left : (o : Outcome) (old read part : List Record) (n : ℕ) → n ≡ length o.lines → n ≤ 2048 → read ≡ filled o.lines old
      → IsScript low high (lines_of (take n read)) → Resolved (lines_of (take n read)) part
      → LeftAs low high o old (Ok n) (part ++ drop n read)
  left o old read part n e few f s r =
      let lines : lines_of part ≡ o.lines = r.lines ∙ front_lines o.lines old read n e f in
      let k : length part ≡ n = sym (length-map part (λ r. r.line)) ∙ (ap length lines ∙ sym e) in
      let h : take n (part ++ drop n read) ≡ part = ap (λ i. take i (part ++ drop n read)) (sym k) ∙ take-append_seam part (drop n read) in
      let d : drop n (part ++ drop n read) ≡ drop n read = ap (λ i. drop i (part ++ drop n read)) (sym k) ∙ drop-append_seam part (drop n read) in (
        ap lines_of h ∙ lines,
        subst (Accepted low high) (sym h) (accepted (lines_of (take n read)) part (subst (λ i. i ≤ 2048) (sym k) few) s r),
        d ∙ rest_stays o.lines old read n e f,
      )

-- ## One answer

-- the cause that a number stands for
abbrev cause_of : ℕ → SheetCause
cause_of n = cond (eqb n 6) OutOfForm (cond (eqb n 8) NameAgain (cond (eqb n 7) Undeclared (cond (eqb n 9) TooDeep OutOfKind)))

cause_back : (c : SheetCause) → cause_of (number_of (reason_of c)) ≡ c
cause_back OutOfForm = refl
cause_back NameAgain = refl
cause_back Undeclared = refl
cause_back TooDeep = refl
cause_back OutOfKind = refl

module _ (low high : ℤ) (o : Outcome) where
  one_fault : (c d : SheetCause) (m n : ℕ) → Refused low high o.lines (number_of (reason_of c)) m → Refused low high o.lines (number_of (reason_of d)) n → (d ≡ c) × (n ≡ m)
  one_fault c d m n f g = elim (one_verdict low high o.lines) [
    | inl v ↦ absurd (v.1 (number_of (reason_of c)) m f)
    | inr v ↦
        let p : (number_of (reason_of c) ≡ v.0) × (m ≡ v.1) = v.3 (number_of (reason_of c)) m f in
        let q : (number_of (reason_of d) ≡ v.0) × (n ≡ v.1) = v.3 (number_of (reason_of d)) n g in
        (sym (cause_back d) ∙ (ap cause_of (q.0 ∙ sym p.0) ∙ cause_back c), q.1 ∙ sym p.1)
  ]

  one_refusal : (c d : ScriptCause) (m n : ℕ) → RightRefusal low high o c m → RightRefusal low high o d n
      → ◌≡◌ {A = Refusal ScriptCause} (record { cause = d; line = n }) (record { cause = c; line = m })
  one_refusal (OfLine c) (OfLine d) m n f g =
      ap (λ r. record { cause = OfLine r.cause; line = r.line }) (err_same (record { cause = d; line = n }) (record { cause = c; line = m }) (sym g ∙ f))
  one_refusal (OfLine c) (OfSheet d) m n f g = absurd (ok_err (length o.lines) (record { cause = c; line = m }) (sym g.0 ∙ f))
  one_refusal (OfSheet c) (OfLine d) m n f g = absurd (ok_err (length o.lines) (record { cause = d; line = n }) (sym f.0 ∙ g))
  one_refusal (OfSheet c) (OfSheet d) m n f g =
      let e : (d ≡ c) × (n ≡ m) = one_fault c d m n f.1 g.1 in
      ap₂ (λ a k. record { cause = OfSheet a; line = k }) e.0 e.1

  not_both : (n : ℕ) (c : ScriptCause) (m : ℕ) → RightAnswer low high o (Ok n) → RightRefusal low high o c m → ⊥
  not_both n (OfLine c) m f g = ok_err n (record { cause = c; line = m }) (sym f.0 ∙ g)
  not_both n (OfSheet c) m f g = g.2 f.1

  pub one_answer : (r s : Result ℕ (Refusal ScriptCause)) → RightAnswer low high o r → RightAnswer low high o s → s ≡ r
  one_answer (Ok m) (Ok n) f g = ap Ok (ok_same n m (sym g.0 ∙ f.0))
  one_answer (Ok m) (Err d) f g = absurd (not_both m d.cause d.line f g)
  one_answer (Err c) (Ok n) f g = absurd (not_both n c.cause c.line g f)
  one_answer (Err c) (Err d) f g = ap Err (one_refusal c.cause d.cause c.line d.line f g)
