-- The reader's answer is the right one, and there is no other.
use Rattle.std.proofs.Common.{◌≡◌, ℕ, zero, suc, ◌+◌, ◌<◌, Bool, true, false, cond, List, [], ◌∷◌, length, Some, None, Ok, Err, Option, Result, sym, refl, ap, ◌∙◌, subst, inl, inr, ⊎_elim, arith}
use Rattle.std.specs.List.{slice_get}
use Rattle.std.proofs.lemmas.Bool.{cases_lt}
use Rattle.text.specs.Lines.{Row, rows}
use Rattle.lines.specs.declared.records.Line.{Line}
use Rattle.lines.specs.declared.refusals.Cause.{Cause}
use Rattle.lines.specs.declared.refusals.Cause.TheVariants.{TextSize}
use Rattle.text.specs.declared.refusals.Refusal.{Refusal}
use Rattle.sheet.specs.Reading.{reading, Outcome, refused, then_outcome, from_line, sized, outcome, answer}
use Rattle.sheet.specs.Verdict.{AllRead, FirstRefused, Verdict}
use Rattle.sheet.proofs.Fills.{lines_step, lines_none}

-- what is right of the lines from line n on
abbrev Right : ℕ → ℕ → List Row → Result ℕ (Refusal Cause) → Type 0
Right room n rs (Ok count) = (count ≡ length rs) × AllRead room n rs count
Right room n rs (Err r) = FirstRefused room n rs r

-- one line more in front
all_more : (room n : ℕ) (row : Row) (rs : List Row) (k : ℕ) (l : Line) → reading room n row ≡ Ok l → AllRead room (n + 1) rs k → AllRead room n (row ∷ rs) (suc k)
all_more room n row rs k l e h zero x p q =
    let z : n + 0 ≡ n = omega arith in
    let s : row ≡ x = cc in
    (l, rw z (ap (reading room n) (sym s) ∙ e))
all_more room n row rs k l e h (suc j) x p q =
    let z : n + suc j ≡ n + 1 + j = omega arith in
    let f = h j x (omega arith) q in
    (f.0, rw z f.1)

right_more : (room n : ℕ) (row : Row) (rs : List Row) (l : Line) (o : Outcome) → reading room n row ≡ Ok l → Right room (n + 1) rs (answer o) → Right room n (row ∷ rs) (answer (then_outcome n (Ok l) o))
right_more room n row rs l o e h = by o.refusal h where
  by : (r : Option (Refusal Cause)) → Right room (n + 1) rs (answer (record { lines = o.lines; refusal = r })) → Right room n (row ∷ rs) (answer (record { lines = l ∷ o.lines; refusal = r }))
  by None h = (ap suc h.0, all_more room n row rs (length o.lines) l e h.1)
  by (Some r) h =
      let z : n + suc h.0 ≡ n + 1 + h.0 = omega arith in
      (suc h.0, h.1, h.2 ∙ sym z, h.3, rw z h.4, all_more room n row rs h.0 l e h.5)

right_at : (room n : ℕ) (row : Row) (rs : List Row) (x : Result Line Cause) (o : Outcome) → reading room n row ≡ x → Right room (n + 1) rs (answer o) → Right room n (row ∷ rs) (answer (then_outcome n x o))
right_at room n row rs (Ok l) o e h = right_more room n row rs l o e h
right_at room n row rs (Err c) o e h =
    let z : n + 0 ≡ n = omega arith in
    (0, row, sym z, refl, rw z e, λ j x p q. absurd (omega arith))

right : (room n : ℕ) (rs : List Row) → Right room n rs (answer (from_line room n rs))
right room n [] = subst (λ o. Right room n [] (answer o)) (sym (lines_none room n)) (refl, λ j x p q. absurd (omega arith))
right room n (row ∷ rs) = subst (λ o. Right room n (row ∷ rs) (answer o)) (sym (lines_step room n row rs)) (right_at room n row rs (reading room n row) (from_line room (n + 1) rs) refl (right room (n + 1) rs))

verdict_by : (room : ℕ) (text : List ℕ) (b : Bool) → sized text ≡ b → (r : Result ℕ (Refusal Cause)) → Right room 1 (rows text) r → Verdict room text (cond b r (Err (record { cause = TextSize; line = 0 })))
verdict_by room text false e r h = inl (e, refl)
verdict_by room text true e (Ok n) h = (e, h.0, h.1)
verdict_by room text true e (Err r) h = inr (e, h)

answer_by : (b : Bool) (o : Outcome) → answer (cond b o (refused TextSize 0)) ≡ cond b (answer o) (Err (record { cause = TextSize; line = 0 }))
answer_by true o = refl
answer_by false o = refl

pub verdict : (room : ℕ) (text : List ℕ) → Verdict room text (answer (outcome room text))
verdict room text =
    subst (Verdict room text) (sym (answer_by (sized text) (from_line room 1 (rows text)))) (verdict_by room text (sized text) refl _ (right room 1 (rows text)))

true_false : true ≡ false → ⊥
true_false e = let z : ◌≡◌ {A = ℕ} 0 1 = cc in omega arith

not_both : (x : Result Line Cause) (c : Cause) (l : Line) → x ≡ Err c → x ≡ Ok l → ⊥
not_both x c l p q = let z : ◌≡◌ {A = ℕ} 0 1 = cc in omega arith

refused_once : (room n : ℕ) (rs : List Row) (r s : Refusal Cause) → FirstRefused room n rs r → FirstRefused room n rs s → r ≡ s
refused_once room n rs r s p q =
    ⊎_elim (λ l. absurd (not_both _ _ _ p.4 (q.5 p.0 p.1 l p.3).1))
    (λ l. ⊎_elim (λ m. absurd (not_both _ _ _ q.4 (p.5 q.0 q.1 m q.3).1))
    (λ m.
    let k : p.0 ≡ q.0 = omega arith in
    let lines : r.line ≡ s.line = omega arith in
    let a = p.3 in let b = q.3 in let d = p.4 in let e = q.4 in
    let row : p.1 ≡ q.1 = cc in
    let causes : r.cause ≡ s.cause = cc in
    λ i. record { cause = causes i; line = lines i }) (cases_lt q.0 p.0))
    (cases_lt p.0 q.0)

nth_within : {X : Type 0} (xs : List X) (k : ℕ) (x : X) → slice_get xs k ≡ Some x → k < length xs
nth_within [] k x e = let z : ◌≡◌ {A = ℕ} 0 1 = cc in absurd (omega arith)
nth_within (y ∷ xs) zero x e = omega arith
nth_within (y ∷ xs) (suc k) x e = let t = nth_within xs k x e in omega arith

-- no text has two verdicts
pub one_verdict : (room : ℕ) (text : List ℕ) (r s : Result ℕ (Refusal Cause)) → Verdict room text r → Verdict room text s → r ≡ s
one_verdict room text (Ok m) (Ok n) p q = ap Ok (p.1 ∙ sym q.1)
one_verdict room text (Ok m) (Err s) p (inl q) = let a = p.0 in let b = q.0 in let z : true ≡ false = cc in absurd (true_false z)
one_verdict room text (Ok m) (Err s) p (inr q) = let f = q.1 in absurd (not_both _ _ _ f.4 (p.2 f.0 f.1 (subst (λ k. f.0 < k) (sym p.1) (nth_within _ _ _ f.3)) f.3).1)
one_verdict room text (Err r) (Ok n) (inl p) q = let a = p.0 in let b = q.0 in let z : true ≡ false = cc in absurd (true_false z)
one_verdict room text (Err r) (Ok n) (inr p) q = let f = p.1 in absurd (not_both _ _ _ f.4 (q.2 f.0 f.1 (subst (λ k. f.0 < k) (sym q.1) (nth_within _ _ _ f.3)) f.3).1)
one_verdict room text (Err r) (Err s) (inl p) (inl q) = ap Err (p.1 ∙ sym q.1)
one_verdict room text (Err r) (Err s) (inl p) (inr q) = let a = p.0 in let b = q.0 in let z : true ≡ false = cc in absurd (true_false z)
one_verdict room text (Err r) (Err s) (inr p) (inl q) = let a = p.0 in let b = q.0 in let z : true ≡ false = cc in absurd (true_false z)
one_verdict room text (Err r) (Err s) (inr p) (inr q) = ap Err (refused_once room 1 (rows text) r s p.1 q.1)
