-- The refusal of a sheet, one cause after another.
use Rattle.std.proofs.Common.{◌≡◌, ℕ, zero, suc, ◌<◌, Bool, true, false, ltb, List, length, ℤ, Some, None, Ok, Err, Option, Result, sym, refl, ap, ◌∙◌, ap₂, inl, inr, arith}
use Rattle.std.proofs.lemmas.Bool.{cases_eq}
use Rattle.lines.specs.declared.records.Line.{Line}
use Rattle.script.specs.Tree.{line, part}
use Rattle.script.specs.Apart.{past_globals}
use Rattle.script.specs.Depth.{deepest_allowed, depth}
use Rattle.script.specs.Causes.{Reason, name_again, number_of, out_of_form, out_of_kind, undeclared}
use Rattle.text.specs.declared.refusals.Refusal.{Refusal}
use Rattle.acceptance.specs.declared.verdict.SheetCause.{SheetCause}
use Rattle.acceptance.specs.Verdict.{reason_of, told, Judged}
use Rattle.script.proofs.Verdict.{accepted_exactly}
use Rattle.script.specs.Tests.{finds_fault, lowest, or_here, or_later, over_deep, refusal}
use Rattle.script.proofs.Accept.{faultless_form}
use Rattle.script.proofs.Depth.{depth_here}
use Rattle.script.proofs.Finds.{finds_form}
use Rattle.script.proofs.Form.{InForm}
use Rattle.script.proofs.Globals.{front_of, back_of}
use Rattle.script.proofs.Lowest.{NoneBelow}

-- The stages of the check, the last one first.
module _ (low high : ℤ) (ls : List Line) where
  abbrev pub found : Reason → Option ℕ
  found r = lowest (finds_fault low high ls r) (suc (length ls))

  abbrev pub by_kind : Option (ℕ × ℕ)
  by_kind = or_later 10 (found out_of_kind) None

  abbrev pub by_depth : Option (ℕ × ℕ)
  by_depth = or_later 9 (lowest (λ n. ltb deepest_allowed (depth (part (line ls) n))) (suc (length ls))) by_kind

  abbrev pub by_uses : Option (ℕ × ℕ)
  by_uses = or_later 7 (found undeclared) by_depth

  abbrev pub by_names : Option (ℕ × ℕ)
  by_names = or_later 8 (found name_again) by_uses

  abbrev pub by_form : Option (ℕ × ℕ)
  by_form = or_later 6 (found out_of_form) by_names

lowest_same : (t u : ℕ → Bool) (k : ℕ) → ((n : ℕ) → n < k → t n ≡ u n) → lowest t k ≡ lowest u k
lowest_same t u zero h = refl
lowest_same t u (suc k) h = ap₂ (or_here k) (h k (omega arith)) (lowest_same t u k (λ n q. h n (omega arith)))

true_false : true ≡ false → ⊥
true_false e = let z : ◌≡◌ {A = ℕ} 0 1 = cc in omega arith

some_none : (n : ℕ) → Some n ≡ None → ⊥
some_none n e = let z : ◌≡◌ {A = ℕ} 0 1 = cc in omega arith

refused_none : (p : ℕ × ℕ) → Some p ≡ None → ⊥
refused_none p e = let z : ◌≡◌ {A = ℕ} 0 1 = cc in omega arith

none_parts : (k : ℕ) (b : Bool) (o : Option ℕ) → or_here k b o ≡ None → (o ≡ None) × (b ≡ false)
none_parts k b (Some n) e = absurd (some_none n e)
none_parts k true None e = absurd (some_none k e)
none_parts k false None e = (refl, refl)

none_below : (t : ℕ → Bool) (k : ℕ) → lowest t k ≡ None → NoneBelow t k
none_below t zero h n q = absurd (omega arith)
none_below t (suc k) h n q =
    let p : (lowest t k ≡ None) × (t k ≡ false) = none_parts k (t k) (lowest t k) h in
    elim (cases_eq n k) [ inl w ↦ ap t w ∙ p.1 | inr w ↦ none_below t k p.0 n (omega arith) ]

module _ (low high : ℤ) (ls : List Line) where
  abbrev last : ℕ
  last = length ls

  -- where no line is out of form, the sheet is in form
  in_form : found low high ls out_of_form ≡ None → InForm (line ls) last (past_globals ls)
  in_form e = faultless_form (line ls) last (past_globals ls) (front_of ls) (back_of ls)
      (λ n q c.
      let f : finds_fault low high ls out_of_form n ≡ false = none_below (finds_fault low high ls out_of_form) (suc last) e n (omega arith) in
      let t : finds_fault low high ls out_of_form n ≡ true = (finds_form (line ls) last (past_globals ls) (front_of ls) (back_of ls) n q).1 c in
      true_false (sym t ∙ f))

  deep_is : found low high ls out_of_form ≡ None → lowest (over_deep (line ls)) (suc last) ≡ lowest (λ n. ltb deepest_allowed (depth (part (line ls) n))) (suc last)
  deep_is e = lowest_same (over_deep (line ls)) (λ n. ltb deepest_allowed (depth (part (line ls) n))) (suc last)
      (λ n q. ap (ltb deepest_allowed) (depth_here (line ls) last (past_globals ls) (front_of ls) (in_form e) n (omega arith)))

  abbrev staged : Option ℕ → Option ℕ → Option (ℕ × ℕ)
  staged f i = or_later 6 f (or_later 8 (found low high ls name_again) (or_later 7 (found low high ls undeclared) (or_later 9 i (by_kind low high ls))))

  go : (f : Option ℕ) → found low high ls out_of_form ≡ f
      → staged f (lowest (λ n. ltb deepest_allowed (depth (part (line ls) n))) (suc last)) ≡ staged f (lowest (over_deep (line ls)) (suc last))
  go (Some n) e = refl
  go None e = ap (staged None) (sym (deep_is e))

  -- the stages one after the other are the refusal
  pub staged_refusal : by_form low high ls ≡ refusal low high ls
  staged_refusal = go (found low high ls out_of_form) refl

  judged : {A : Type 0} (r : Result A (Refusal SheetCause)) → told r ≡ refusal low high ls → Judged low high ls r
  judged (Ok a) e = (accepted_exactly low high ls).0.0 (sym e)
  judged (Err f) e = (((accepted_exactly low high ls).1 (number_of (reason_of f.cause)) f.line).0 (sym e), λ s. refused_none _ (e ∙ (accepted_exactly low high ls).0.1 s))

  pub right : {A : Type 0} (r : Result A (Refusal SheetCause)) → told r ≡ by_form low high ls → Judged low high ls r × (told r ≡ refusal low high ls)
  right r e = let t : told r ≡ refusal low high ls = e ∙ staged_refusal in (judged r t, t)

-- a check that lets the sheet pass leaves it to the later ones, and one that refuses it is the last
pub passed : (n : ℕ) (o f : Option ℕ) (later t : Option (ℕ × ℕ)) → o ≡ f → None ≡ or_later n o None → t ≡ later → t ≡ or_later n f later
passed n (Some k) f later t e h i = absurd (refused_none _ (sym h))
passed n None f later t e h i = i ∙ ap (λ g. or_later n g later) e

pub stopped : (n : ℕ) (o f : Option ℕ) (later : Option (ℕ × ℕ)) (p : ℕ × ℕ) → o ≡ f → Some p ≡ or_later n o None → Some p ≡ or_later n f later
stopped n (Some k) f later p e h = h ∙ ap (λ g. or_later n g later) e
stopped n None f later p e h = absurd (refused_none _ h)
