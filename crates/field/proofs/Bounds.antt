-- Which numbers of lines are told: none is past 2,049.
use Rattle.std.proofs.Common.{◌≡◌, ℕ, suc, ◌+◌, ◌<◌, ◌≤◌, ◌&&◌, Bool, true, false, cond, List, [], ◌∷◌, length, nat_le, Some, None, Ok, Err, ℤ, Option, Result, refl, ap, inl, inr, arith}
use Rattle.std.proofs.lemmas.Bool.{leb-true}
use Rattle.kinds.specs.Arithmetic.{Arithmetic}
use Rattle.text.specs.Lines.{Row, rows}
use Rattle.text.specs.declared.refusals.Refusal.{Refusal}
use Rattle.lines.specs.declared.records.Line.{Line}
use Rattle.lines.specs.declared.refusals.Cause.{Cause}
use Rattle.lines.specs.declared.refusals.Cause.TheVariants.{Room, TextSize}
use Rattle.sheet.specs.Reading.{Outcome, from_line, or_count, outcome, reading, refused, row_reading, sized, then_outcome}
use Rattle.script.specs.Apart.{head_then, heads, as_global}
use Rattle.script.specs.Causes.{Reason, FirstOf, Fault, order}
use Rattle.acceptance.specs.Scripts.{RightAnswer, RightRefusal}
use Rattle.acceptance.specs.declared.scripts.ScriptCause.{ScriptCause}
use Rattle.acceptance.specs.declared.scripts.ScriptCause.TheVariants.{OfLine, OfSheet}
use Rattle.calls.specs.Openings.{Opens, too_small, unlawful, opens}
use Rattle.calls.specs.declared.causes.SessionCause.{SessionCause}
use Rattle.calls.proofs.Opening.{global_line}

-- ## Lines of a text

read_small : (room n : ℕ) (row : Row) (l : Line) → reading room n row ≡ Ok l → n ≤ 2048
read_small room n row l e = go (nat_le n 2048) refl e
  where
    go : (b : Bool) → nat_le n 2048 ≡ b → ◌≡◌ {A = Result Line Cause} (cond (b && nat_le n room) (row_reading n row) (Err Room)) (Ok l) → n ≤ 2048
    go true h k = leb-true n 2048 h
    go false h k = let z : ◌≡◌ {A = ℕ} 0 1 = cc in absurd (omega (arith, z))

none_some : (r : Refusal Cause) → ◌≡◌ {A = Option (Refusal Cause)} None (Some r) → ⊥
none_some r e = let z : ◌≡◌ {A = ℕ} 0 1 = cc in omega (arith, z)

-- of lines from line n on, none is past line 2,048, and none past the next is refused
abbrev Fine : ℕ → Outcome → Type 0
Fine n o = (length o.lines + n ≤ 2049) × ((r : Refusal Cause) → o.refusal ≡ Some r → r.line ≤ 2049)

fine_then : (n : ℕ) (x : Result Line Cause) (o : Outcome) → n ≤ 2049 → ((l : Line) → x ≡ Ok l → Fine (suc n) o) → Fine n (then_outcome n x o)
fine_then n (Err c) o h f =
    (omega (arith, h), λ r e. let z : record { cause = c; line = n } ≡ r = cc in let y : n ≡ r.line = ap (λ (q : Refusal Cause). q.line) z in omega (arith, h, y))
fine_then n (Ok l) o h f = let g = f l refl in let k = g.0 in (omega (arith, k), g.1)

fine_from : (room n : ℕ) (rs : List Row) → n ≤ 2049 → Fine n (from_line room n rs)
unfolding from_line
fine_from room n [] h = (omega (arith, h), λ r e. absurd (none_some r e))
fine_from room n (row ∷ rs) h =
    fine_then n (reading room n row) (from_line room (suc n) rs) h (λ l e. fine_from room (suc n) rs (let k = read_small room n row l e in omega (arith, k)))

fine : (room : ℕ) (text : List ℕ) → Fine 1 (outcome room text)
fine room text = go (sized text)
  where
    go : (b : Bool) → Fine 1 (cond b (from_line room 1 (rows text)) (refused TextSize 0))
    go true = fine_from room 1 (rows text) (omega arith)
    go false = (omega arith, λ r e. let z : record { cause = TextSize; line = 0 } ≡ r = cc in let y : 0 ≡ r.line = ap (λ (q : Refusal Cause). q.line) z in omega (arith, y))

first_of : (C : Reason → ℕ → Type 0) (k : ℕ) (rs : List Reason) (c n : ℕ) → FirstOf C k rs c n → n < k
first_of C k [] c n h = absurd h
first_of C k (r ∷ rs) c n (inl h) = h.1.0
first_of C k (r ∷ rs) c n (inr h) = first_of C k rs c n h.1

told_refusal : (n : ℕ) (o : Option (Refusal Cause)) (r : Refusal Cause) → or_count n o ≡ Err r → o ≡ Some r
told_refusal n None r e = let z : ◌≡◌ {A = ℕ} 0 1 = cc in absurd (omega (arith, z))
told_refusal n (Some q) r e = let z : q ≡ r = cc in ap Some z

right_line : (low high : ℤ) (room : ℕ) (text : List ℕ) (c : ScriptCause) (n : ℕ) → RightRefusal low high (outcome room text) c n → n ≤ 2049
right_line low high room text (OfLine c) n e =
    let o = outcome room text in
    (fine room text).1 (record { cause = c; line = n }) (told_refusal (length o.lines) o.refusal (record { cause = c; line = n }) e)
right_line low high room text (OfSheet c) n h =
    let ls = (outcome room text).lines in
    let few = (fine room text).0 in
    let at = first_of (Fault low high ls) (suc (length ls)) order _ n h.1 in
    omega (arith, few, at)

pub sheet_line : (low high : ℤ) (room : ℕ) (text : List ℕ) (r : Refusal ScriptCause) → RightAnswer low high (outcome room text) (Err r) → r.line ≤ 2049
sheet_line low high room text r h = right_line low high room text r.cause r.line h

-- ## Lines of globals

longer : (o : Option (ℕ × ℕ)) (gs : List (ℕ × ℕ)) → length (head_then o gs) ≤ suc (length gs)
longer None gs = omega arith
longer (Some g) gs = omega arith

no_more : (ls : List Line) → length (heads ls) ≤ length ls
no_more [] = omega arith
no_more (l ∷ ls) = let h = longer (as_global l) (heads ls) in let k = no_more ls in omega (arith, h, k)

abbrev IsLow : Result (Unit {0}) (Refusal SessionCause) → Type 0
IsLow (Ok u) = Unit {0}
IsLow (Err r) = r.line ≤ 2049

low_line : (K : Arithmetic) (ls : List Line) (words : List ℕ) (x : Result (Unit {0}) (Refusal SessionCause)) → length ls ≤ 2048 → Opens K ls words x → IsLow x
low_line K ls words x few (too_small q) = omega arith
low_line K ls words x few (unlawful {n} q f) = let g = global_line K ls words n f.0 in let k = no_more ls in omega (arith, few, g, k)
low_line K ls words x few (opens q f) = tt

pub opening_line : (K : Arithmetic) (ls : List Line) (words : List ℕ) (r : Refusal SessionCause) → length ls ≤ 2048 → Opens K ls words (Err r) → r.line ≤ 2049
opening_line K ls words r few o = low_line K ls words (Err r) few o
