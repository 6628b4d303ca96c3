-- A card that is cut after 65,537 bytes is read as the whole card is.
use Rattle.std.proofs.Common.{◌≡◌, ℕ, ◌+◌, ◌<◌, ◌≤◌, ◌&&◌, Bool, true, false, cond, List, length, nat_le, take, drop, replicate, Some, None, Option, Ok, Err, Result, sym, refl, ap, ◌∙◌, subst, inl, inr, arith}
use Rattle.std.proofs.lemmas.Bool.{cases_lt, lt-leb}
use Rattle.std.proofs.lemmas.List.{length-take, length-take-le, take-take, take_all}
use Rattle.std.specs.Option.{IfSome}
use Rattle.std.specs.Result.{OnOk}
use Rattle.std.specs.Io.KnownBytes.{Appends}
use Rattle.std.proofs.KnownBytes.{Appends-nil, Appends-trans}
use lib.Seq.{take-add}
use Rattle.sheet.specs.Reading.{from_line, outcome, refused}
use Rattle.lines.specs.declared.refusals.Cause.TheVariants.{TextSize}
use Rattle.text.specs.Lines.{rows}
use Rattle.field.specs.Card.{CardTold, FrontTold}
use Rattle.field.specs.Report.{Comes, Writes}
use Rattle.field.proofs.OneReport.{one_report}

and_false : (a b : Bool) → b ≡ false → (a && b) ≡ false
and_false true b e = e
and_false false b e = refl

too_long : (room : ℕ) (t : List ℕ) → 65536 < length t → outcome room t ≡ refused TextSize 0
too_long room t h =
    ap (λ b. cond b (from_line room 1 (rows t)) (refused TextSize 0)) (and_false (nat_le 1 (length t)) (nat_le (length t) 65536) (lt-leb (length t) 65536 h))

same_reading : (room : ℕ) (t : List ℕ) → outcome room (take 65537 t) ≡ outcome room t
same_reading room t = elim (cases_lt 65537 (length t)) [
  | inl w ↦
      let e : length (take 65537 t) ≡ 65537 = length-take-le 65537 t (omega (arith, w)) in
      too_long room (take 65537 t) (omega (arith, e)) ∙ sym (too_long room t (omega (arith, w)))
  | inr w ↦ ap (outcome room) (take_all 65537 t (omega (arith, w)))
]

pub whole_card : (room : ℕ) (t words written σ : List ℕ) → Writes room (take 65537 t) words written σ → Writes room t words written σ
whole_card room t words written σ w = subst (λ o. Comes o words written σ) (same_reading room t) w

-- ## From the reader to the writer

module _ (room : ℕ) (text items words report σ bytes : List ℕ) (known before after : Option (List ℕ)) (r : room ≡ 2048) (z : words ≡ replicate 1024 0)
    (t : text ≡ items) (b : bytes ≡ report) (w : Writes room text words report σ) where
  told_known : (k : Option (List ℕ)) → IfSome k (λ all. items ≡ take 65537 all) → Appends before after bytes → IfSome k (λ card. CardTold card before after)
  told_known None h a = h
  told_known (Some all) h a =
      let v : Writes 2048 (take 65537 all) (replicate 1024 0) report σ =
      subst (λ m. Writes m (take 65537 all) (replicate 1024 0) report σ) r
      (subst (λ ws. Writes room (take 65537 all) ws report σ) z (subst (λ x. Writes room x words report σ) (t ∙ h) w)) in
      (report, σ, whole_card 2048 all (replicate 1024 0) report σ v, subst (Appends before after) b a)

  pub told : {E : Type 0} (x : Result (Unit {0}) E) → IfSome known (λ all. items ≡ take 65537 all) → OnOk x (Appends before after bytes)
      → OnOk x (IfSome known (λ card. CardTold card before after))
  told (Ok u) h a = told_known known h a
  told (Err e) h a = a

  front_known : (n : ℕ) (k : Option (List ℕ)) → IfSome k (λ all. items ≡ take 65537 all) → Appends before after (take n bytes) → IfSome k (λ card. FrontTold card before after)
  front_known n None h a = h
  front_known n (Some all) h a =
      let v : Writes 2048 (take 65537 all) (replicate 1024 0) report σ =
      subst (λ m. Writes m (take 65537 all) (replicate 1024 0) report σ) r
      (subst (λ ws. Writes room (take 65537 all) ws report σ) z (subst (λ x. Writes room x words report σ) (t ∙ h) w)) in
      (report, σ, n, whole_card 2048 all (replicate 1024 0) report σ v, subst (λ bs. Appends before after (take n bs)) b a)

  pub front_told : (n : ℕ) → IfSome known (λ all. items ≡ take 65537 all) → Appends before after (take n bytes) → IfSome known (λ card. FrontTold card before after)
  front_told n h a = front_known n known h a

-- before anything is written
pub none_told : (known before : Option (List ℕ)) → IfSome known (λ card. FrontTold card before before)
none_told None before = tt
none_told (Some card) before =
    let r = one_report 2048 card (replicate 1024 0) in
    (r.0, r.1, 0, r.2, Appends-nil before)

-- ## A report that is written piece by piece

pub written_more : (a b c : Option (List ℕ)) (from n m : ℕ) (report : List ℕ) → n ≤ length (take m (drop from report)) → Appends a b (take from report)
    → Appends b c (take n (take m (drop from report))) → Appends a c (take (from + n) report)
written_more a b c from n m report h p q =
    let rest = drop from report in
    let l = length-take m rest in
    let e : take n (take m rest) ≡ take n rest = take-take n m rest (omega (arith, h, l)) in
    subst (Appends a c) (sym (take-add from n report)) (Appends-trans a b c (take from report) (take n rest) p (subst (Appends b c) e q))
