-- A room that is filled read by read.
use Rattle.std.proofs.Common.{◌≡◌, ℕ, ◌+◌, ◌-◌, ◌≤◌, List, ◌++◌, Option, arith, length, take, slice_range, sym, ap, ◌∙◌, subst, le_refl, drop_at, length-take-le, Ok, Err, Result}
use Rattle.std.specs.Prelude.{OnErr}
use Rattle.std.proofs.lemmas.Slice.{take-put_mid_below}
use Rattle.std.specs.Io.KnownBytes.{Consumes, Keeps}
use Rattle.std.proofs.KnownBytes.{Consumes-trans, Consumes-kept}
use borrow.Rule.Slice.PartMut.{put_mid, post_of}
use lib.Seq.{take-add, take-append-le}
use Rattle.card_input.specs.Reading.{LosesAtMost}

take_split : (a b : ℕ) (old new : List ℕ) → a ≤ b → take a new ≡ take a old → take a old ++ slice_range new a b ≡ take b new
take_split a b old new h front =
    let same : a + (b - a) ≡ b = omega arith in
    ap (λ l. l ++ slice_range new a b) (sym front) ∙ sym (take-add a (b - a) new) ∙ ap (λ n. take n new) same

slice_range-put_mid : (a k n : ℕ) (xs ys : List ℕ) → a ≤ length xs → n ≤ length ys → slice_range (put_mid a k xs ys) a (a + n) ≡ take n ys
slice_range-put_mid a k n xs ys within fits =
    let same : (a + n) - a ≡ n = omega arith in
    let after = post_of a k xs in
    ap (take ((a + n) - a)) (drop_at (take a xs) (ys ++ after) a (length-take-le a xs within)) ∙ ap (λ m. take m (ys ++ after)) same ∙ take-append-le n ys after fits

-- the bytes that stand at the front of the room, and n more that a read put behind them
pub given_more : (a b c : Option (List ℕ)) (from n : ℕ) (room part : List ℕ) → from ≤ length room → n ≤ length part
    → Consumes a b (take from room) → Consumes b c (take n part) → Consumes a c (take (from + n) (put_mid from (length room - from) room part))
given_more a b c from n room part within fits before more =
    let size = length room - from in
    let filled = put_mid from size room part in
    let joined = take_split from (from + n) room filled (omega arith) (take-put_mid_below _ _ _ _ _ (le_refl _) within) in
    subst (Consumes a c) (ap (λ l. take from room ++ l) (sym (slice_range-put_mid from size n room part within fits)) ∙ joined) (Consumes-trans a b c _ _ before more)

-- the same where the read gave none
pub given_none : (a b c : Option (List ℕ)) (from n : ℕ) (room part : List ℕ) → from ≤ length room → n ≤ length part → n ≡ 0
    → Consumes a b (take from room) → Consumes b c (take n part) → Consumes a c (take from (put_mid from (length room - from) room part))
given_none a b c from n room part within fits none before more =
    let same : from + n ≡ from = omega arith in
    subst (λ (k : ℕ). Consumes a c (take k (put_mid from (length room - from) room part))) same (given_more a b c from n room part within fits before more)

-- an error after the bytes at the front of the room
pub lost : (a b c : Option (List ℕ)) (most from : ℕ) (room : List ℕ) → from ≤ length room → length room ≡ most
    → Consumes a b (take from room) → Keeps b c → LosesAtMost most a c
lost a b c most from room within size before kept = (take from room, omega (arith, length-take-le from room within), Consumes-kept a b c _ before kept)

pub on_err : {V E : Type 0} {P : Type 0} (r : Result V E) → P → OnErr r P
on_err (Ok v) p = tt
on_err (Err e) p = p
