-- A list of which only the first n elements are used.
use Rattle.std.proofs.Common.{◌≡◌, ℕ, ◌<◌, List, length, take, Some, None, Option, Bor, sym, refl, ap, ◌∙◌, arith, length-take}
use Rattle.std.specs.List.{slice_get}
use Rattle.std.specs.Option.{option_copied}
use Rattle.std.specs.Slice.{IsItemAt}
use Rattle.std.proofs.lemmas.List.{take_min}
use Rattle.std.proofs.lemmas.Option.{slice_get_past, slice_get_read}

-- a place among them lies below n and in the list
pub within : (n i : ℕ) (xs : List ℕ) → i < length (take n xs) → (i < n) × (i < length xs)
within n i xs h = let e = length-take n xs in (omega arith, omega arith)

-- taken by their number
pub used : {X : Type 0} (n size : ℕ) (xs : List X) → size ≡ length (take n xs) → take size xs ≡ take n xs
used n size xs e = ap (λ k. take k xs) (e ∙ length-take n xs) ∙ take_min n xs

-- a copy of what `get` lends
pub copied_item : {X : Type 0} (xs : List X) (i : ℕ) (r : Option (Bor X)) → IsItemAt xs i r → option_copied r ≡ slice_get xs i
copied_item xs i None h = sym (slice_get_past xs i h.3)
copied_item xs i (Some x) h = sym (slice_get_read xs (length xs) i x.now refl h.3.0 h.1)
