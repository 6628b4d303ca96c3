-- A test of what may be there.
use Rattle.std.proofs.Common.{◌≡◌, Bool, false, Some, None, Option, MatchOption}

abbrev pub tested : {A : Type 0} → (A → Bool) → Option A → Bool
tested t None = false
tested t (Some x) = t x

-- what `is_some_and` gives
pub some_and : {A : Type 0} (o : Option A) {P : A → Type 0} (t : A → Bool) (r : Bool) → MatchOption o (r ≡ false) P → ((x : A) → P x → r ≡ t x) → r ≡ tested t o
some_and None t r h k = h
some_and (Some x) t r h k = k x h
