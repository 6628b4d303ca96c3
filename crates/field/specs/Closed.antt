-- Replies that tell how a run ended. Nothing here needs to be believed.
use Rattle.std.specs.Prelude.{◌≡◌, ℕ, Ok}
use Rattle.faults.specs.declared.ending.Ending.{Ending}
use Rattle.calls.specs.declared.asked.Answer.TheVariants.{Closed}
use Rattle.calls.specs.History.{Reply}

abbrev pub IsClosed : Reply → Type 0
IsClosed r = (e : Ending) × (n : ℕ) × (r ≡ Ok (Closed e n))
