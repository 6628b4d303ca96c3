-- Where no call or no reply is left, no line is.
use Rattle.std.proofs.Common.{◌≡◌, refl, ap, ℕ, zero, suc, List, [], ◌∷◌, ◌++◌, append-nil, length, drop, min, arith}
use Rattle.std.proofs.Math.Seq.{drop-nil}
use Rattle.calls.specs.declared.asked.Call.{Call}
use Rattle.calls.specs.History.{Reply}
use Rattle.call_vectors.specs.Spelling.{lines_text}

no_replies : (cs : List Call) → lines_text cs [] ≡ []
no_replies [] = refl
no_replies (c ∷ cs) = refl

none_left : (cs : List Call) (rs : List Reply) (n : ℕ) → n ≡ min (length cs) (length rs) → lines_text (drop n cs) (drop n rs) ≡ []
none_left [] rs n e = ap (λ xs. lines_text xs (drop n rs)) (drop-nil n)
none_left (c ∷ cs) [] n e = grind (arith, ap (lines_text (drop n (c ∷ cs))) (drop-nil n), no_replies (drop n (c ∷ cs)))
none_left (c ∷ cs) (r ∷ rs) zero e = absurd (omega (arith, e))
none_left (c ∷ cs) (r ∷ rs) (suc m) e = none_left cs rs m (omega (arith, e))

pub all_told : (cs : List Call) (rs : List Reply) (n : ℕ) (text : List ℕ) → n ≡ min (length cs) (length rs) → text ++ lines_text (drop n cs) (drop n rs) ≡ lines_text cs rs → text ≡ lines_text cs rs
all_told cs rs n text e told = grind (arith, told, append-nil text, none_left cs rs n e)
