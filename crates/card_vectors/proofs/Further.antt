-- What is left of a text that was cut stands at its end.
use Rattle.std.proofs.Common.{◌≡◌, ℕ, List, [], ◌∷◌, ◌++◌, ap, sym, ◌∙◌}
use Rattle.std.proofs.lemmas.List.{append_assoc}
use Rattle.text.specs.Cutting.{CutAt}

pub further : (byte : ℕ) (text passed rest front back : List ℕ) → text ≡ passed ++ rest → CutAt byte rest front back → (x : List ℕ) × (text ≡ x ++ back)
further byte text passed rest front back e c =
    (passed ++ (front ++ byte ∷ []), e ∙ ap (λ r. passed ++ r) (c.whole ∙ sym (append_assoc front (byte ∷ []) back)) ∙ sym (append_assoc passed (front ++ byte ∷ []) back))
