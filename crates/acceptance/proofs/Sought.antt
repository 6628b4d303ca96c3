-- The last declaration of a name in a list that is searched from its end.
use Rattle.std.proofs.Common.{◌≡◌, ℕ, eqb, List, [], ◌∷◌, ◌++◌, map, length, Some, None, sym, refl, ap, ◌∙◌, arith}
use Rattle.std.specs.List.{push}
use Rattle.std.proofs.lemmas.List.{map-append}
use Rattle.std.proofs.lemmas.Bool.{eq-eqb, ne_eqb}
use Rattle.std.specs.Option.{option_or}
use Rattle.lines.specs.declared.records.Declaration.{Declaration}
use Rattle.acceptance.specs.Scopes.{Entry, last_declared, when}
use Rattle.acceptance.proofs.Called.{or_assoc, or_nothing}

pub last_append : (a : ℕ) (xs ys : List Entry) → last_declared (xs ++ ys) a ≡ option_or (last_declared ys a) (last_declared xs a)
last_append a [] ys = sym (or_nothing (last_declared ys a))
last_append a (x ∷ xs) ys = ap (λ o. option_or o (when (eqb x.0 a) x.1)) (last_append a xs ys) ∙ or_assoc (last_declared ys a) (last_declared xs a) (when (eqb x.0 a) x.1)

pub none_left : {X : Type 0} (f : X → Entry) (a : ℕ) (xs : List X) → length xs ≡ 0 → last_declared (map f xs) a ≡ None
none_left f a [] e = refl
none_left f a (x ∷ xs) e = absurd (omega (arith, e))

module _ {X : Type 0} (f : X → Entry) (a : ℕ) (all rest before : List X) (x : X) (is : last_declared (map f rest) a ≡ last_declared (map f all) a) (s : rest ≡ push before x) where
  last_one : last_declared (map f all) a ≡ option_or (when (eqb (f x).0 a) (f x).1) (last_declared (map f before) a)
  last_one = sym is ∙ (ap (λ xs. last_declared (map f xs) a) s ∙ (ap (λ es. last_declared es a) (map-append f before (x ∷ [])) ∙ last_append a (map f before) (map f (x ∷ []))))

  pub found_here : (n : ℕ) → n ≡ (f x).0 → n ≡ a → (d : Declaration) → d ≡ (f x).1 → Some d ≡ last_declared (map f all) a
  found_here n u v d w = ap Some w ∙ sym (last_one ∙ ap (λ b. option_or (when b (f x).1) (last_declared (map f before) a)) (eq-eqb (f x).0 a (sym u ∙ v)))

  pub not_here : (n : ℕ) → n ≡ (f x).0 → ¬ (n ≡ a) → last_declared (map f before) a ≡ last_declared (map f all) a
  not_here n u v = sym (last_one ∙ ap (λ b. option_or (when b (f x).1) (last_declared (map f before) a)) (ne_eqb (f x).0 a (λ w. v (u ∙ w))))
