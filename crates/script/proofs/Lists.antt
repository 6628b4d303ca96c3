-- Lists: what holds of each element, and how often a number stands in one.
use Rattle.std.proofs.Common.{◌≡◌, ℕ, ◌+◌, ◌≤◌, Bool, true, false, eqb, List, [], ◌∷◌, ◌++◌, sym, refl, ap, subst, inl, inr, arith}
use Rattle.std.proofs.lemmas.Bool.{cases_eq, eq-eqb, eqb-false, ne_eqb}
use Rattle.script.specs.Lists.{Any, Each, EachOnce, one, times}

module _ {A : Type 0} where
  pub each_map : (P Q : A → Type 0) → ((a : A) → P a → Q a) → (us : List A) → Each P us → Each Q us
  each_map P Q h [] e = tt
  each_map P Q h (a ∷ us) e = (h a e.0, each_map P Q h us e.1)

  pub each_zip : (P Q R : A → Type 0) → ((a : A) → P a → Q a → R a) → (us : List A) → Each P us → Each Q us → Each R us
  each_zip P Q R h [] e f = tt
  each_zip P Q R h (a ∷ us) e f = (h a e.0 f.0, each_zip P Q R h us e.1 f.1)

  pub each_left : (P : A → Type 0) (us bs : List A) → Each P (us ++ bs) → Each P us
  each_left P [] bs e = tt
  each_left P (a ∷ us) bs e = (e.0, each_left P us bs e.1)

  pub each_right : (P : A → Type 0) (us bs : List A) → Each P (us ++ bs) → Each P bs
  each_right P [] bs e = e
  each_right P (a ∷ us) bs e = each_right P us bs e.1

  pub each_append : (P : A → Type 0) (us vs : List A) → Each P us → Each P vs → Each P (us ++ vs)
  each_append P [] vs e f = f
  each_append P (u ∷ us) vs e f = (e.0, each_append P us vs e.1 f)

  -- not one of them has what each has not
  pub each_any : (P Q : A → Type 0) → ((a : A) → P a → Q a → ⊥) → (us : List A) → Each P us → Any Q us → ⊥
  each_any P Q h [] e x = x
  each_any P Q h (a ∷ us) e x = elim x [ inl y ↦ h a e.0 y | inr y ↦ each_any P Q h us e.1 y ]

pub one_true : (b : Bool) → b ≡ true → one b ≡ 1
one_true b e = ap one e

pub one_false : (b : Bool) → b ≡ false → one b ≡ 0
one_false b e = ap one e

pub times_append : (l : ℕ) (us vs : List ℕ) → times l (us ++ vs) ≡ times l us + times l vs
times_append l [] vs = omega arith
times_append l (u ∷ us) vs = omega (arith, times_append l us vs)

pub times_none : (l : ℕ) (ms : List ℕ) → times l ms ≡ 0 → Each (λ m. eqb m l ≡ false) ms
times_none l [] h = tt
times_none l (m ∷ ms) h = (go (eqb m l) (omega arith), times_none l ms (omega arith))
  where
    go : (b : Bool) → one b ≡ 0 → b ≡ false
    go true e = absurd (omega arith)
    go false e = refl

-- what holds of each holds of those that stand in the list
pub times_each : (P : ℕ → Type 0) (m : ℕ) (ms : List ℕ) → Each P ms → 1 ≤ times m ms → P m
times_each P m [] e h = absurd (omega arith)
times_each P m (j ∷ ms) e h = elim (cases_eq j m) [
  | inl w ↦ subst P w e.0
  | inr w ↦ times_each P m ms e.1 (omega (arith, one_false (eqb j m) (ne_eqb j m w)))
]

pub each_from : (P : ℕ → Type 0) (ms : List ℕ) → ((m : ℕ) → 1 ≤ times m ms → P m) → Each P ms
each_from P [] h = tt
each_from P (m ∷ ms) h = (h m (omega (arith, one_true (eqb m m) (eq-eqb m m refl))), each_from P ms (λ j q. h j (omega arith)))

pub once_all : (ms : List ℕ) → ((l : ℕ) → times l ms ≤ 1) → EachOnce ms
once_all [] h = tt
once_all (m ∷ ms) h = (
  each_map (λ j. eqb j m ≡ false) (λ j. ¬ (m ≡ j)) (λ j e w. eqb-false j m e (sym w)) ms (times_none m ms (omega (arith, h m, one_true (eqb m m) (eq-eqb m m refl)))),
  once_all ms (λ l. omega (arith, h l)),
)
