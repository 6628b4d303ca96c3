-- An opening has one right answer, and a test finds it.
use Rattle.std.proofs.Common.{◌≡◌, ℕ, zero, suc, ◌+◌, ◌-◌, ◌<◌, ◌≤◌, ◌⊎◌, Bool, true, false, not, T, ltb, List, [], ◌∷◌, length, slice_index, Some, None, Ok, Err, Option, Result, ℤ, sym, refl, ap, ◌∙◌, subst, inl, inr, arith}
use Rattle.std.proofs.lemmas.Bool.{both_ways, cases_eq, cases_lt, ltb-true, ltb-false, true_from_ne_false}
use Rattle.kinds.specs.Arithmetic.{Arithmetic}
use Rattle.text.specs.declared.refusals.Refusal.{Refusal}
use Rattle.text.specs.Refusals.{without_line}
use Rattle.lines.specs.declared.records.Line.{Line}
use Rattle.script.specs.Apart.{globals_of, heads, no_globals, own}
use Rattle.script.specs.IsScript.{IsScript}
use Rattle.script.specs.Names.{Standing, nothing, cell, cells, code}
use Rattle.script.specs.Tests.{lowest}
use Rattle.script.proofs.Lowest.{Lowest, NoneBelow, the_lowest}
use Rattle.rule.specs.Lawful.{LawfulBelow}
use Rattle.acceptance.specs.Scripts.{global_standing}
use Rattle.acceptance.proofs.Cells.{standing_own}
use Rattle.acceptance.proofs.Roles.{names_none}
use Rattle.calls.specs.declared.asked.GlobalCell.{GlobalCell}
use Rattle.calls.specs.declared.causes.SessionCause.{SessionCause}
use Rattle.calls.specs.declared.causes.SessionCause.TheVariants.{StoreTooSmall, UnlawfulGlobal}
use Rattle.calls.specs.Globals.{FirstUnlawful, Has, Unlawful, cell_of}
use Rattle.calls.specs.Openings.{Opens, too_small, unlawful, opens}
use Rattle.calls.proofs.Named.{index_has, named}

-- ## One answer

module _ (K : Arithmetic) (ls : List Line) (words : List ℕ) where
  one_line : (m n : ℕ) → FirstUnlawful K ls words m → FirstUnlawful K ls words n → n ≡ m
  one_line m n f g = elim (cases_lt m n) [
    | inl w ↦ absurd (g.1 m w f.0)
    | inr w ↦ elim (cases_eq n m) [
      | inl e ↦ e
      | inr e ↦ absurd (f.1 n (omega (arith, w, e)) g.0)
    ]
  ]

  pub one_opening : (r s : Result (Unit {0}) (Refusal SessionCause)) → Opens K ls words r → Opens K ls words s → s ≡ r
  one_opening _ _ (too_small q) (too_small h) = refl
  one_opening _ _ (too_small q) (unlawful h f) = absurd (omega (arith, q, h))
  one_opening _ _ (too_small q) (opens h f) = absurd (omega (arith, q, h))
  one_opening _ _ (unlawful q f) (too_small h) = absurd (omega (arith, q, h))
  one_opening _ _ (unlawful {n = m} q f) (unlawful {n} h g) = ap (λ k. Err (record { cause = UnlawfulGlobal; line = k })) (one_line m n f g)
  one_opening _ _ (unlawful {n = m} q f) (opens h g) = absurd (g m f.0)
  one_opening _ _ (opens q f) (too_small h) = absurd (omega (arith, q, h))
  one_opening _ _ (opens q f) (unlawful {n} h g) = absurd (f n g.0)
  one_opening _ _ (opens q f) (opens h g) = refl

-- ## The test

module _ (K : Arithmetic) (words : List ℕ) where
  -- a cell of what a name stands for has an unlawful word
  abbrev Amiss : Standing → Type 0
  Amiss s = (c : ℕ) × Has s c × (K.lawful (slice_index words c) ≡ false)

  abbrev amiss_at : ℕ → ℕ → Bool
  amiss_at b i = not (K.lawful (slice_index words (b + i)))

  abbrev found_one : Option ℕ → Bool
  found_one None = false
  found_one (Some n) = true

  abbrev is_amiss : Standing → Bool
  is_amiss nothing = false
  is_amiss (cell c) = not (K.lawful (slice_index words c))
  is_amiss (cells b n) = found_one (lowest (amiss_at b) n)
  is_amiss (code x y s) = false

  not_true : (b : Bool) → not b ≡ true → b ≡ false
  not_true true e = sym e
  not_true false e = refl

  abbrev Decided : Standing → Bool → Type 0
  Decided s b = ((b ≡ true) × Amiss s) ⊎ ((b ≡ false) × ¬ (Amiss s))

  decide : (s : Standing) → Decided s (is_amiss s)
  decide nothing = inr (refl, λ a. a.1)
  decide (cell c) = go (K.lawful (slice_index words c)) refl
    where
      go : (b : Bool) → K.lawful (slice_index words c) ≡ b → Decided (cell c) (not b)
      go true e = inr (refl, λ a. both_ways true (sym e ∙ (ap (λ x. K.lawful (slice_index words x)) (sym a.1) ∙ a.2)) refl)
      go false e = inl (refl, (c, refl, e))
  decide (cells b n) = go (the_lowest (amiss_at b) n)
    where
      go : ((lowest (amiss_at b) n ≡ None) × NoneBelow (amiss_at b) n) ⊎ ((i : ℕ) × (lowest (amiss_at b) n ≡ Some i) × Lowest (amiss_at b) n i)
          → Decided (cells b n) (is_amiss (cells b n))
      go (inl h) = inr (
        ap found_one h.0,
        λ a.
            let there : a.0 - b < n = omega (arith, a.1.0, a.1.1) in
            let at : b + (a.0 - b) ≡ a.0 = omega (arith, a.1.0) in
            both_ways (amiss_at b (a.0 - b)) (h.1 (a.0 - b) there) (ap (λ x. not (K.lawful (slice_index words x))) at ∙ ap not a.2),
      )
      go (inr h) = inl (ap found_one h.1, (b + h.0, (omega arith, let q = h.2.0 in omega (arith, q)), not_true (K.lawful (slice_index words (b + h.0))) h.2.1))
  decide (code x y s) = inr (refl, λ a. a.1)

module _ (K : Arithmetic) (ls : List Line) (words : List ℕ) where
  abbrev test : ℕ → Bool
  test n = is_amiss K words ((globals_of ls).names (own n))

  -- no line past the globals has a cell
  pub global_line : (n : ℕ) → Unlawful K ls words n → n ≤ length (heads ls)
  global_line n u = elim (cases_lt (length (heads ls)) n) [
    | inl w ↦ absurd (subst (λ s. Has s u.0) (names_none 1 (heads ls) no_globals (own n) (λ m q r e. omega (arith, q, r, e, w))) u.1)
    | inr w ↦ omega (arith, w)
  ]

  test_false : (n : ℕ) → test n ≡ false → ¬ (Unlawful K ls words n)
  test_false n e = elim (decide K words ((globals_of ls).names (own n))) [ inl w ↦ absurd (both_ways (test n) e w.0) | inr w ↦ w.1 ]

  test_true : (n : ℕ) → test n ≡ true → Unlawful K ls words n
  test_true n e = elim (decide K words ((globals_of ls).names (own n))) [ inl w ↦ w.1 | inr w ↦ absurd (both_ways (test n) w.0 e) ]

  abbrev answer_by : Bool → Option ℕ → Result (Unit {0}) (Refusal SessionCause)
  answer_by true o = Err (without_line StoreTooSmall)
  answer_by false None = Ok tt
  answer_by false (Some n) = Err (record { cause = UnlawfulGlobal; line = n })

  -- the answer, computed
  abbrev pub opening : Result (Unit {0}) (Refusal SessionCause)
  opening = answer_by (ltb (length words) (globals_of ls).taken) (lowest test (suc (length (heads ls))))

  pub opens_so : Opens K ls words opening
  opens_so = go (ltb (length words) (globals_of ls).taken) refl (the_lowest test (suc (length (heads ls))))
    where
      go : (b : Bool) → ltb (length words) (globals_of ls).taken ≡ b
          → ((lowest test (suc (length (heads ls))) ≡ None) × NoneBelow test (suc (length (heads ls))))
          ⊎ ((n : ℕ) × (lowest test (suc (length (heads ls))) ≡ Some n) × Lowest test (suc (length (heads ls))) n)
          → Opens K ls words (answer_by b (lowest test (suc (length (heads ls)))))
      go true e h = too_small (ltb-true (length words) (globals_of ls).taken e)
      go false e (inl h) =
          subst (λ o. Opens K ls words (answer_by false o)) (sym h.0)
          (opens (ltb-false (length words) (globals_of ls).taken e) (λ n u. test_false n (h.1 n (let q = global_line n u in omega (arith, q))) u))
      go false e (inr h) =
          subst (λ o. Opens K ls words (answer_by false o)) (sym h.1)
          (unlawful (ltb-false (length words) (globals_of ls).taken e) (test_true h.0 h.2.1, λ m q. test_false m (h.2.2 m q)))

-- ## Where it is opened, the globals' words are lawful

pub has_room : (K : Arithmetic) (ls : List Line) (words : List ℕ) → Opens K ls words (Ok tt) → (globals_of ls).taken ≤ length words
has_room K ls words (opens q f) = q

none_unlawful : (K : Arithmetic) (ls : List Line) (words : List ℕ) → Opens K ls words (Ok tt) → (n : ℕ) → ¬ (Unlawful K ls words n)
none_unlawful K ls words (opens q f) = f

lawful_cell : (K : Arithmetic) (ls : List Line) (words : List ℕ) → ((n : ℕ) → ¬ (Unlawful K ls words n)) → (g : GlobalCell) (c : ℕ) → cell_of ls g ≡ Some c
    → T (K.lawful (slice_index words c))
lawful_cell K ls words none g c e =
    let w = standing_own ls g.name g.sort in
    let has : Has (global_standing ls g.sort g.name) c = index_has (global_standing ls g.sort g.name) g.index c e in
    subst T (sym (true_from_ne_false (K.lawful (slice_index words c)) (λ f. none w.0 (c, subst (λ s. Has s c) w.1 has, f)))) tt

-- cell by cell
each_below : (K : Arithmetic) (u : ℕ) (words : List ℕ) → u ≤ length words → ((c : ℕ) → c < u → T (K.lawful (slice_index words c))) → LawfulBelow K u words
each_below K zero words q h = tt
each_below K (suc u) [] q h = tt
each_below K (suc u) (w ∷ words) q h = (h 0 (omega arith), each_below K u words (omega (arith, q)) (λ c k. h (suc c) (omega (arith, k))))

pub opened_lawful : (K : Arithmetic) (low high : ℤ) (ls : List Line) → IsScript low high ls → (words : List ℕ) → Opens K ls words (Ok tt) → LawfulBelow K (globals_of ls).taken words
opened_lawful K low high ls s words o =
    each_below K (globals_of ls).taken words (has_room K ls words o)
    (λ c h. let g = named low high ls s c h in lawful_cell K ls words (none_unlawful K ls words o) g.0 c g.1)
