-- What is around a line, and what holds at every line or at the root.
use Rattle.std.proofs.Common.{◌≡◌, ℕ, zero, suc, ◌+◌, ◌<◌, ◌≤◌, true, false, eqb, ◌⊎◌, ◌↔◌, sym, refl, ap, ◌∙◌, subst, inl, inr, arith}
use Rattle.std.proofs.lemmas.Bool.{both_ways, cases_eq, cases_lt, ne_eqb}
use Rattle.lines.specs.declared.records.Line.{Line}
use Rattle.script.specs.Lists.{Each, times}
use Rattle.script.specs.Fields.{class_of, fields, fits, is_nothing, of_statement}
use Rattle.script.specs.Around.{around, handed, if_named, user}
use Rattle.script.specs.Tests.{named}
use Rattle.script.proofs.Lists.{each_map, each_zip, one_false, times_append, times_each}
use Rattle.script.proofs.Form.{InForm, count, count_step, each_named, fits_something, form_is_tree, named_part, names_of, total_some, valid}

user_is : (L : ℕ → Line) (m j k : ℕ) → j < k → times m (named L k) ≤ 1 → 1 ≤ times m (names_of L j) → user L k m ≡ j
user_is L m j zero q u h = absurd (omega arith)
user_is L m j (suc k) q u h = elim (cases_eq j k) [
  | inl e ↦ here (times m (names_of L k)) (subst (λ i. 1 ≤ times m (names_of L i)) e h) ∙ sym e
  | inr e ↦ there (times m (names_of L k)) (omega (arith, times_append m (named L k) (names_of L k), named_part L m k j (omega arith)))
      ∙ user_is L m j k (omega arith) (omega (arith, times_append m (named L k) (names_of L k))) h
]
  where
    here : (t : ℕ) → 1 ≤ t → if_named t (user L k m) k ≡ k
    here zero h = absurd (omega arith)
    here (suc t) h = refl

    there : (t : ℕ) → t ≡ 0 → if_named t (user L k m) k ≡ user L k m
    there zero h = refl
    there (suc t) h = absurd (omega arith)

user_none : (L : ℕ → Line) (m k : ℕ) → times m (named L k) ≡ 0 → user L k m ≡ 0
user_none L m zero u = refl
user_none L m (suc k) u = there (times m (names_of L k)) (omega (arith, times_append m (named L k) (names_of L k))) ∙ user_none L m k (omega (arith, times_append m (named L k) (names_of L k)))
  where
    there : (t : ℕ) → t ≡ 0 → if_named t (user L k m) k ≡ user L k m
    there zero h = refl
    there (suc t) h = absurd (omega arith)

-- who names a line stands behind it
pub user_behind : (L : ℕ → Line) (m k : ℕ) → ((j : ℕ) → j < k → Each (λ i. i < j) (names_of L j)) → (user L k m ≡ 0) ⊎ ((m < user L k m) × (user L k m < k))
user_behind L m zero v = inl refl
user_behind L m (suc k) v = go (times m (names_of L k)) refl (user_behind L m k (λ j q. v j (omega arith)))
  where
    go : (t : ℕ) → times m (names_of L k) ≡ t → (user L k m ≡ 0) ⊎ ((m < user L k m) × (user L k m < k))
        → (if_named t (user L k m) k ≡ 0) ⊎ ((m < if_named t (user L k m) k) × (if_named t (user L k m) k < suc k))
    go zero e (inl h) = inl h
    go zero e (inr h) = inr (h.0, omega arith)
    go (suc t) e h = inr (times_each (λ i. i < k) m (names_of L k) (v k (omega arith)) (omega arith), omega arith)

pub last_behind : (L : ℕ → Line) (N G : ℕ) → ((n : ℕ) → n < G → is_nothing (class_of (L n)) ≡ true) → InForm L N G → G ≤ N
last_behind L N G front i = elim (cases_lt N G) [ inl w ↦ absurd (both_ways (is_nothing (class_of (L N))) (fits_something of_statement (class_of (L N)) i.ends) (front N w)) | inr w ↦ w ]

module _ (L : ℕ → Line) (N G : ℕ) (front : (n : ℕ) → n < G → is_nothing (class_of (L n)) ≡ true) (i : InForm L N G) where
  module _ {X : Type 0} (inner : ℕ → Line → X → X) (x : X) where
    at_zero : (u : ℕ) (y : X) → u ≡ 0 → handed inner x L N u y ≡ x
    at_zero zero y e = refl
    at_zero (suc u) y e = absurd (omega arith)

    at_suc : (u : ℕ) (y : X) → 1 ≤ u → handed inner x L N u y ≡ inner u (L u) y
    at_suc zero y e = absurd (omega arith)
    at_suc (suc u) y e = refl

    user_where : (n : ℕ) → (user L (suc N) n ≡ 0) ⊎ ((n < user L (suc N) n) × (user L (suc N) n < suc N))
    user_where n = user_behind L n (suc N) (λ j q. valid L N G front i j (omega arith))

    pub stable : (f g n : ℕ) → N ≤ n + f → N ≤ n + g → around inner x L N f n ≡ around inner x L N g n
    stable zero zero n p q = refl
    stable zero (suc g) n p q = sym (at_zero (user L (suc N) n) (around inner x L N g (user L (suc N) n)) (omega (arith, user_where n)))
    stable (suc f) zero n p q = at_zero (user L (suc N) n) (around inner x L N f (user L (suc N) n)) (omega (arith, user_where n))
    stable (suc f) (suc g) n p q = elim (user_where n) [
      | inl e ↦ at_zero (user L (suc N) n) (around inner x L N f (user L (suc N) n)) e ∙ sym (at_zero (user L (suc N) n) (around inner x L N g (user L (suc N) n)) e)
      | inr e ↦ ap (handed inner x L N (user L (suc N) n)) (stable f g (user L (suc N) n) (omega arith) (omega arith))
    ]

    pub around_last : (f : ℕ) → around inner x L N f N ≡ x
    around_last zero = refl
    around_last (suc f) = at_zero (user L (suc N) N) (around inner x L N f (user L (suc N) N)) (omega (arith, user_where N))

    pub around_named : (j m : ℕ) → j ≤ N → 1 ≤ times m (names_of L j) → around inner x L N N m ≡ inner j (L j) (around inner x L N N j)
    around_named j m q h =
        let b : m < j = times_each (λ m. m < j) m (names_of L j) (valid L N G front i j q) h in
        stable N (suc N) m (omega arith) (omega arith)
        ∙ ap (λ u. handed inner x L N u (around inner x L N N u)) (user_is L m j (suc N) (omega arith) (i.once m) h)
        ∙ at_suc j (around inner x L N N j) (omega arith)

  abbrev pub Behind : ℕ → ℕ → Type 0
  Behind n m = (G ≤ m) × (m < n)

  pub behind : (n : ℕ) → n ≤ N → Each (Behind n) (names_of L n)
  behind n q = each_named (Behind n) (fields (L n)) (each_map (λ f. (f.1 < n) × (fits f.0 (class_of (L f.1)) ≡ true)) (λ f. Behind n f.1)
      (λ f h. (no_front f.1 (fits_something f.0 (class_of (L f.1)) h.1), h.0)) (fields (L n)) (i.fit n q))
    where
      no_front : (m : ℕ) → is_nothing (class_of (L m)) ≡ false → G ≤ m
      no_front m h = elim (cases_lt m G) [ inl w ↦ absurd (both_ways (is_nothing (class_of (L m))) h (front m w)) | inr w ↦ w ]

  -- what holds of a line's own and of the lines that it names
  module _ (Q own : ℕ → Type 0) (step : (n : ℕ) → G ≤ n → n ≤ N → Q n ↔ (own n × Each Q (names_of L n))) where
    pub gathers : ((n : ℕ) → G ≤ n → n ≤ N → own n) → (k n : ℕ) → n < k → G ≤ n → n ≤ N → Q n
    gathers h zero n q r s = absurd (omega arith)
    gathers h (suc k) n q r s = (step n r s).1 (h n r s, each_map (Behind n) Q (λ m b. gathers h k m (omega arith) b.0 (omega arith)) (names_of L n) (behind n s))

    reaches : (l k n : ℕ) → n < k → G ≤ n → n ≤ N → Q n → 1 ≤ count L l n → Q l
    reaches l zero n q r s h c = absurd (omega arith)
    reaches l (suc k) n q r s h c = elim (cases_eq n l) [
      | inl e ↦ subst Q e h
      | inr e ↦ total_some (Q l) (count L l) (names_of L n)
          (each_zip (Behind n) Q (λ m. 1 ≤ count L l m → Q l) (λ m b p d. reaches l k m (omega arith) b.0 (omega arith) p d) (names_of L n) (behind n s) ((step n r s).0 h).1)
          (omega (arith, count_step L l n (valid L N G front i n s), one_false (eqb n l) (ne_eqb n l e)))
    ]

    pub spreads : Q N → (l : ℕ) → G ≤ l → l ≤ N → own l
    spreads h l q r = ((step l q r).0 (reaches l (suc N) N (omega arith) (omega arith) (omega arith) h (omega (arith, (form_is_tree L N G front i).each_once l q r)))).0
