-- Replacements one after the other are one replacement, and the replacement that keeps everything changes no text.
use Rattle.std.proofs.Common.{◌≡◌, ℕ, Bool, true, false, T, eqb, ◌⊎◌, sym, refl, ap, subst, inl, inr, eqb→eq}
use lib.Dec.{eqb_refl}
use Rattle.script.specs.Script.{Place, simple, element, fixed, Expression, constant, word_of, work, choose, Condition, truth, compared, negated, implies}
use Rattle.script.specs.Script.{Statement, assign, both, branch, call, new_simple, new_array, system, Declarations, procedure, joined}
use Rattle.script.specs.Script.{Replacement, only, in_place, in_expression, in_condition, in_statement, in_declarations}

abbrev pub after : Replacement → Replacement → Replacement
after r q = record { place = λ z. in_place r (q.place z); array = λ z. r.array (q.array z); proc = λ z. r.proc (q.proc z) }

abbrev pub keeps : Replacement
keeps = record { place = simple; array = λ z. z; proc = λ z. z }

module _ (r q : Replacement) where
  mutual
    after_place : (p : Place) → in_place r (in_place q p) ≡ in_place (after r q) p
    after_place (simple x) = refl
    after_place (element a i) = λ j. element (r.array (q.array a)) (after_expression i j)
    after_place (fixed a i) = refl

    after_expression : (e : Expression) → in_expression r (in_expression q e) ≡ in_expression (after r q) e
    after_expression (constant n) = refl
    after_expression (word_of p) = λ j. word_of (after_place p j)
    after_expression (work o a b) = λ j. work o (after_expression a j) (after_expression b j)
    after_expression (choose c a b) = λ j. choose (after_condition c j) (after_expression a j) (after_expression b j)

    after_condition : (c : Condition) → in_condition r (in_condition q c) ≡ in_condition (after r q) c
    after_condition (truth b) = refl
    after_condition (compared r a b) = λ j. compared r (after_expression a j) (after_expression b j)
    after_condition (negated c) = λ j. negated (after_condition c j)
    after_condition (implies c d) = λ j. implies (after_condition c j) (after_condition d j)

  mutual
    pub after_statement : (s : Statement) → in_statement r (in_statement q s) ≡ in_statement (after r q) s
    after_statement (assign l p e) = λ j. assign l (after_place p j) (after_expression e j)
    after_statement (both l a b) = λ j. both l (after_statement a j) (after_statement b j)
    after_statement (branch l c a b) = λ j. branch l (after_condition c j) (after_statement a j) (after_statement b j)
    after_statement (call l z e p) = λ j. call l (r.proc (q.proc z)) (after_expression e j) (after_place p j)
    after_statement (new_simple l x a) = λ j. new_simple l x (after_statement a j)
    after_statement (new_array l x n a) = λ j. new_array l x n (after_statement a j)
    after_statement (system l d a) = λ j. system l (after_declarations d j) (after_statement a j)

    after_declarations : (d : Declarations) → in_declarations r (in_declarations q d) ≡ in_declarations (after r q) d
    after_declarations (procedure l z x y s) = λ j. procedure l z x y (after_statement s j)
    after_declarations (joined d e) = λ j. joined (after_declarations d j) (after_declarations e j)

mutual
  kept_place : (p : Place) → in_place keeps p ≡ p
  kept_place (simple x) = refl
  kept_place (element a i) = λ j. element a (kept_expression i j)
  kept_place (fixed a i) = refl

  kept_expression : (e : Expression) → in_expression keeps e ≡ e
  kept_expression (constant n) = refl
  kept_expression (word_of p) = λ j. word_of (kept_place p j)
  kept_expression (work o a b) = λ j. work o (kept_expression a j) (kept_expression b j)
  kept_expression (choose c a b) = λ j. choose (kept_condition c j) (kept_expression a j) (kept_expression b j)

  kept_condition : (c : Condition) → in_condition keeps c ≡ c
  kept_condition (truth b) = refl
  kept_condition (compared r a b) = λ j. compared r (kept_expression a j) (kept_expression b j)
  kept_condition (negated c) = λ j. negated (kept_condition c j)
  kept_condition (implies c d) = λ j. implies (kept_condition c j) (kept_condition d j)

mutual
  pub kept_statement : (s : Statement) → in_statement keeps s ≡ s
  kept_statement (assign l p e) = λ j. assign l (kept_place p j) (kept_expression e j)
  kept_statement (both l a b) = λ j. both l (kept_statement a j) (kept_statement b j)
  kept_statement (branch l c a b) = λ j. branch l (kept_condition c j) (kept_statement a j) (kept_statement b j)
  kept_statement (call l z e p) = λ j. call l z (kept_expression e j) (kept_place p j)
  kept_statement (new_simple l x a) = λ j. new_simple l x (kept_statement a j)
  kept_statement (new_array l x n a) = λ j. new_array l x n (kept_statement a j)
  kept_statement (system l d a) = λ j. system l (kept_declarations d j) (kept_statement a j)

  kept_declarations : (d : Declarations) → in_declarations keeps d ≡ d
  kept_declarations (procedure l z x y s) = λ j. procedure l z x y (kept_statement s j)
  kept_declarations (joined d e) = λ j. joined (kept_declarations d j) (kept_declarations e j)

-- two names are the same, or the test tells them apart
pub same_or_not : (x z : ℕ) → (x ≡ z) ⊎ (eqb x z ≡ false)
same_or_not x z = go (eqb x z) refl
  where
    go : (b : Bool) → eqb x z ≡ b → (x ≡ z) ⊎ (eqb x z ≡ false)
    go true e = inl (eqb→eq x z (subst T (sym e) tt))
    go false e = inr e

pub equal_true : (x : ℕ) → eqb x x ≡ true
equal_true x = go (eqb x x) (eqb_refl x)
  where
    go : (b : Bool) → T b → b ≡ true
    go true t = refl
    go false t = absurd t

pub differ : (x z : ℕ) → ¬ (x ≡ z) → eqb x z ≡ false
differ x z h = elim (same_or_not x z) [ inl e ↦ absurd (h e) | inr e ↦ e ]

pub here : {A : Type 0} (x : ℕ) (a : A) (f : ℕ → A) → only x a f x ≡ a
here {A} x a f = ap (λ (b : Bool). let r : A = elim b [ true ↦ a | false ↦ f x ] in r) (equal_true x)

pub there : {A : Type 0} (x : ℕ) (a : A) (f : ℕ → A) (z : ℕ) → eqb x z ≡ false → only x a f z ≡ f z
there {A} x a f z e = ap (λ (b : Bool). let r : A = elim b [ true ↦ a | false ↦ f z ] in r) e
