-- The names of a told-apart text are in order.
use Rattle.std.proofs.Common.{◌≡◌, ℕ, zero, suc, ◌+◌, ◌<◌, ◌≤◌, Bool, true, false, T, eqb, leb, ◌⊎◌, List, [], ◌∷◌, ◌++◌, length, sym, refl, ap, ◌∙◌, subst, inl, inr, le_refl, arith, leb→le}
use Rattle.script.specs.Script.{Place, simple, element, fixed, Expression, constant, word_of, work, choose, Condition, truth, compared, negated, implies}
use Rattle.script.specs.Script.{Statement, assign, both, branch, call, new_simple, new_array, system, Declarations, procedure, joined, only}
use Rattle.script.specs.Names.{Names, Standing, nothing, cell, cells}
use Rattle.script.specs.Apart.{Globals, global_of, globals_from, globals_of, heads, past_globals, no_globals, Scope, found, with_simple, with_array, with_procs, own, own_value, own_variable, first_fresh, place_apart, expression_apart, condition_apart, statement_apart, declarations_apart}
use Rattle.rule.specs.Fine.{Kind, unused, a_simple, an_array, a_procedure, beyond, Kinds, with_procedures, with_formals, Unused, FinePlace, FineExpression, FineCondition, Fine, FineDeclarations, start_kind, start_kinds}
use Rattle.lines.specs.declared.records.Line.{Line}
use Rattle.script.specs.Lists.{Each, EachOnce}
use Rattle.script.specs.Scoped.{declaring_lines, declaring_lines_of, Among, ScopedPlace, ScopedExpression, ScopedCondition, Scoped, ScopedDeclarations}
use Rattle.rule.specs.Agreement.{ToldAgrees}
use Rattle.script.proofs.Lists.{each_map, each_zip, each_left, each_right}
use Rattle.rule.proofs.Compose.{same_or_not, differ, here, there}
use Rattle.rule.proofs.Matching.{unlike}
use Rattle.rule.proofs.Simulation.{machine_agrees}

-- what holds of each of some declaring-lines
module _ {A : Type 0} where
  each_all : (P : A → Type 0) → ((a : A) → P a) → (us : List A) → Each P us
  each_all P h [] = tt
  each_all P h (a ∷ us) = (h a, each_all P h us)

  each_swap : (R : A → A → Type 0) (us bs : List A) → Each (λ a. Each (R a) bs) us → Each (λ b. Each (λ a. R a b) us) bs
  each_swap R [] bs e = each_all (λ b. Unit {0}) (λ b. tt) bs
  each_swap R (a ∷ us) bs e = each_zip (R a) (λ b. Each (λ a. R a b) us) (λ b. R a b × Each (λ a. R a b) us) (λ b p q. (p, q)) bs e.0 (each_swap R us bs e.1)

abbrev Differs : ℕ → ℕ → Type 0
Differs a b = ¬ (a ≡ b)

once_left : (us bs : List ℕ) → EachOnce (us ++ bs) → EachOnce us
once_left [] bs e = tt
once_left (a ∷ us) bs e = (each_left (Differs a) us bs e.0, once_left us bs e.1)

once_right : (us bs : List ℕ) → EachOnce (us ++ bs) → EachOnce bs
once_right [] bs e = e
once_right (a ∷ us) bs e = once_right us bs e.1

once_cross : (us bs : List ℕ) → EachOnce (us ++ bs) → Each (λ a. Each (Differs a) bs) us
once_cross [] bs e = tt
once_cross (a ∷ us) bs e = (each_right (Differs a) us bs e.0, once_cross us bs e.1)

-- a line's own names are yet to be declared
abbrev LineFree : Kinds → ℕ → Type 0
LineFree κ l = (κ (own l) ≡ unused) × (κ (own_value l) ≡ unused) × (κ (own_variable l) ≡ unused)

pub record Fits (κ : Kinds) (s : Scope) : Type 0 where
  pub simples : Each (λ p. κ p.1 ≡ a_simple) s.simples
  pub arrays : Each (λ p. κ p.1 ≡ an_array) s.arrays
  pub procs : Each (λ p. κ p.1 ≡ a_procedure) s.procs

found_kind : (κ : Kinds) (k : Kind) (ps : List (ℕ × ℕ)) (n : ℕ) → Each (λ p. κ p.1 ≡ k) ps → Among ps n → κ (found ps n) ≡ k
found_kind κ k [] n e a = absurd a
found_kind κ k (p ∷ ps) n e a = go (eqb p.0 n) (found_kind κ k ps n e.1) a
  where
    go : (b : Bool) → (Among ps n → κ (found ps n) ≡ k) → elim b as (λ x. Type 0) [ true ↦ Unit {0} | false ↦ Among ps n ] → κ (elim b [ true ↦ p.1 | false ↦ found ps n ]) ≡ k
    go true ih a = e.0
    go false ih a = ih a

module _ (s : Scope) (κ : Kinds) (f : Fits κ s) where
  mutual
    fine_place : (p : Place) → ScopedPlace s p → FinePlace κ (place_apart s p)
    fine_place (simple x) h = found_kind κ a_simple s.simples x f.simples h
    fine_place (element a i) h = (found_kind κ an_array s.arrays a f.arrays h.0, fine_expression i h.1)
    fine_place (fixed a i) h = absurd h

    fine_expression : (e : Expression) → ScopedExpression s e → FineExpression κ (expression_apart s e)
    fine_expression (constant n) h = tt
    fine_expression (word_of p) h = fine_place p h
    fine_expression (work o a b) h = (fine_expression a h.0, fine_expression b h.1)
    fine_expression (choose c a b) h = (fine_condition c h.0, fine_expression a h.1, fine_expression b h.2)

    fine_condition : (c : Condition) → ScopedCondition s c → FineCondition κ (condition_apart s c)
    fine_condition (truth b) h = tt
    fine_condition (compared r a b) h = (fine_expression a h.0, fine_expression b h.1)
    fine_condition (negated c) h = fine_condition c h
    fine_condition (implies c d) h = (fine_condition c h.0, fine_condition d h.1)

-- one more name of some kind
module _ (κ : Kinds) (y : ℕ) (k : Kind) (u : κ y ≡ unused) where
  still : (j : Kind) → ¬ (j ≡ unused) → (z : ℕ) → κ z ≡ j → only y k κ z ≡ j
  still j h z e = there y k κ z (differ y z (λ p. h (sym e ∙ ap κ (sym p) ∙ u))) ∙ e

  still_each : (j : Kind) → ¬ (j ≡ unused) → (ps : List (ℕ × ℕ)) → Each (λ p. κ p.1 ≡ j) ps → Each (λ p. only y k κ p.1 ≡ j) ps
  still_each j h = each_map (λ p. κ p.1 ≡ j) (λ p. only y k κ p.1 ≡ j) (λ p. still j h p.1)

  still_free : (l : ℕ) → ¬ (y ≡ own l) → ¬ (y ≡ own_value l) → ¬ (y ≡ own_variable l) → LineFree κ l → LineFree (only y k κ) l
  still_free l a b c h = (
    there y k κ (own l) (differ y (own l) a) ∙ h.0,
    there y k κ (own_value l) (differ y (own_value l) b) ∙ h.1,
    there y k κ (own_variable l) (differ y (own_variable l) c) ∙ h.2,
  )

fits_simple : (κ : Kinds) (s : Scope) (x y : ℕ) → κ y ≡ unused → Fits κ s → Fits (only y a_simple κ) (with_simple x y s)
fits_simple κ s x y u f = record {
  simples = (here y a_simple κ, still_each κ y a_simple u a_simple (unlike (omega arith)) s.simples f.simples);
  arrays = still_each κ y a_simple u an_array (unlike (omega arith)) s.arrays f.arrays;
  procs = still_each κ y a_simple u a_procedure (unlike (omega arith)) s.procs f.procs;
}

fits_array : (κ : Kinds) (s : Scope) (x y : ℕ) → κ y ≡ unused → Fits κ s → Fits (only y an_array κ) (with_array x y s)
fits_array κ s x y u f = record {
  simples = still_each κ y an_array u a_simple (unlike (omega arith)) s.simples f.simples;
  arrays = (here y an_array κ, still_each κ y an_array u an_array (unlike (omega arith)) s.arrays f.arrays);
  procs = still_each κ y an_array u a_procedure (unlike (omega arith)) s.procs f.procs;
}

-- a system's procedures
abbrev ApartFrom : Declarations → ℕ → Type 0
ApartFrom (procedure h q x y s) l = ¬ (h ≡ l)
ApartFrom (joined d e) l = ApartFrom d l × ApartFrom e l

abbrev Bodies : (ℕ → Type 0) → Declarations → Type 0
Bodies P (procedure h q x y s) = Each P (declaring_lines s)
Bodies P (joined d e) = Bodies P d × Bodies P e

apart_all : (d : Declarations) (l : ℕ) → Each (λ h. Differs h l) (declaring_lines_of d) → ApartFrom d l
apart_all (procedure h q x y s) l e = e.0
apart_all (joined d c) l e = (apart_all d l (each_left (λ h. Differs h l) (declaring_lines_of d) (declaring_lines_of c) e), apart_all c l (each_right (λ h. Differs h l) (declaring_lines_of d) (declaring_lines_of c) e))

bodies_of : (P : ℕ → Type 0) (d : Declarations) → Each P (declaring_lines_of d) → Bodies P d
bodies_of P (procedure h q x y s) e = e.1
bodies_of P (joined d c) e = (bodies_of P d (each_left P (declaring_lines_of d) (declaring_lines_of c) e), bodies_of P c (each_right P (declaring_lines_of d) (declaring_lines_of c) e))

bodies_zip : (P Q R : ℕ → Type 0) → ((l : ℕ) → P l → Q l → R l) → (d : Declarations) → Bodies P d → Bodies Q d → Bodies R d
bodies_zip P Q R h (procedure l q x y s) a b = each_zip P Q R h (declaring_lines s) a b
bodies_zip P Q R h (joined d c) a b = (bodies_zip P Q R h d a.0 b.0, bodies_zip P Q R h c a.1 b.1)

each_apart : (d : Declarations) (ls : List ℕ) → Each (λ h. Each (Differs h) ls) (declaring_lines_of d) → Each (ApartFrom d) ls
each_apart d ls e = each_map (λ l. Each (λ h. Differs h l) (declaring_lines_of d)) (ApartFrom d) (apart_all d) ls (each_swap Differs (declaring_lines_of d) ls e)

each_turned : (ls ms : List ℕ) → Each (λ h. Each (Differs h) ls) ms → Each (λ l. Each (Differs l) ms) ls
each_turned ls ms e =
    each_map (λ l. Each (λ h. Differs h l) ms) (λ l. Each (Differs l) ms) (λ l. each_map (λ h. Differs h l) (Differs l) (λ h n p. n (sym p)) ms) ls (each_swap Differs ms ls e)

bodies_apart : (d : Declarations) → EachOnce (declaring_lines_of d) → Bodies (ApartFrom d) d
bodies_apart (procedure h q x y s) e = e.0
bodies_apart (joined d c) e = (
  bodies_zip (ApartFrom d) (ApartFrom c) (ApartFrom (joined d c)) (λ l a b. (a, b)) d
      (bodies_apart d (once_left (declaring_lines_of d) (declaring_lines_of c) e))
      (bodies_of (ApartFrom c) d (each_apart c (declaring_lines_of d) (each_turned (declaring_lines_of c) (declaring_lines_of d) cross))),
  bodies_zip (ApartFrom d) (ApartFrom c) (ApartFrom (joined d c)) (λ l a b. (a, b)) c
      (bodies_of (ApartFrom d) c (each_apart d (declaring_lines_of c) cross))
      (bodies_apart c (once_right (declaring_lines_of d) (declaring_lines_of c) e)),
)
  where
    cross : Each (λ h. Each (Differs h) (declaring_lines_of c)) (declaring_lines_of d)
    cross = once_cross (declaring_lines_of d) (declaring_lines_of c) e

-- no procedure's name
abbrev NoHead : Declarations → ℕ → Type 0
NoHead (procedure h q x y s) n = ¬ (own h ≡ n)
NoHead (joined d e) n = NoHead d n × NoHead e n

no_head : (d : Declarations) (n : ℕ) → ((h : ℕ) → ¬ (own h ≡ n)) → NoHead d n
no_head (procedure h q x y s) n k = k h
no_head (joined d e) n k = (no_head d n k, no_head e n k)

no_head_own : (d : Declarations) (l : ℕ) → ApartFrom d l → NoHead d (own l)
no_head_own (procedure h q x y s) l k = λ e. k (omega arith)
no_head_own (joined d e) l k = (no_head_own d l k.0, no_head_own e l k.1)

module _ (s : Scope) where
  away : (d : Declarations) (κ : Kinds) (n : ℕ) → NoHead d n → with_procedures (declarations_apart s d) κ n ≡ κ n
  away (procedure h q x y b) κ n k = there (own h) a_procedure κ n (differ (own h) n k)
  away (joined d e) κ n k = away e (with_procedures (declarations_apart s d) κ) n k.1 ∙ away d κ n k.0

  free_away : (d : Declarations) (κ : Kinds) (l : ℕ) → ApartFrom d l → LineFree κ l → LineFree (with_procedures (declarations_apart s d) κ) l
  free_away d κ l k h = (
    away d κ (own l) (no_head_own d l k) ∙ h.0,
    away d κ (own_value l) (no_head d (own_value l) (λ g. omega arith)) ∙ h.1,
    away d κ (own_variable l) (no_head d (own_variable l) (λ g. omega arith)) ∙ h.2,
  )

  unused_apart : (d : Declarations) (κ : Kinds) → Each (LineFree κ) (declaring_lines_of d) → Unused κ (declarations_apart s d)
  unused_apart (procedure h q x y b) κ e = e.0.0
  unused_apart (joined d c) κ e = (unused_apart d κ (each_left (LineFree κ) (declaring_lines_of d) (declaring_lines_of c) e), unused_apart c κ (each_right (LineFree κ) (declaring_lines_of d) (declaring_lines_of c) e))

  -- a kind that the text has already is not changed by a system of unused names; a procedure stays one in any case
  still_system : (d : Declarations) (κ κ₁ : Kinds) (j : Kind) → ¬ (j ≡ unused) → Unused κ₁ (declarations_apart s d) → (z : ℕ) → κ₁ z ≡ j → κ z ≡ j
      → with_procedures (declarations_apart s d) κ z ≡ j
  still_system (procedure h q x y b) κ κ₁ j n u z e₁ e = there (own h) a_procedure κ z (differ (own h) z (λ p. n (sym e₁ ∙ ap κ₁ (sym p) ∙ u))) ∙ e
  still_system (joined d c) κ κ₁ j n u z e₁ e =
      still_system c (with_procedures (declarations_apart s d) κ) κ₁ j n u.1 z e₁ (still_system d κ κ₁ j n u.0 z e₁ e)

  still_procedure : (d : Declarations) (κ : Kinds) (z : ℕ) → κ z ≡ a_procedure → with_procedures (declarations_apart s d) κ z ≡ a_procedure
  still_procedure (procedure h q x y b) κ z e = go (same_or_not (own h) z)
    where
      go : (own h ≡ z) ⊎ (eqb (own h) z ≡ false) → only (own h) a_procedure κ z ≡ a_procedure
      go (inl p) = ap (only (own h) a_procedure κ) (sym p) ∙ here (own h) a_procedure κ
      go (inr f) = there (own h) a_procedure κ z f ∙ e
  still_procedure (joined d c) κ z e = still_procedure c (with_procedures (declarations_apart s d) κ) z (still_procedure d κ z e)

  procs_fit : (d : Declarations) (κ : Kinds) (t : Scope) → Each (λ p. κ p.1 ≡ a_procedure) t.procs
      → Each (λ p. with_procedures (declarations_apart s d) κ p.1 ≡ a_procedure) (with_procs d t).procs
  procs_fit (procedure h q x y b) κ t e = (
    here (own h) a_procedure κ,
    each_map (λ p. κ p.1 ≡ a_procedure) (λ p. only (own h) a_procedure κ p.1 ≡ a_procedure)
        (λ p. still_procedure (procedure h q x y b) κ p.1) t.procs e,
  )
  procs_fit (joined d c) κ t e = procs_fit c (with_procedures (declarations_apart s d) κ) (with_procs d t) (procs_fit d κ t e)

procs_simples : (d : Declarations) (s : Scope) → (with_procs d s).simples ≡ s.simples
procs_simples (procedure h q x y b) s = refl
procs_simples (joined d c) s = procs_simples c (with_procs d s) ∙ procs_simples d s

procs_arrays : (d : Declarations) (s : Scope) → (with_procs d s).arrays ≡ s.arrays
procs_arrays (procedure h q x y b) s = refl
procs_arrays (joined d c) s = procs_arrays c (with_procs d s) ∙ procs_arrays d s

fits_system : (d : Declarations) (κ : Kinds) (s t : Scope) → Unused κ (declarations_apart t d) → Fits κ s → Fits (with_procedures (declarations_apart t d) κ) (with_procs d s)
fits_system d κ s t u f = record {
  simples = subst (Each (λ p. with_procedures (declarations_apart t d) κ p.1 ≡ a_simple)) (sym (procs_simples d s))
      (each_map (λ p. κ p.1 ≡ a_simple) (λ p. with_procedures (declarations_apart t d) κ p.1 ≡ a_simple)
      (λ p e. still_system t d κ κ a_simple (unlike (omega arith)) u p.1 e e) s.simples f.simples);
  arrays = subst (Each (λ p. with_procedures (declarations_apart t d) κ p.1 ≡ an_array)) (sym (procs_arrays d s))
      (each_map (λ p. κ p.1 ≡ an_array) (λ p. with_procedures (declarations_apart t d) κ p.1 ≡ an_array)
      (λ p e. still_system t d κ κ an_array (unlike (omega arith)) u p.1 e e) s.arrays f.arrays);
  procs = procs_fit t d κ s f.procs;
}

-- the formals and the bodies of a system's procedures are yet to be declared
abbrev DeclFree : Kinds → Declarations → Type 0
DeclFree κ (procedure l q x y s) = (κ (own_value l) ≡ unused) × (κ (own_variable l) ≡ unused) × Each (LineFree κ) (declaring_lines s)
DeclFree κ (joined d e) = DeclFree κ d × DeclFree κ e

decl_free : (t : Scope) (κ : Kinds) (D d : Declarations) → Each (LineFree κ) (declaring_lines_of d) → Bodies (ApartFrom D) d → DeclFree (with_procedures (declarations_apart t D) κ) d
decl_free t κ D (procedure l q x y s) e b = (
  away t D κ (own_value l) (no_head D (own_value l) (λ g. omega arith)) ∙ e.0.1,
  away t D κ (own_variable l) (no_head D (own_variable l) (λ g. omega arith)) ∙ e.0.2,
  each_zip (ApartFrom D) (LineFree κ) (LineFree (with_procedures (declarations_apart t D) κ)) (λ l. free_away t D κ l) (declaring_lines s) b e.1,
)
decl_free t κ D (joined d c) e b =
    (decl_free t κ D d (each_left (LineFree κ) (declaring_lines_of d) (declaring_lines_of c) e) b.0, decl_free t κ D c (each_right (LineFree κ) (declaring_lines_of d) (declaring_lines_of c) e) b.1)

mutual
  pub fine_apart : (t : Statement) (s : Scope) (κ : Kinds) → Fits κ s → Scoped s t → EachOnce (declaring_lines t) → Each (LineFree κ) (declaring_lines t) → Fine κ (statement_apart s t)
  fine_apart (assign l p e) s κ f h o u = (fine_place s κ f p h.0, fine_expression s κ f e h.1)
  fine_apart (both l a b) s κ f h o u = (
    fine_apart a s κ f h.0 (once_left (declaring_lines a) (declaring_lines b) o) (each_left (LineFree κ) (declaring_lines a) (declaring_lines b) u),
    fine_apart b s κ f h.1 (once_right (declaring_lines a) (declaring_lines b) o) (each_right (LineFree κ) (declaring_lines a) (declaring_lines b) u),
  )
  fine_apart (branch l c a b) s κ f h o u = (
    fine_condition s κ f c h.0,
    fine_apart a s κ f h.1 (once_left (declaring_lines a) (declaring_lines b) o) (each_left (LineFree κ) (declaring_lines a) (declaring_lines b) u),
    fine_apart b s κ f h.2 (once_right (declaring_lines a) (declaring_lines b) o) (each_right (LineFree κ) (declaring_lines a) (declaring_lines b) u),
  )
  fine_apart (call l q e p) s κ f h o u = (found_kind κ a_procedure s.procs q f.procs h.0, fine_expression s κ f e h.1, fine_place s κ f p h.2)
  fine_apart (new_simple l x a) s κ f h o u = (
    u.0.0,
    fine_apart a (with_simple x (own l) s) (only (own l) a_simple κ) (fits_simple κ s x (own l) u.0.0 f) h o.1
        (each_zip (Differs l) (LineFree κ) (LineFree (only (own l) a_simple κ))
        (λ m n k. still_free κ (own l) a_simple u.0.0 m (λ e. n (omega arith)) (omega arith) (omega arith) k) (declaring_lines a) o.0 u.1),
  )
  fine_apart (new_array l x n a) s κ f h o u = (
    u.0.0,
    fine_apart a (with_array x (own l) s) (only (own l) an_array κ) (fits_array κ s x (own l) u.0.0 f) h o.1
        (each_zip (Differs l) (LineFree κ) (LineFree (only (own l) an_array κ))
        (λ m n k. still_free κ (own l) an_array u.0.0 m (λ e. n (omega arith)) (omega arith) (omega arith) k) (declaring_lines a) o.0 u.1),
  )
  fine_apart (system l d a) s κ f h o u =
      let s' = with_procs d s in
      let κ' = with_procedures (declarations_apart s' d) κ in
      let ud = each_left (LineFree κ) (declaring_lines_of d) (declaring_lines a) u in
      let v = unused_apart s' d κ ud in
      let f' = fits_system d κ s s' v f in (
        v,
        fine_declarations d s' κ' f' h.0 (once_left (declaring_lines_of d) (declaring_lines a) o)
            (decl_free s' κ d d ud (bodies_apart d (once_left (declaring_lines_of d) (declaring_lines a) o))),
        fine_apart a s' κ' f' h.1 (once_right (declaring_lines_of d) (declaring_lines a) o)
            (each_zip (ApartFrom d) (LineFree κ) (LineFree κ') (λ m. free_away s' d κ m) (declaring_lines a)
            (each_apart d (declaring_lines a) (once_cross (declaring_lines_of d) (declaring_lines a) o)) (each_right (LineFree κ) (declaring_lines_of d) (declaring_lines a) u)),
      )

  fine_declarations : (d : Declarations) (s : Scope) (κ : Kinds) → Fits κ s → ScopedDeclarations s d → EachOnce (declaring_lines_of d) → DeclFree κ d
      → FineDeclarations κ (declarations_apart s d)
  fine_declarations (procedure l q x y b) s κ f h o u =
      let w : only (own_value l) a_simple κ (own_variable l) ≡ unused = there (own_value l) a_simple κ (own_variable l) (differ (own_value l) (own_variable l) (omega arith)) ∙ u.1 in (
        u.0,
        w,
        fine_apart b (with_simple y (own_variable l) (with_simple x (own_value l) s)) (with_formals (own_value l) (own_variable l) κ)
            (fits_simple (only (own_value l) a_simple κ) (with_simple x (own_value l) s) y (own_variable l) w (fits_simple κ s x (own_value l) u.0 f)) h o.1
            (each_zip (Differs l) (LineFree κ) (LineFree (with_formals (own_value l) (own_variable l) κ))
            (λ m n k. still_free (only (own_value l) a_simple κ) (own_variable l) a_simple w m (omega arith) (omega arith) (λ e. n (omega arith))
            (still_free κ (own_value l) a_simple u.0 m (omega arith) (λ e. n (omega arith)) (omega arith) k)) (declaring_lines b) o.0 u.2),
      )
  fine_declarations (joined d c) s κ f h o u =
      (fine_declarations d s κ f h.0 (once_left (declaring_lines_of d) (declaring_lines_of c) o) u.0, fine_declarations c s κ f h.1 (once_right (declaring_lines_of d) (declaring_lines_of c) o) u.1)

-- the globals before line n
record Before (n : ℕ) (g : Globals) : Type 0 where
  simples : Each (λ p. (start_kind (g.names p.1) ≡ a_simple) × (p.1 < own n)) g.scope.simples
  arrays : Each (λ p. (start_kind (g.names p.1) ≡ an_array) × (p.1 < own n)) g.scope.arrays
  procs : Each (λ p. ⊥) g.scope.procs
  rest : (l : ℕ) → n ≤ l → (g.names (own l) ≡ nothing) × (g.names (own_value l) ≡ nothing) × (g.names (own_variable l) ≡ nothing)

module _ (n : ℕ) (st : Standing) (G : Names) where
  older : (k : Kind) (ps : List (ℕ × ℕ)) → Each (λ p. (start_kind (G p.1) ≡ k) × (p.1 < own n)) ps
      → Each (λ p. (start_kind (only (own n) st G p.1) ≡ k) × (p.1 < own (suc n))) ps
  older k = each_map (λ p. (start_kind (G p.1) ≡ k) × (p.1 < own n)) (λ p. (start_kind (only (own n) st G p.1) ≡ k) × (p.1 < own (suc n)))
      (λ p h. let l = h.1 in (ap start_kind (there (own n) st G p.1 (differ (own n) p.1 (omega arith))) ∙ h.0, omega arith))

  later : ((l : ℕ) → n ≤ l → (G (own l) ≡ nothing) × (G (own_value l) ≡ nothing) × (G (own_variable l) ≡ nothing)) → (l : ℕ) → suc n ≤ l
      → (only (own n) st G (own l) ≡ nothing) × (only (own n) st G (own_value l) ≡ nothing) × (only (own n) st G (own_variable l) ≡ nothing)
  later h l k =
      let e = h l (omega arith) in (
        there (own n) st G (own l) (differ (own n) (own l) (omega arith)) ∙ e.0,
        there (own n) st G (own_value l) (differ (own n) (own_value l) (omega arith)) ∙ e.1,
        there (own n) st G (own_variable l) (differ (own n) (own_variable l) (omega arith)) ∙ e.2,
      )

one_global : (n a b : ℕ) (g : Globals) → Before n g → Before (suc n) (global_of n a b g)
one_global n a zero g i = record {
  simples = ((ap start_kind (here (own n) (cell g.taken) g.names), omega arith), older n (cell g.taken) g.names a_simple g.scope.simples i.simples);
  arrays = older n (cell g.taken) g.names an_array g.scope.arrays i.arrays;
  procs = i.procs;
  rest = later n (cell g.taken) g.names i.rest;
}
one_global n a (suc b) g i = record {
  simples = older n (cells g.taken (suc b)) g.names a_simple g.scope.simples i.simples;
  arrays = ((ap start_kind (here (own n) (cells g.taken (suc b)) g.names), omega arith), older n (cells g.taken (suc b)) g.names an_array g.scope.arrays i.arrays);
  procs = i.procs;
  rest = later n (cells g.taken (suc b)) g.names i.rest;
}

globals_kept : (n : ℕ) (ps : List (ℕ × ℕ)) (g : Globals) → Before n g → Before (n + length ps) (globals_from n ps g)
globals_kept n [] g i = let e : n ≡ n + 0 = omega arith in subst (λ k. Before k g) e i
globals_kept n (p ∷ ps) g i =
    let h = global_of n p.0 p.1 g in
    let e : suc n + length ps ≡ n + suc (length ps) = omega arith in
    subst (λ k. Before k (globals_from (suc n) ps h)) e (globals_kept (suc n) ps h (one_global n p.0 p.1 g i))

below_kind : (G : Names) (f x : ℕ) → x < f → start_kinds G f x ≡ start_kind (G x)
below_kind G f x h = go (leb f x) (λ t. leb→le f x t)
  where
    go : (b : Bool) → (T b → f ≤ x) → elim b [ true ↦ beyond | false ↦ start_kind (G x) ] ≡ start_kind (G x)
    go true k = let l = k tt in absurd (omega arith)
    go false k = refl

module _ (n : ℕ) (g : Globals) (i : Before n g) (few : n ≤ 2049) (f : ℕ) (above : first_fresh ≤ f) where
  start_each : (k : Kind) (ps : List (ℕ × ℕ)) → Each (λ p. (start_kind (g.names p.1) ≡ k) × (p.1 < own n)) ps
      → Each (λ p. start_kinds g.names f p.1 ≡ k) ps
  start_each k = each_map (λ p. (start_kind (g.names p.1) ≡ k) × (p.1 < own n)) (λ p. start_kinds g.names f p.1 ≡ k)
      (λ p h. let l = h.1 in below_kind g.names f p.1 (omega arith) ∙ h.0)

  start_fits : Fits (start_kinds g.names f) g.scope
  start_fits = record {
    simples = start_each a_simple g.scope.simples i.simples;
    arrays = start_each an_array g.scope.arrays i.arrays;
    procs = each_map (λ p. ⊥) (λ p. start_kinds g.names f p.1 ≡ a_procedure) (λ p h. absurd h) g.scope.procs i.procs;
  }

  start_free : (l : ℕ) → (n ≤ l) × (l < 2049) → LineFree (start_kinds g.names f) l
  start_free l h =
      let a = h.1 in let e = i.rest l h.0 in (
        below_kind g.names f (own l) (omega arith) ∙ ap start_kind e.0,
        below_kind g.names f (own_value l) (omega arith) ∙ ap start_kind e.1,
        below_kind g.names f (own_variable l) (omega arith) ∙ ap start_kind e.2,
      )

-- what the globals are is all that a text's names start from
module _ (n : ℕ) (g : Globals) (i : Before n g) where
  global_each : (k : Kind) (ps : List (ℕ × ℕ)) → Each (λ p. (start_kind (g.names p.1) ≡ k) × (p.1 < own n)) ps → Each (λ p. start_kind (g.names p.1) ≡ k) ps
  global_each k = each_map (λ p. (start_kind (g.names p.1) ≡ k) × (p.1 < own n)) (λ p. start_kind (g.names p.1) ≡ k) (λ p h. h.0)

  global_fits : Fits (λ x. start_kind (g.names x)) g.scope
  global_fits = record {
    simples = global_each a_simple g.scope.simples i.simples;
    arrays = global_each an_array g.scope.arrays i.arrays;
    procs = each_map (λ p. ⊥) (λ p. start_kind (g.names p.1) ≡ a_procedure) (λ p h. absurd h) g.scope.procs i.procs;
  }

  global_free : (l : ℕ) → n ≤ l → LineFree (λ x. start_kind (g.names x)) l
  global_free l h = let e = i.rest l h in (ap start_kind e.0, ap start_kind e.1, ap start_kind e.2)

before_text : (ls : List Line) → Before (past_globals ls) (globals_of ls)
before_text ls =
    let e : 1 + length (heads ls) ≡ past_globals ls = omega arith in
    subst (λ k. Before k (globals_of ls)) e (globals_kept 1 (heads ls) no_globals (record { simples = tt; arrays = tt; procs = tt; rest = λ l h. (refl, refl, refl) }))

pub fine_by_globals : (ls : List Line) (t : Statement) → Scoped (globals_of ls).scope t → EachOnce (declaring_lines t) → Each (λ l. past_globals ls ≤ l) (declaring_lines t)
    → Fine (λ x. start_kind ((globals_of ls).names x)) (statement_apart (globals_of ls).scope t)
fine_by_globals ls t scoped once placed =
    let g = globals_of ls in
    let i = before_text ls in
    let κ : Kinds = λ x. start_kind (g.names x) in
    fine_apart t g.scope κ (global_fits (past_globals ls) g i) scoped once
    (each_map (λ l. past_globals ls ≤ l) (LineFree κ) (global_free (past_globals ls) g i) (declaring_lines t) placed)

-- where its fresh names start at f, above those that the sheet has for its own, a text's names are in order
fine_from : (ls : List Line) (t : Statement) → past_globals ls ≤ 2049 → Scoped (globals_of ls).scope t → EachOnce (declaring_lines t)
    → Each (λ l. (past_globals ls ≤ l) × (l < 2049)) (declaring_lines t) → (f : ℕ) → first_fresh ≤ f
    → Fine (start_kinds (globals_of ls).names f) (statement_apart (globals_of ls).scope t)
fine_from ls t few scoped once placed f above =
    fine_apart t g.scope (start_kinds g.names f) (start_fits (past_globals ls) g i few f above) scoped once
    (each_map (λ l. (past_globals ls ≤ l) × (l < 2049)) (LineFree (start_kinds g.names f)) (start_free (past_globals ls) g i few f above) (declaring_lines t) placed)
  where
    g : Globals
    g = globals_of ls

    i : Before (past_globals ls) g
    i = before_text ls

pub fine_told : (ls : List Line) (t : Statement) → past_globals ls ≤ 2049 → Scoped (globals_of ls).scope t → EachOnce (declaring_lines t)
    → Each (λ l. (past_globals ls ≤ l) × (l < 2049)) (declaring_lines t)
    → Fine (start_kinds (globals_of ls).names first_fresh) (statement_apart (globals_of ls).scope t)
fine_told ls t few scoped once placed = fine_from ls t few scoped once placed first_fresh (le_refl first_fresh)

pub told_agrees : ToldAgrees
told_agrees K size fetch ls t few scoped once placed fresh above n level used σ =
    machine_agrees K size fetch (record { names = (globals_of ls).names; fresh = fresh; store = σ })
    (statement_apart (globals_of ls).scope t) (fine_from ls t few scoped once placed fresh above) n level used
