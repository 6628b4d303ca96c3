-- A script's run has no fault but those known: its names are in order, so each stands for what it is used as.
use Rattle.std.proofs.Common.{◌≡◌, ℕ, zero, suc, ◌+◌, ◌<◌, ◌≤◌, Bool, true, false, eqb, List, [], ◌∷◌, ◌++◌, nat_le, nat_lt, ◌⊎◌, inl, inr, Some, None, Ok, Err, Option, Result, sym, refl, ap, ◌∙◌, subst, arith}
use Rattle.std.proofs.lemmas.Bool.{cases_eq}
use Rattle.kinds.specs.Arithmetic.{Arithmetic}
use Rattle.kinds.specs.declared.fault.ArithmeticFault.{ArithmeticFault}
use Rattle.kinds.specs.declared.fault.ArithmeticFault.TheVariants as Arithmetic
use Rattle.lines.specs.declared.sorts.Operator.{Operator}
use Rattle.lines.specs.declared.sorts.Operator.TheVariants.{Plus, Minus, Times, Over}
use Rattle.script.specs.Script.{Place, simple, element, fixed, Expression, constant, word_of, work, choose, Condition, truth, compared, negated, implies}
use Rattle.script.specs.Script.{Statement, assign, both, branch, call, new_simple, new_array, system, Declarations, procedure, joined, only}
use Rattle.script.specs.Names.{Names, Standing, nothing, cell, cells, code}
use Rattle.script.specs.Lists.{Each}
use Rattle.script.specs.Apart.{first_fresh, globals_of}
use Rattle.script.proofs.Declared.{lines_once, lines_within}
use Rattle.script.proofs.Globals.{past_bound}
use Rattle.script.proofs.Lists.{each_append}
use Rattle.rule.specs.Work.{Work, gives, faults, next, of_kind}
use Rattle.rule.specs.Values.{cell_of, within, element_of, indexed, operate, cell_at, value, holds}
use Rattle.rule.specs.Fine.{Kind, a_simple, an_array, a_procedure, beyond, Kinds, with_procedures, with_formals, FinePlace, FineExpression, FineCondition, Fine, FineDeclarations, start_kind, start_kinds}
use Rattle.rule.specs.Rewriting.{Ending, finished, stopped, fault, Halt}
use Rattle.rule.specs.Machine.{Env, outside, simple_in, array_in, system_in, Found, unknown, closure, among, procedure_at, standing, Item, Moved, moves, refuses, tried, deeper, enters, move, machine}
use Rattle.rule.specs.Closing.{Closing, own_fetch, own_room, first_items, program_of, situation}
use Rattle.rule.proofs.Accepted.{accepted_agrees}
use Rattle.rule.proofs.Count.{closes_so, halt_at}
use Rattle.rule.proofs.InOrder.{fine_told}
use Rattle.rule.proofs.Matching.{starts, unlike}
use Rattle.rule.proofs.Resume.{onward, runs_on}
use Rattle.faults.specs.Endings.{ending_of, fault_numbered, in_rule}
use Rattle.faults.specs.Faults.{number_of}
use Rattle.faults.specs.Known.{KnownFault, KnownEnding, ClosingsKnown}

-- ## Values

abbrev pub KnownWork : {A : Type 0} → Work A → Type 0
KnownWork (gives a) = Unit {0}
KnownWork (faults n) = KnownFault n

next_known : {A B : Type 0} (w : Work A) (f : A → Work B) → KnownWork w → ((a : A) → KnownWork (f a)) → KnownWork (next w f)
next_known (gives a) f h k = k a
next_known (faults n) f h k = h

result_known : (r : Result ℕ ArithmeticFault) → KnownWork (of_kind r)
result_known (Ok w) = tt
result_known (Err Arithmetic.OutOfRange) = (omega arith, omega arith)
result_known (Err Arithmetic.ZeroDivisor) = (omega arith, omega arith)

operate_known : (K : Arithmetic) (o : Operator) (v w : ℕ) → KnownWork (operate K o v w)
operate_known K Plus v w = result_known (K.sum v w)
operate_known K Minus v w = result_known (K.difference v w)
operate_known K Times v w = result_known (K.product v w)
operate_known K Over v w = result_known (K.quotient v w)

indexed_known : (o : Option ℕ) → KnownWork (indexed o)
indexed_known None = (omega arith, omega arith)
indexed_known (Some i) = tt

within_known : (b n i : ℕ) → KnownWork (within b n i)
within_known b n i = go (nat_lt i n)
  where
    go : (t : Bool) → KnownWork (elim t [ true ↦ gives (b + i) | false ↦ faults 23 ])
    go true = tt
    go false = (omega arith, omega arith)

-- names that stand for what they are used as
pub record InOrder (κ : Kinds) (E : Names) : Type 0 where
  pub simples : (x : ℕ) → κ x ≡ a_simple → (c : ℕ) × (E x ≡ cell c)
  pub arrays : (a : ℕ) → κ a ≡ an_array → (b : ℕ) × (n : ℕ) × (E a ≡ cells b n)

module _ (K : Arithmetic) (κ : Kinds) (E : Names) (o : InOrder κ E) (fetch : ℕ → Work ℕ) (reads : (c : ℕ) → KnownWork (fetch c)) where
  mutual
    pub place_known : (p : Place) → FinePlace κ p → KnownWork (cell_at K E fetch p)
    place_known (simple x) h = let s = o.simples x h in subst (λ (t : Standing). KnownWork (cell_of t)) (sym s.1) tt
    place_known (element a i) h =
        let s = o.arrays a h.0 in
        next_known (value K E fetch i) _ (value_known i h.1)
        (λ w. next_known (indexed (K.index w)) (element_of (E a)) (indexed_known (K.index w))
        (λ n. subst (λ (t : Standing). KnownWork (element_of t n)) (sym s.2) (within_known s.0 s.1 n)))
    place_known (fixed a i) h = absurd h

    pub value_known : (e : Expression) → FineExpression κ e → KnownWork (value K E fetch e)
    value_known (constant n) h = tt
    value_known (word_of p) h = next_known (cell_at K E fetch p) fetch (place_known p h) reads
    value_known (work u a b) h =
        next_known (value K E fetch a) _ (value_known a h.0) (λ v. next_known (value K E fetch b) (operate K u v) (value_known b h.1) (λ w. operate_known K u v w))
    value_known (choose c a b) h =
        next_known (holds K E fetch c) _ (truth_known c h.0) (λ t. go t (value_known a h.1) (value_known b h.2))
      where
        go : (t : Bool) → KnownWork (value K E fetch a) → KnownWork (value K E fetch b) → KnownWork (elim t [ true ↦ value K E fetch a | false ↦ value K E fetch b ])
        go true x y = x
        go false x y = y

    pub truth_known : (c : Condition) → FineCondition κ c → KnownWork (holds K E fetch c)
    truth_known (truth b) h = tt
    truth_known (compared r a b) h = next_known (value K E fetch a) _ (value_known a h.0) (λ v. next_known (value K E fetch b) _ (value_known b h.1) (λ w. tt))
    truth_known (negated c) h = next_known (holds K E fetch c) _ (truth_known c h) (λ t. tt)
    truth_known (implies c d) h = next_known (holds K E fetch c) _ (truth_known c h.0) (λ t. next_known (holds K E fetch d) _ (truth_known d h.1) (λ u. tt))

-- ## Environments

only_other : (x : ℕ) (k k' : Kind) → ¬ (k ≡ k') → (κ : Kinds) (z : ℕ) → only x k κ z ≡ k' → (eqb x z ≡ false) × (κ z ≡ k')
only_other x k k' h κ z e = go (eqb x z) refl e
  where
    go : (b : Bool) → eqb x z ≡ b → elim b [ true ↦ k | false ↦ κ z ] ≡ k' → (eqb x z ≡ false) × (κ z ≡ k')
    go true q e = absurd (h e)
    go false q e = (q, e)

procedures_other : (k : Kind) → ¬ (a_procedure ≡ k) → (d : Declarations) (κ : Kinds) (z : ℕ) → with_procedures d κ z ≡ k → κ z ≡ k
procedures_other k h (procedure l q x y s) κ z e = (only_other q a_procedure k h κ z e).1
procedures_other k h (joined d f) κ z e = procedures_other k h d κ z (procedures_other k h f (with_procedures d κ) z e)

first_arrays : (G : Names) (f a : ℕ) → start_kinds G f a ≡ an_array → (b : ℕ) × (n : ℕ) × (G a ≡ cells b n)
first_arrays G f a = go (nat_le f a) (G a)
  where
    go : (t : Bool) (s : Standing) → elim t [ true ↦ beyond | false ↦ start_kind s ] ≡ an_array → (b : ℕ) × (n : ℕ) × (s ≡ cells b n)
    go true s e = absurd (unlike (omega arith) e)
    go false nothing e = absurd (unlike (omega arith) e)
    go false (cell c) e = absurd (unlike (omega arith) e)
    go false (cells b n) e = (b, n, refl)
    go false (code x y s) e = absurd (unlike (omega arith) e)

module _ (G : Names) (f : ℕ) where
  -- the kinds that names have in an environment
  abbrev pub kinds_in : Env → Kinds
  kinds_in outside = start_kinds G f
  kinds_in (simple_in x c ρ) = only x a_simple (kinds_in ρ)
  kinds_in (array_in a b n ρ) = only a an_array (kinds_in ρ)
  kinds_in (system_in d ρ) = with_procedures d (kinds_in ρ)

  -- the bodies of its procedures have names in order
  abbrev pub FineEnv : Env → Type 0
  FineEnv outside = Unit {0}
  FineEnv (simple_in x c ρ) = FineEnv ρ
  FineEnv (array_in a b n ρ) = FineEnv ρ
  FineEnv (system_in d ρ) = FineEnv ρ × FineDeclarations (kinds_in (system_in d ρ)) d

  abbrev pub FineFound : Found → Type 0
  FineFound unknown = ⊥
  FineFound (closure x y s ρ) = FineEnv ρ × Fine (with_formals x y (kinds_in ρ)) s

  simple_stands : (ρ : Env) (z : ℕ) → kinds_in ρ z ≡ a_simple → (c : ℕ) × (standing G ρ z ≡ cell c)
  simple_stands outside z e = (starts G f).simples z e
  simple_stands (simple_in x c ρ) z e = go (eqb x z) (simple_stands ρ z) e
    where
      go : (t : Bool) → (kinds_in ρ z ≡ a_simple → (n : ℕ) × (standing G ρ z ≡ cell n)) → elim t [ true ↦ a_simple | false ↦ kinds_in ρ z ] ≡ a_simple
          → (n : ℕ) × (elim t [ true ↦ cell c | false ↦ standing G ρ z ] ≡ cell n)
      go true h e = (c, refl)
      go false h e = h e
  simple_stands (array_in a b n ρ) z e = go (eqb a z) (simple_stands ρ z) e
    where
      go : (t : Bool) → (kinds_in ρ z ≡ a_simple → (m : ℕ) × (standing G ρ z ≡ cell m)) → elim t [ true ↦ an_array | false ↦ kinds_in ρ z ] ≡ a_simple
          → (m : ℕ) × (elim t [ true ↦ cells b n | false ↦ standing G ρ z ] ≡ cell m)
      go true h e = absurd (unlike (omega arith) e)
      go false h e = h e
  simple_stands (system_in d ρ) z e = simple_stands ρ z (procedures_other a_simple (unlike (omega arith)) d (kinds_in ρ) z e)

  array_stands : (ρ : Env) (z : ℕ) → kinds_in ρ z ≡ an_array → (b : ℕ) × (n : ℕ) × (standing G ρ z ≡ cells b n)
  array_stands outside z e = first_arrays G f z e
  array_stands (simple_in x c ρ) z e = go (eqb x z) (array_stands ρ z) e
    where
      go : (t : Bool) → (kinds_in ρ z ≡ an_array → (b : ℕ) × (n : ℕ) × (standing G ρ z ≡ cells b n)) → elim t [ true ↦ a_simple | false ↦ kinds_in ρ z ] ≡ an_array
          → (b : ℕ) × (n : ℕ) × (elim t [ true ↦ cell c | false ↦ standing G ρ z ] ≡ cells b n)
      go true h e = absurd (unlike (omega arith) e)
      go false h e = h e
  array_stands (array_in a i j ρ) z e = go (eqb a z) (array_stands ρ z) e
    where
      go : (t : Bool) → (kinds_in ρ z ≡ an_array → (b : ℕ) × (n : ℕ) × (standing G ρ z ≡ cells b n)) → elim t [ true ↦ an_array | false ↦ kinds_in ρ z ] ≡ an_array
          → (b : ℕ) × (n : ℕ) × (elim t [ true ↦ cells i j | false ↦ standing G ρ z ] ≡ cells b n)
      go true h e = (i, j, refl)
      go false h e = h e
  array_stands (system_in d ρ) z e = array_stands ρ z (procedures_other an_array (unlike (omega arith)) d (kinds_in ρ) z e)

  in_order : (ρ : Env) → InOrder (kinds_in ρ) (standing G ρ)
  in_order ρ = record { simples = simple_stands ρ; arrays = array_stands ρ }

  among_fine : (d : Declarations) (ρ : Env) (κ : Kinds) (g : ℕ → Found) → FineEnv ρ → FineDeclarations (kinds_in ρ) d
      → ((q : ℕ) → κ q ≡ a_procedure → FineFound (g q)) → (q : ℕ) → with_procedures d κ q ≡ a_procedure → FineFound (among d ρ g q)
  among_fine (procedure l p x y s) ρ κ g v h k q = go (eqb p q)
    where
      go : (t : Bool) → elim t [ true ↦ a_procedure | false ↦ κ q ] ≡ a_procedure → FineFound (elim t [ true ↦ closure x y s ρ | false ↦ g q ])
      go true e = (v, h.2)
      go false e = k q e
  among_fine (joined d e) ρ κ g v h k q = among_fine e ρ (with_procedures d κ) (among d ρ g) v h.1 (among_fine d ρ κ g v h.0 k) q

  found_fine : (ρ : Env) → FineEnv ρ → (q : ℕ) → kinds_in ρ q ≡ a_procedure → FineFound (procedure_at ρ q)
  found_fine outside v q e = absurd ((starts G f).procedures q e)
  found_fine (simple_in x c ρ) v q e = found_fine ρ v q (only_other x a_simple a_procedure (unlike (omega arith)) (kinds_in ρ) q e).1
  found_fine (array_in a b n ρ) v q e = found_fine ρ v q (only_other a an_array a_procedure (unlike (omega arith)) (kinds_in ρ) q e).1
  found_fine (system_in d ρ) v q e = among_fine d (system_in d ρ) (kinds_in ρ) (procedure_at ρ) v v.1 (found_fine ρ v.0) q e

  -- ## Statements

  abbrev pub FineItem : Item → Type 0
  FineItem p = FineEnv p.env × Fine (kinds_in p.env) p.text

  abbrev pub KnownMoved : Moved → Type 0
  KnownMoved (moves qs σ) = Each FineItem qs
  KnownMoved (refuses n l σ) = KnownFault n

  tried_known : {A : Type 0} (l : ℕ) (σ : List ℕ) (w : Work A) (g : A → Moved) → KnownWork w → ((a : A) → KnownMoved (g a)) → KnownMoved (tried l σ w g)
  tried_known l σ (gives a) g h k = k a
  tried_known l σ (faults n) g h k = h

  deeper_known : (size line level used more : ℕ) (σ : List ℕ) (m : Moved) → KnownMoved m → KnownMoved (deeper size line level used more σ m)
  deeper_known size line level used more σ m h = go (nat_lt level 512) (nat_le (used + more) size)
    where
      go : (t u : Bool) → KnownMoved (elim t [ true ↦ elim u [ true ↦ m | false ↦ refuses 25 line σ ] | false ↦ refuses 24 line σ ])
      go true true = h
      go true false = (omega arith, omega arith)
      go false u = (omega arith, omega arith)

  module _ (K : Arithmetic) (size : ℕ) where
    reads : (σ : List ℕ) (c : ℕ) → KnownWork (own_fetch σ c)
    reads σ c = tt

    enters_known : (d : Found) → FineFound d → (l level used : ℕ) (σ : List ℕ) (w c : ℕ) → KnownMoved (enters K size own_fetch own_room G d l level used σ w c)
    enters_known unknown h l level used σ w c = absurd h
    enters_known (closure x y s ρ) h l level used σ w c = deeper_known size l level used 1 σ _ (h, tt)

    chosen : (κ : Kinds) (s t : Statement) (b : Bool) → Fine κ s → Fine κ t → Fine κ (elim b [ true ↦ s | false ↦ t ])
    chosen κ s t true h k = h
    chosen κ s t false h k = k

    move_known : (t : Statement) (level used : ℕ) (ρ : Env) (σ : List ℕ) → FineEnv ρ → Fine (kinds_in ρ) t → KnownMoved (move K size own_fetch own_room G t level used ρ σ)
    move_known (assign l p e) level used ρ σ v h =
        tried_known l σ (value K (standing G ρ) (own_fetch σ) e) _ (value_known K (kinds_in ρ) (standing G ρ) (in_order ρ) (own_fetch σ) (reads σ) e h.1)
        (λ w. tried_known l σ (cell_at K (standing G ρ) (own_fetch σ) p) _ (place_known K (kinds_in ρ) (standing G ρ) (in_order ρ) (own_fetch σ) (reads σ) p h.0) (λ c. tt))
    move_known (both l s t) level used ρ σ v h = deeper_known size l level used 0 σ _ ((v, h.0), ((v, h.1), tt))
    move_known (branch l c s t) level used ρ σ v h =
        tried_known l σ (holds K (standing G ρ) (own_fetch σ) c) _ (truth_known K (kinds_in ρ) (standing G ρ) (in_order ρ) (own_fetch σ) (reads σ) c h.0)
        (λ b. ((v, chosen (kinds_in ρ) s t b h.1 h.2), tt))
    move_known (call l q e p) level used ρ σ v h =
        tried_known l σ (value K (standing G ρ) (own_fetch σ) e) _ (value_known K (kinds_in ρ) (standing G ρ) (in_order ρ) (own_fetch σ) (reads σ) e h.1)
        (λ w. tried_known l σ (cell_at K (standing G ρ) (own_fetch σ) p) _ (place_known K (kinds_in ρ) (standing G ρ) (in_order ρ) (own_fetch σ) (reads σ) p h.2)
        (λ c. enters_known (procedure_at ρ q) (found_fine ρ v q h.0) l level used σ w c))
    move_known (new_simple l x s) level used ρ σ v h = deeper_known size l level used 1 σ _ ((v, h.1), tt)
    move_known (new_array l a n s) level used ρ σ v h = deeper_known size l level used n σ _ ((v, h.1), tt)
    move_known (system l d s) level used ρ σ v h = deeper_known size l level used 0 σ _ (((v, h.1), h.2), tt)

    pub ends_known : (n : ℕ) (ps : List Item) (σ : List ℕ) → Each FineItem ps → KnownEnding (machine K size own_fetch own_room G n ps σ).ending
    ends_known zero [] σ h = tt
    ends_known zero (p ∷ ps) σ h = tt
    ends_known (suc n) [] σ h = tt
    ends_known (suc n) (p ∷ ps) σ h =
        subst (λ x. KnownEnding x.ending) (sym (runs_on K size own_fetch own_room G n p ps σ))
        (go (move K size own_fetch own_room G p.text p.level p.used p.env σ) (move_known p.text p.level p.used p.env σ h.0.0 h.0.1) (λ qs τ. ends_known n (qs ++ ps) τ))
      where
        go : (m : Moved) → KnownMoved m → ((qs : List Item) (τ : List ℕ) → Each FineItem (qs ++ ps) → KnownEnding (machine K size own_fetch own_room G n (qs ++ ps) τ).ending)
            → KnownEnding (onward K size own_fetch own_room G n ps m).ending
        go (moves qs τ) k ih = ih qs τ (each_append FineItem qs ps k h.1)
        go (refuses x l τ) k ih = k

-- ## Closings

pub told_known : (e : Ending) → KnownEnding e → in_rule (ending_of e) ≡ e
told_known finished h = refl
told_known stopped h = refl
told_known (fault n l) h = ap (λ k. fault k l) (numbered n h)
  where
    by_number : (n : ℕ) → (n ≡ 21) ⊎ ((n ≡ 22) ⊎ ((n ≡ 23) ⊎ ((n ≡ 24) ⊎ (n ≡ 25)))) → number_of (fault_numbered n) ≡ n
    by_number n (inl e) = subst (λ k. number_of (fault_numbered k) ≡ k) (sym e) refl
    by_number n (inr (inl e)) = subst (λ k. number_of (fault_numbered k) ≡ k) (sym e) refl
    by_number n (inr (inr (inl e))) = subst (λ k. number_of (fault_numbered k) ≡ k) (sym e) refl
    by_number n (inr (inr (inr (inl e)))) = subst (λ k. number_of (fault_numbered k) ≡ k) (sym e) refl
    by_number n (inr (inr (inr (inr e)))) = subst (λ k. number_of (fault_numbered k) ≡ k) (sym e) refl

    one_of : (n : ℕ) → KnownFault n → (n ≡ 21) ⊎ ((n ≡ 22) ⊎ ((n ≡ 23) ⊎ ((n ≡ 24) ⊎ (n ≡ 25))))
    one_of n h = elim (cases_eq n 21) [
      | inl e ↦ inl e
      | inr a ↦ elim (cases_eq n 22) [
        | inl e ↦ inr (inl e)
        | inr b ↦ elim (cases_eq n 23) [
          | inl e ↦ inr (inr (inl e))
          | inr c ↦ elim (cases_eq n 24) [
            | inl e ↦ inr (inr (inr (inl e)))
            | inr d ↦ inr (inr (inr (inr (let p : 21 ≤ n = h.0 in let q : n < 26 = h.1 in omega (arith, p, q, a, b, c, d)))))
          ]
        ]
      ]
    ]

    numbered : (n : ℕ) → KnownFault n → number_of (fault_numbered n) ≡ n
    numbered n h = by_number n (one_of n h)

pub closings_known : ClosingsKnown
closings_known K size low high ls few s g n c d =
    let G = (globals_of ls).names in
    let fine = fine_told ls s.text (let b = past_bound ls in omega (arith, b, few)) s.scoped (lines_once low high ls s) (lines_within low high ls s 2049 (omega (arith, few))) in
    let σ = (situation K (program_of ls s.text) size g).store in
    let ends = ends_known G first_fresh K size n (first_items (program_of ls s.text)) σ ((tt, fine), tt) in
    let same = ap (λ (h : Halt). h.ending) (accepted_agrees K size own_fetch low high ls few s n 0 (globals_of ls).taken σ) in
    let closing : c.ending ≡ (halt_at K (program_of ls s.text) size g n).ending = ap (λ (x : Closing). x.ending) (closes_so K (program_of ls s.text) size g n c d) in
    let known = subst KnownEnding (same ∙ sym closing) ends in
    (known, told_known c.ending known)
