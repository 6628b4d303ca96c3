-- A machine's environment and the copy rule's replacement, grown side by side.
use Rattle.std.proofs.Common.{◌≡◌, ℕ, ◌+◌, ◌<◌, ◌≤◌, Bool, true, false, T, eqb, leb, ◌⊎◌, sym, refl, ap, ◌∙◌, subst, subst₂, inl, inr, le_refl, arith, le→leb}
use Rattle.rule.specs.Work.{Work, gives, faults}
use Rattle.script.specs.Script.{Place, simple, element, fixed, Statement, Declarations, procedure, joined}
use Rattle.script.specs.Script.{Replacement, only, for_simple, for_array, in_place, in_statement}
use Rattle.script.specs.Names.{Names, Standing, nothing, cell, cells, code}
use Rattle.rule.specs.Values.{cell_of, element_of}
use Rattle.rule.specs.Rewriting.{counted, renamed}
use Rattle.rule.specs.Machine.{Env, outside, simple_in, array_in, system_in, Found, closure, among, procedure_at, standing}
use Rattle.rule.specs.Fine.{Kind, unused, a_simple, an_array, a_procedure, beyond, Kinds, with_procedures, with_formals, Unused, Fine, FineDeclarations, start_kind, start_kinds}
use Rattle.rule.proofs.Compose.{after, keeps, same_or_not, differ, here, there}

-- a simple variable with its cell, and the place that the copy rule puts for it; an array with its cells, and the name put for it;
-- a system, and the first of the names put for its procedures
pub data Joint : Type 0 where
  at_outside : Joint
  with_simple : ℕ → ℕ → Place → Joint → Joint
  with_array : ℕ → ℕ → ℕ → ℕ → Joint → Joint
  with_system : Declarations → ℕ → Joint → Joint

abbrev pub env_of : Joint → Env
env_of at_outside = outside
env_of (with_simple x c p m) = simple_in x c (env_of m)
env_of (with_array a b n f m) = array_in a b n (env_of m)
env_of (with_system d f m) = system_in d (env_of m)

abbrev pub procs_put : Declarations → ℕ → Replacement
procs_put d f = record { place = simple; array = λ z. z; proc = renamed d f (λ z. z) }

abbrev pub put_for : Joint → Replacement
put_for at_outside = keeps
put_for (with_simple x c p m) = after (for_simple x p) (put_for m)
put_for (with_array a b n f m) = after (for_array a f) (put_for m)
put_for (with_system d f m) = after (procs_put d f) (put_for m)

-- the cell of a settled place
abbrev pub cell_here : Names → Place → Work ℕ
cell_here E (simple x) = cell_of (E x)
cell_here E (element a i) = faults 0
cell_here E (fixed a i) = element_of (E a) i

-- the declared procedures' names, from f on, stand for their bodies under the replacement r
abbrev pub Coded : Names → Declarations → ℕ → Replacement → Type 0
Coded E (procedure l q x y s) f r = E f ≡ code x y (in_statement r s)
Coded E (joined d e) f r = Coded E d f r × Coded E e (f + counted d) r

module _ (κ₀ : Kinds) where
  abbrev pub kinds_of : Joint → Kinds
  kinds_of at_outside = κ₀
  kinds_of (with_simple x c p m) = only x a_simple (kinds_of m)
  kinds_of (with_array a b n f m) = only a an_array (kinds_of m)
  kinds_of (with_system d f m) = with_procedures d (kinds_of m)

  -- a name that no declaration of the text has, below the next fresh one
  abbrev pub Outer : ℕ → ℕ → Type 0
  Outer fresh n = (¬ (κ₀ n ≡ unused)) × (n < fresh)

  abbrev pub Settled : ℕ → Place → Type 0
  Settled fresh (simple x) = Outer fresh x
  Settled fresh (element a i) = ⊥
  Settled fresh (fixed a i) = Outer fresh a

  module _ (E : Names) (fresh : ℕ) where
    abbrev pub Good : Joint → Type 0
    Good at_outside = Unit {0}
    Good (with_simple x c p m) = Good m × (kinds_of m x ≡ unused) × Settled fresh p × (cell_here E p ≡ gives c)
    Good (with_array a b n f m) = Good m × (kinds_of m a ≡ unused) × Outer fresh f × (E f ≡ cells b n)
    Good (with_system d f m) =
        Good m × Unused (kinds_of m) d × FineDeclarations (kinds_of (with_system d f m)) d
        × ((n : ℕ) → f ≤ n → ¬ (κ₀ n ≡ unused)) × (f + counted d ≤ fresh) × Coded E d f (put_for (with_system d f m))

-- a kind that one more declaration does not give
only_other : (x : ℕ) (k k' : Kind) → ¬ (k ≡ k') → (κ : Kinds) (z : ℕ) → only x k κ z ≡ k' → (eqb x z ≡ false) × (κ z ≡ k')
only_other x k k' h κ z e = go (same_or_not x z)
  where
    go : (x ≡ z) ⊎ (eqb x z ≡ false) → (eqb x z ≡ false) × (κ z ≡ k')
    go (inl p) = absurd (h (sym (here x k κ) ∙ ap (only x k κ) p ∙ e))
    go (inr f) = (f, sym (there x k κ z f) ∙ e)

abbrev pub number_of : Kind → ℕ
number_of unused = 0
number_of a_simple = 1
number_of an_array = 2
number_of a_procedure = 3
number_of beyond = 4

pub unlike : {k k' : Kind} → ¬ (number_of k ≡ number_of k') → ¬ (k ≡ k')
unlike h e = h (ap number_of e)

only_unused : (x : ℕ) (k : Kind) → ¬ (k ≡ unused) → (κ : Kinds) (z : ℕ) → only x k κ z ≡ unused → (eqb x z ≡ false) × (κ z ≡ unused)
only_unused x k = only_other x k unused

simple≢unused : ¬ (a_simple ≡ unused)
simple≢unused = unlike (omega arith)

array≢unused : ¬ (an_array ≡ unused)
array≢unused = unlike (omega arith)

procedure≢unused : ¬ (a_procedure ≡ unused)
procedure≢unused = unlike (omega arith)

procedures_other : (k : Kind) → ¬ (a_procedure ≡ k) → (d : Declarations) (κ : Kinds) (z : ℕ) → with_procedures d κ z ≡ k → κ z ≡ k
procedures_other k h (procedure l q x y s) κ z e = (only_other q a_procedure k h κ z e).1
procedures_other k h (joined d f) κ z e = procedures_other k h d κ z (procedures_other k h f (with_procedures d κ) z e)

procedures_unused : (d : Declarations) (κ : Kinds) (z : ℕ) → with_procedures d κ z ≡ unused → κ z ≡ unused
procedures_unused (procedure l q x y s) κ z e = (only_unused q a_procedure procedure≢unused κ z e).1
procedures_unused (joined d f) κ z e = procedures_unused d κ z (procedures_unused f (with_procedures d κ) z e)

renamed_unused : (d : Declarations) (κ : Kinds) (f : ℕ) (g : ℕ → ℕ) (z : ℕ) → with_procedures d κ z ≡ unused → renamed d f g z ≡ g z
renamed_unused (procedure l q x y s) κ f g z e = there q f g z (only_unused q a_procedure procedure≢unused κ z e).0
renamed_unused (joined d c) κ f g z e =
    renamed_unused c (with_procedures d κ) (f + counted d) (renamed d f g) z e ∙ renamed_unused d κ f g z (procedures_unused c (with_procedures d κ) z e)

module _ (κ₀ : Kinds) where
  pub unused_before : (m : Joint) (z : ℕ) → kinds_of κ₀ m z ≡ unused → κ₀ z ≡ unused
  unused_before at_outside z e = e
  unused_before (with_simple x c p m) z e = unused_before m z (only_unused x a_simple simple≢unused (kinds_of κ₀ m) z e).1
  unused_before (with_array a b n f m) z e = unused_before m z (only_unused a an_array array≢unused (kinds_of κ₀ m) z e).1
  unused_before (with_system d f m) z e = unused_before m z (procedures_unused d (kinds_of κ₀ m) z e)

  -- an unused name is left as it is
  pub unused_place : (m : Joint) (z : ℕ) → kinds_of κ₀ m z ≡ unused → (put_for m).place z ≡ simple z
  unused_place at_outside z e = refl
  unused_place (with_simple x c p m) z e =
      let u = only_unused x a_simple simple≢unused (kinds_of κ₀ m) z e in
      ap (in_place (for_simple x p)) (unused_place m z u.1) ∙ there x p simple z u.0
  unused_place (with_array a b n f m) z e = ap (in_place (for_array a f)) (unused_place m z (only_unused a an_array array≢unused (kinds_of κ₀ m) z e).1)
  unused_place (with_system d f m) z e = ap (in_place (procs_put d f)) (unused_place m z (procedures_unused d (kinds_of κ₀ m) z e))

  pub unused_array : (m : Joint) (z : ℕ) → kinds_of κ₀ m z ≡ unused → (put_for m).array z ≡ z
  unused_array at_outside z e = refl
  unused_array (with_simple x c p m) z e = unused_array m z (only_unused x a_simple simple≢unused (kinds_of κ₀ m) z e).1
  unused_array (with_array a b n f m) z e =
      let u = only_unused a an_array array≢unused (kinds_of κ₀ m) z e in
      ap (only a f (λ y. y)) (unused_array m z u.1) ∙ there a f (λ y. y) z u.0
  unused_array (with_system d f m) z e = unused_array m z (procedures_unused d (kinds_of κ₀ m) z e)

  pub unused_proc : (m : Joint) (z : ℕ) → kinds_of κ₀ m z ≡ unused → (put_for m).proc z ≡ z
  unused_proc at_outside z e = refl
  unused_proc (with_simple x c p m) z e = unused_proc m z (only_unused x a_simple simple≢unused (kinds_of κ₀ m) z e).1
  unused_proc (with_array a b n f m) z e = unused_proc m z (only_unused a an_array array≢unused (kinds_of κ₀ m) z e).1
  unused_proc (with_system d f m) z e =
      ap (renamed d f (λ y. y)) (unused_proc m z (procedures_unused d (kinds_of κ₀ m) z e)) ∙ renamed_unused d (kinds_of κ₀ m) f (λ y. y) z e

-- the kinds that the text starts from fit what its names stand for
pub record Starts (κ : Kinds) (G : Names) (f : ℕ) : Type 0 where
  pub simples : (x : ℕ) → κ x ≡ a_simple → (c : ℕ) × (G x ≡ cell c)
  pub procedures : (q : ℕ) → κ q ≡ a_procedure → ⊥
  pub above : (x : ℕ) → f ≤ x → κ x ≡ beyond

pub starts : (G : Names) (f : ℕ) → Starts (start_kinds G f) G f
starts G f = record { simples = λ x. is_cell (leb f x) (G x); procedures = λ q. no_code (leb f q) (G q); above = λ x h. ends (leb f x) (G x) (le→leb f x h) }
  where
    is_cell : (b : Bool) (st : Standing) → elim b [ true ↦ beyond | false ↦ start_kind st ] ≡ a_simple → (c : ℕ) × (st ≡ cell c)
    is_cell true st e = absurd (unlike (omega arith) e)
    is_cell false nothing e = absurd (unlike (omega arith) e)
    is_cell false (cell c) e = (c, refl)
    is_cell false (cells b n) e = absurd (unlike (omega arith) e)
    is_cell false (code x y s) e = absurd (unlike (omega arith) e)

    no_code : (b : Bool) (st : Standing) → elim b [ true ↦ beyond | false ↦ start_kind st ] ≡ a_procedure → ⊥
    no_code true st e = unlike (omega arith) e
    no_code false nothing e = unlike (omega arith) e
    no_code false (cell c) e = unlike (omega arith) e
    no_code false (cells b n) e = unlike (omega arith) e
    no_code false (code x y s) e = unlike (omega arith) e

    ends : (b : Bool) (st : Standing) → T b → elim b [ true ↦ beyond | false ↦ start_kind st ] ≡ beyond
    ends true st t = refl
    ends false st t = absurd t

-- the copy rule's names since the start: those below the first fresh one are as they were
pub record Kept (G : Names) (f₀ : ℕ) (E : Names) (fresh : ℕ) : Type 0 where
  pub above : f₀ ≤ fresh
  pub same : (z : ℕ) → z < f₀ → E z ≡ G z

module _ (κ₀ : Kinds) (E : Names) (fresh : ℕ) where
  pub record SimpleHere (p : Place) (st : Standing) : Type 0 where
    pub settled : Settled κ₀ fresh p
    pub address : ℕ
    pub stands : st ≡ cell address
    pub at : cell_here E p ≡ gives address

  pub record ArrayHere (a : ℕ) (st : Standing) : Type 0 where
    pub outer : Outer κ₀ fresh a
    pub stands : E a ≡ st

  pub record ProcHere (q : ℕ) (f : Found) : Type 0 where
    pub outer : Outer κ₀ fresh q
    pub x : ℕ
    pub y : ℕ
    pub body : Statement
    pub joint : Joint
    pub is : f ≡ closure x y body (env_of joint)
    pub good : Good κ₀ E fresh joint
    pub stands : E q ≡ code x y (in_statement (put_for joint) body)
    pub first : kinds_of κ₀ joint x ≡ unused
    pub second : only x a_simple (kinds_of κ₀ joint) y ≡ unused
    pub fine : Fine (with_formals x y (kinds_of κ₀ joint)) body

-- one procedure of a system: the name put for it, and what it is
record Declared (E : Names) (d : Declarations) (f : ℕ) (r : Replacement) (κ κ₁ : Kinds) (z : ℕ) : Type 0 where
  name : ℕ
  from : f ≤ name
  to : name < f + counted d
  x : ℕ
  y : ℕ
  body : Statement
  renames : (g : ℕ → ℕ) → renamed d f g z ≡ name
  finds : (ρ : Env) (g : ℕ → Found) → among d ρ g z ≡ closure x y body ρ
  stands : E name ≡ code x y (in_statement r body)
  first : κ x ≡ unused
  second : only x a_simple κ y ≡ unused
  fine : Fine (with_formals x y κ) body
  new : κ₁ z ≡ unused

-- or a name that the system does not declare
record Passed (d : Declarations) (f : ℕ) (z : ℕ) : Type 0 where
  renames : (g : ℕ → ℕ) → renamed d f g z ≡ g z
  finds : (ρ : Env) (g : ℕ → Found) → among d ρ g z ≡ g z
  kind : (κ : Kinds) → with_procedures d κ z ≡ κ z

looked : (E : Names) (d : Declarations) (f : ℕ) (r : Replacement) (κ κ₁ : Kinds) → Coded E d f r → FineDeclarations κ d → Unused κ₁ d → (z : ℕ)
    → Declared E d f r κ κ₁ z ⊎ Passed d f z
looked E (procedure l q x y s) f r κ κ₁ c h u z = go (same_or_not q z)
  where
    go : (q ≡ z) ⊎ (eqb q z ≡ false) → Declared E (procedure l q x y s) f r κ κ₁ z ⊎ Passed (procedure l q x y s) f z
    go (inl e) = inl (subst (λ (w : ℕ). Declared E (procedure l q x y s) f r κ κ₁ w) e (record {
      name = f;
      from = le_refl f;
      to = omega arith;
      x = x;
      y = y;
      body = s;
      renames = λ g. here q f g;
      finds = λ ρ g. here q (closure x y s ρ) g;
      stands = c;
      first = h.0;
      second = h.1;
      fine = h.2;
      new = u;
    }))
    go (inr e) = inr (record { renames = λ g. there q f g z e; finds = λ ρ g. there q (closure x y s ρ) g z e; kind = λ κ. there q a_procedure κ z e })
looked E (joined d e) f r κ κ₁ c h u z = go (looked E d f r κ κ₁ c.0 h.0 u.0 z) (looked E e (f + counted d) r κ κ₁ c.1 h.1 u.1 z)
  where
    go : Declared E d f r κ κ₁ z ⊎ Passed d f z → Declared E e (f + counted d) r κ κ₁ z ⊎ Passed e (f + counted d) z
        → Declared E (joined d e) f r κ κ₁ z ⊎ Passed (joined d e) f z
    go a (inl b) = inl (record {
      name = b.name;
      from = omega (arith, b.from);
      to = omega (arith, b.to);
      x = b.x;
      y = b.y;
      body = b.body;
      renames = λ g. b.renames (renamed d f g);
      finds = λ ρ g. b.finds ρ (among d ρ g);
      stands = b.stands;
      first = b.first;
      second = b.second;
      fine = b.fine;
      new = b.new;
    })
    go (inl a) (inr b) = inl (record {
      name = a.name;
      from = a.from;
      to = omega (arith, a.to);
      x = a.x;
      y = a.y;
      body = a.body;
      renames = λ g. b.renames (renamed d f g) ∙ a.renames g;
      finds = λ ρ g. b.finds ρ (among d ρ g) ∙ a.finds ρ g;
      stands = a.stands;
      first = a.first;
      second = a.second;
      fine = a.fine;
      new = a.new;
    })
    go (inr a) (inr b) = inr (record {
      renames = λ g. b.renames (renamed d f g) ∙ a.renames g;
      finds = λ ρ g. b.finds ρ (among d ρ g) ∙ a.finds ρ g;
      kind = λ κ. b.kind (with_procedures d κ) ∙ a.kind κ;
    })

module _ (κ₀ : Kinds) (fresh : ℕ) (m : Joint) where
  distinct : (x n : ℕ) → kinds_of κ₀ m x ≡ unused → ¬ (κ₀ n ≡ unused) → eqb x n ≡ false
  distinct x n e h = differ x n (λ p. h (ap κ₀ (sym p) ∙ unused_before κ₀ m x e))

  -- a settled place is left as it is by what a declaration of the text puts
  settled_simple : (x : ℕ) (q : Place) → kinds_of κ₀ m x ≡ unused → (p : Place) → Settled κ₀ fresh p → in_place (for_simple x q) p ≡ p
  settled_simple x q e (simple n) h = there x q simple n (distinct x n e h.0)
  settled_simple x q e (element a i) h = absurd h
  settled_simple x q e (fixed a i) h = refl

  settled_array : (x f : ℕ) → kinds_of κ₀ m x ≡ unused → (p : Place) → Settled κ₀ fresh p → in_place (for_array x f) p ≡ p
  settled_array x f e (simple n) h = refl
  settled_array x f e (element a i) h = absurd h
  settled_array x f e (fixed a i) h = ap (λ (b : ℕ). fixed b i) (there x f (λ z. z) a (distinct x a e h.0))

  settled_procs : (d : Declarations) (f : ℕ) (p : Place) → Settled κ₀ fresh p → in_place (procs_put d f) p ≡ p
  settled_procs d f (simple n) h = refl
  settled_procs d f (element a i) h = absurd h
  settled_procs d f (fixed a i) h = refl

  renamed_outer : (d : Declarations) (f : ℕ) (g : ℕ → ℕ) (n : ℕ) → Unused (kinds_of κ₀ m) d → ¬ (κ₀ n ≡ unused) → renamed d f g n ≡ g n
  renamed_outer (procedure l q x y s) f g n u h = there q f g n (distinct q n u h)
  renamed_outer (joined d e) f g n u h = renamed_outer e (f + counted d) (renamed d f g) n u.1 h ∙ renamed_outer d f g n u.0 h

module _ (κ₀ : Kinds) (G : Names) (f₀ : ℕ) (S : Starts κ₀ G f₀) (E : Names) (fresh : ℕ) (H : Kept G f₀ E fresh) where
  global_below : (z : ℕ) → ¬ (beyond ≡ κ₀ z) → z < f₀
  global_below z h = let k : ¬ (f₀ ≤ z) = λ l. h (sym (S.above z l)) in omega arith

  pub simple_here : (m : Joint) → Good κ₀ E fresh m → (z : ℕ) → kinds_of κ₀ m z ≡ a_simple
      → SimpleHere κ₀ E fresh ((put_for m).place z) (standing G (env_of m) z)
  simple_here at_outside g z e =
      let k = S.simples z e in
      let l : z < f₀ = global_below z (λ h. unlike (omega arith) (h ∙ e)) in
      let a = H.above in
      record { settled = ((λ h. simple≢unused (sym e ∙ h)), omega arith); address = k.0; stands = k.1; at = ap cell_of (H.same z l ∙ k.1) }
  simple_here (with_simple x c p m) g z e = go (same_or_not x z) (simple_here m g.0 z)
    where
      put : in_place (for_simple x p) ((put_for m).place x) ≡ p
      put = ap (in_place (for_simple x p)) (unused_place κ₀ m x g.1) ∙ here x p simple

      go : (x ≡ z) ⊎ (eqb x z ≡ false) → (kinds_of κ₀ m z ≡ a_simple → SimpleHere κ₀ E fresh ((put_for m).place z) (standing G (env_of m) z))
          → SimpleHere κ₀ E fresh (in_place (for_simple x p) ((put_for m).place z)) (only x (cell c) (standing G (env_of m)) z)
      go (inl h) ih =
          subst (λ (w : ℕ). SimpleHere κ₀ E fresh (in_place (for_simple x p) ((put_for m).place w)) (only x (cell c) (standing G (env_of m)) w)) h
          (subst₂ (SimpleHere κ₀ E fresh) (sym put) (sym (here x (cell c) (standing G (env_of m))))
          (record { settled = g.2; address = c; stands = refl; at = g.3 }))
      go (inr h) ih =
          let k = ih (sym (there x a_simple (kinds_of κ₀ m) z h) ∙ e) in
          subst₂ (SimpleHere κ₀ E fresh) (sym (settled_simple κ₀ fresh m x p g.1 ((put_for m).place z) k.settled))
          (sym (there x (cell c) (standing G (env_of m)) z h)) k
  simple_here (with_array a b n f m) g z e =
      let o = only_other a an_array a_simple (unlike (omega arith)) (kinds_of κ₀ m) z e in
      let k = simple_here m g.0 z o.1 in
      subst₂ (SimpleHere κ₀ E fresh) (sym (settled_array κ₀ fresh m a f g.1 ((put_for m).place z) k.settled))
      (sym (there a (cells b n) (standing G (env_of m)) z o.0)) k
  simple_here (with_system d f m) g z e =
      let k = simple_here m g.0 z (procedures_other a_simple (unlike (omega arith)) d (kinds_of κ₀ m) z e) in
      subst (λ (p : Place). SimpleHere κ₀ E fresh p (standing G (env_of m) z)) (sym (settled_procs κ₀ fresh m d f ((put_for m).place z) k.settled)) k

  pub array_here : (m : Joint) → Good κ₀ E fresh m → (z : ℕ) → kinds_of κ₀ m z ≡ an_array
      → ArrayHere κ₀ E fresh ((put_for m).array z) (standing G (env_of m) z)
  array_here at_outside g z e =
      let l : z < f₀ = global_below z (λ h. unlike (omega arith) (h ∙ e)) in
      let a = H.above in
      record { outer = ((λ h. array≢unused (sym e ∙ h)), omega arith); stands = H.same z l }
  array_here (with_simple x c p m) g z e =
      let o = only_other x a_simple an_array (unlike (omega arith)) (kinds_of κ₀ m) z e in
      subst (ArrayHere κ₀ E fresh ((put_for m).array z)) (sym (there x (cell c) (standing G (env_of m)) z o.0)) (array_here m g.0 z o.1)
  array_here (with_array a b n f m) g z e = go (same_or_not a z) (array_here m g.0 z)
    where
      put : only a f (λ w. w) ((put_for m).array a) ≡ f
      put = ap (only a f (λ w. w)) (unused_array κ₀ m a g.1) ∙ here a f (λ w. w)

      go : (a ≡ z) ⊎ (eqb a z ≡ false) → (kinds_of κ₀ m z ≡ an_array → ArrayHere κ₀ E fresh ((put_for m).array z) (standing G (env_of m) z))
          → ArrayHere κ₀ E fresh (only a f (λ w. w) ((put_for m).array z)) (only a (cells b n) (standing G (env_of m)) z)
      go (inl h) ih =
          subst (λ (w : ℕ). ArrayHere κ₀ E fresh (only a f (λ w. w) ((put_for m).array w)) (only a (cells b n) (standing G (env_of m)) w)) h
          (subst₂ (ArrayHere κ₀ E fresh) (sym put) (sym (here a (cells b n) (standing G (env_of m)))) (record { outer = g.2; stands = g.3 }))
      go (inr h) ih =
          let k = ih (sym (there a an_array (kinds_of κ₀ m) z h) ∙ e) in
          subst₂ (ArrayHere κ₀ E fresh) (sym (there a f (λ w. w) ((put_for m).array z) (distinct κ₀ fresh m a ((put_for m).array z) g.1 k.outer.0)))
          (sym (there a (cells b n) (standing G (env_of m)) z h)) k
  array_here (with_system d f m) g z e = array_here m g.0 z (procedures_other an_array (unlike (omega arith)) d (kinds_of κ₀ m) z e)

  pub proc_here : (m : Joint) → Good κ₀ E fresh m → (z : ℕ) → kinds_of κ₀ m z ≡ a_procedure
      → ProcHere κ₀ E fresh ((put_for m).proc z) (procedure_at (env_of m) z)
  proc_here at_outside g z e = absurd (S.procedures z e)
  proc_here (with_simple x c p m) g z e = proc_here m g.0 z (only_other x a_simple a_procedure (unlike (omega arith)) (kinds_of κ₀ m) z e).1
  proc_here (with_array a b n f m) g z e = proc_here m g.0 z (only_other a an_array a_procedure (unlike (omega arith)) (kinds_of κ₀ m) z e).1
  proc_here (with_system d f m) g z e =
      go (looked E d f (put_for (with_system d f m)) (with_procedures d (kinds_of κ₀ m)) (kinds_of κ₀ m) g.5 g.2 g.1 z) (proc_here m g.0 z)
    where
      go : Declared E d f (put_for (with_system d f m)) (with_procedures d (kinds_of κ₀ m)) (kinds_of κ₀ m) z ⊎ Passed d f z
          → (kinds_of κ₀ m z ≡ a_procedure → ProcHere κ₀ E fresh ((put_for m).proc z) (procedure_at (env_of m) z))
          → ProcHere κ₀ E fresh (renamed d f (λ w. w) ((put_for m).proc z)) (among d (system_in d (env_of m)) (procedure_at (env_of m)) z)
      go (inl k) ih =
          let to = k.to in
          subst (λ (n : ℕ). ProcHere κ₀ E fresh n (among d (system_in d (env_of m)) (procedure_at (env_of m)) z))
          (sym (ap (renamed d f (λ w. w)) (unused_proc κ₀ m z k.new) ∙ k.renames (λ w. w)))
          (record {
            outer = (g.3 k.name k.from, omega (arith, g.4));
            x = k.x;
            y = k.y;
            body = k.body;
            joint = with_system d f m;
            is = k.finds (system_in d (env_of m)) (procedure_at (env_of m));
            good = g;
            stands = k.stands;
            first = k.first;
            second = k.second;
            fine = k.fine;
          })
      go (inr k) ih =
          let h = ih (sym (k.kind (kinds_of κ₀ m)) ∙ e) in
          subst₂ (ProcHere κ₀ E fresh) (sym (renamed_outer κ₀ fresh m d f (λ w. w) ((put_for m).proc z) g.1 h.outer.0))
          (sym (k.finds (system_in d (env_of m)) (procedure_at (env_of m)))) h

-- more names: what stood goes on standing
module _ (κ₀ : Kinds) (E E' : Names) (fresh fresh' : ℕ) (more : fresh ≤ fresh') (same : (n : ℕ) → n < fresh → E' n ≡ E n) where
  pub outer_on : (n : ℕ) → Outer κ₀ fresh n → Outer κ₀ fresh' n
  outer_on n (h, l) = (h, omega arith)

  pub settled_on : (p : Place) → Settled κ₀ fresh p → Settled κ₀ fresh' p
  settled_on (simple x) h = outer_on x h
  settled_on (element a i) h = h
  settled_on (fixed a i) h = outer_on a h

  pub cell_on : (p : Place) → Settled κ₀ fresh p → cell_here E' p ≡ cell_here E p
  cell_on (simple x) h = ap cell_of (same x h.1)
  cell_on (element a i) h = absurd h
  cell_on (fixed a i) h = ap (λ (st : Standing). element_of st i) (same a h.1)

  pub coded_on : (d : Declarations) (f : ℕ) (r : Replacement) → f + counted d ≤ fresh → Coded E d f r → Coded E' d f r
  coded_on (procedure l q x y s) f r h c = same f (omega arith) ∙ c
  coded_on (joined d e) f r h c = (coded_on d f r (omega arith) c.0, coded_on e (f + counted d) r (omega arith) c.1)

  pub good_on : (m : Joint) → Good κ₀ E fresh m → Good κ₀ E' fresh' m
  good_on at_outside g = tt
  good_on (with_simple x c p m) g = (good_on m g.0, g.1, settled_on p g.2, cell_on p g.2 ∙ g.3)
  good_on (with_array a b n f m) g = (good_on m g.0, g.1, outer_on f g.2, same f g.2.1 ∙ g.3)
  good_on (with_system d f m) g =
      let l = g.4 in
      (good_on m g.0, g.1, g.2, g.3, omega arith, coded_on d f (put_for (with_system d f m)) l g.5)
