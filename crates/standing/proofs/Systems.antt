-- The system that each procedure of a sheet belongs to, and the procedures that a scope has.
use Rattle.std.proofs.Common.{◌≡◌, ℕ, zero, suc, ◌<◌, ◌≤◌, Bool, true, false, eqb, ◌⊎◌, List, [], ◌∷◌, get_or, sym, refl, ap, ◌∙◌, subst, inl, inr, arith}
use mathlib.Core.Path.{transport}
use Rattle.lines.specs.declared.records.Line.{Line}
use Rattle.script.specs.Tree.{Part, grow, grown, other, part}
use Rattle.script.specs.Apart.{found}
use Rattle.script.specs.Lists.{Any, Each, times}
use Rattle.script.specs.Scoped.{Among}
use Rattle.script.specs.Fields.{class_of, fields, is_nothing, named_in}
use Rattle.script.specs.Around.{Naming, around, handed, naming, procedures_of, user, silent, uses_simple, uses_array, uses_procedure, opens_simple, opens_array, opens_system, opens_body, joins}
use Rattle.script.specs.Tests.{procedures_by}
use Rattle.script.proofs.Lists.{each_append, each_from, times_each}
use Rattle.script.proofs.Grow.{grow_at}
use Rattle.script.proofs.Naming.{Told, told}
use Rattle.script.proofs.Form.{InForm, names_of, some_part, valid}
use Rattle.script.proofs.Spread.{Behind, around_named, behind, user_behind}
use Rattle.script.proofs.Under.{list_step}

-- one that has both what each has and what one has
pub each_one : {A R : Type 0} (P Q : A → Type 0) → ((a : A) → P a → Q a → R) → (us : List A) → Each P us → Any Q us → R
each_one P Q h [] e x = absurd x
each_one P Q h (a ∷ us) e x = elim x [ inl y ↦ h a e.0 y | inr y ↦ each_one P Q h us e.1 y ]

-- what holds of every name of its own in a list of declarations holds of the one that a name there belongs to
pub found_each : (P : ℕ → Type 0) (ps : List (ℕ × ℕ)) (a : ℕ) → Among ps a → Each (λ p. P p.1) ps → P (found ps a)
found_each P [] a h e = absurd h
found_each P (p ∷ ps) a h e = go (eqb p.0 a) h (λ w. found_each P ps a w e.1)
  where
    go : (b : Bool) → elim b as (λ x. Type 0) [ true ↦ Unit {0} | false ↦ Among ps a ] → (Among ps a → P (found ps a)) → P (elim b [ true ↦ p.1 | false ↦ found ps a ])
    go true w r = e.0
    go false w r = r w

-- the system that the lines named by line n are the declarations of, from its own (0: none)
abbrev pub system_in : ℕ → Naming → ℕ → ℕ
system_in n silent y = 0
system_in n (uses_simple a) y = 0
system_in n (uses_array a) y = 0
system_in n (uses_procedure a) y = 0
system_in n (opens_simple a) y = 0
system_in n (opens_array a) y = 0
system_in n (opens_system a) y = n
system_in n (opens_body q x z) y = 0
system_in n (joins a b) y = y

abbrev pub system_at : (ℕ → Line) → ℕ → ℕ → ℕ
system_at L N n = around (λ m l. system_in m (naming l)) 0 L N N n

module _ (L : ℕ → Line) (N G : ℕ) (front : (n : ℕ) → n < G → is_nothing (class_of (L n)) ≡ true) (i : InForm L N G) where
  -- what holds around the last line, and inside each line if around it, holds around every line
  pub around_keeps : {X : Type 0} (inner : ℕ → Line → X → X) (x : X) (I : X → Type 0) → I x → ((m : ℕ) (y : X) → m ≤ N → I y → I (inner m (L m) y)) → (f n : ℕ) → I (around inner x L N f n)
  around_keeps inner x I base h zero n = base
  around_keeps inner x I base h (suc f) n = go (user L (suc N) n) (around_keeps inner x I base h f (user L (suc N) n)) (user_behind L n (suc N) (λ j q. valid L N G front i j (omega arith)))
    where
      go : (u : ℕ) → I (around inner x L N f u) → (u ≡ 0) ⊎ ((n < u) × (u < suc N)) → I (handed inner x L N u (around inner x L N f u))
      go zero y w = base
      go (suc u) y w = h (suc u) (around inner x L N f (suc u)) (omega arith) y

  pub system_named : (n m : ℕ) → n ≤ N → 1 ≤ times m (names_of L n) → system_at L N m ≡ system_in n (naming (L n)) (system_at L N n)
  system_named n m q h = around_named L N G front i (λ m l. system_in m (naming l)) 0 n m q h

  -- a procedure of the system y, with its name, by its line
  abbrev pub ProcedureLine : ℕ → (ℕ × ℕ) → Type 0
  ProcedureLine y r = (x : ℕ) × (z : ℕ) × (b : ℕ) × (L r.0 ≡ Line.Procedure r.1 x z b) × (system_at L N r.0 ≡ y) × (G ≤ r.0) × (r.0 ≤ N)

  pub procedure_lines : (k n : ℕ) → n < k → G ≤ n → n ≤ N → Each (ProcedureLine (system_at L N n)) (procedures_of (part L n))
  procedure_lines zero n q r s = absurd (omega arith)
  procedure_lines (suc k) n q r s = subst (Each Here) (sym (list_step n (grow grown L n) (L n) (some_part L N G front i n r s)))
      (go (λ m b. procedure_lines k m (omega arith) b.0 (omega arith)) (naming (L n)) (told (L n)))
    where
      Here : (ℕ × ℕ) → Type 0
      Here = ProcedureLine (system_at L N n)

      at : ℕ → Part
      at m = get_or (grow grown L n) m other

      Passed : ℕ → Type 0
      Passed m = system_in n (naming (L n)) (system_at L N n) ≡ system_at L N n → Each Here (procedures_of (at m))

      Earlier : Type 0
      Earlier = (m : ℕ) → Behind L N G front i n m → Each (ProcedureLine (system_at L N m)) (procedures_of (part L m))

      passed : Earlier → Each Passed (names_of L n)
      passed earlier = each_from Passed (names_of L n) (λ m h e.
          let b : Behind L N G front i n m = times_each (Behind L N G front i n) m (names_of L n) (behind L N G front i n s) h in
          let p : system_at L N m ≡ system_at L N n = system_named n m s h ∙ e in
          let q : part L m ≡ at m = sym (grow_at grown L other n m b.1) in
          transport (λ j. Each (ProcedureLine (p j)) (procedures_of (q j))) (earlier m b))

      go : Earlier → (c : Naming) → Told (L n) c → Each Here (procedures_by (λ m. procedures_of (at m)) n c)
      go earlier silent t = tt
      go earlier (uses_simple a) t = tt
      go earlier (uses_array a) t = tt
      go earlier (uses_procedure a) t = tt
      go earlier (opens_simple a) t = tt
      go earlier (opens_array a) t = tt
      go earlier (opens_system a) t = tt
      go earlier (opens_body p x z) t = ((x, z, t.0, t.1, refl, r, s), tt)
      go earlier (joins a b) t =
          let e : system_in n (naming (L n)) (system_at L N n) ≡ system_at L N n = ap (λ l. system_in n (naming l) (system_at L N n)) t in
          let w : Each Passed (a ∷ b ∷ []) = subst (λ l. Each Passed (named_in (fields l))) t (passed earlier) in
          each_append Here (procedures_of (at a)) (procedures_of (at b)) (w.0 e) (w.1.0 e)

  -- the procedures of a system's line
  pub system_lines : (m a b : ℕ) → m ≤ N → L m ≡ Line.System a b → Each (ProcedureLine m) (procedures_of (part L a))
  system_lines m a b q e = (subst (λ l. Each Listed (named_in (fields l))) e all).0 a_system
    where
      a_system : system_in m (naming (L m)) (system_at L N m) ≡ m
      a_system = ap (λ l. system_in m (naming l) (system_at L N m)) e

      Listed : ℕ → Type 0
      Listed c = system_in m (naming (L m)) (system_at L N m) ≡ m → Each (ProcedureLine m) (procedures_of (part L c))

      all : Each Listed (names_of L m)
      all = each_from Listed (names_of L m) (λ c h w.
          let d : Behind L N G front i m c = times_each (Behind L N G front i m) c (names_of L m) (behind L N G front i m q) h in
          subst (λ y. Each (ProcedureLine y) (procedures_of (part L c))) (system_named m c q h ∙ w) (procedure_lines (suc c) c (omega arith) d.0 (omega arith)))
