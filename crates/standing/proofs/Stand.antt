-- The records of an accepted sheet stand for its text.
use Rattle.std.proofs.Common.{◌≡◌, ℕ, zero, suc, ◌+◌, ◌<◌, ◌≤◌, true, false, ◌⊎◌, List, [], ◌∷◌, ◌++◌, length, get_or, ℤ, Some, Option, sym, refl, ap, ◌∙◌, subst, inl, inr, arith}
use mathlib.Core.Path.{transport}
use lib.ListN.{get_or-eq_default}
use Rattle.std.proofs.lemmas.Bool.{both_ways, cases_lt, eq-eqb, ne_eqb, or_left, or_right}
use Rattle.lines.specs.declared.records.Line.{Line}
use Rattle.lines.specs.declared.records.Role.{Role}
use Rattle.lines.specs.declared.records.Role.TheVariants.{Declared, ValueFormal, VariableFormal, GlobalSimple, GlobalArray}
use Rattle.lines.specs.declared.records.Declaration.{Declaration}
use Rattle.lines.specs.declared.records.Record.{Record}
use Rattle.script.specs.Names.{Names, Standing, nothing, cell, cells}
use Rattle.script.specs.Script.{Declarations, procedure, joined, only}
use Rattle.script.specs.Tree.{Part, declarations, grow, grown, line, nought, other, part}
use Rattle.script.specs.Apart.{Globals, Scope, declarations_apart, found, global_of, globals_from, globals_of, heads, no_globals, own, past_globals}
use Rattle.script.specs.Lists.{Any, Each, times}
use Rattle.script.specs.Fields.{class_of, fields, is_nothing, named_in}
use Rattle.script.specs.Around.{Naming, inside, inside_by, naming, procedures, procedures_of, scope_at, with_listed, silent, uses_simple, uses_array, uses_procedure, opens_simple, opens_array, opens_system, opens_body, joins}
use Rattle.script.specs.IsScript.{IsScript}
use Rattle.script.specs.Tests.{declared_by}
use Rattle.script.proofs.Lists.{each_from, each_map, times_each}
use Rattle.script.proofs.Grow.{grow_at}
use Rattle.script.proofs.Naming.{Told, told, inside_same}
use Rattle.script.proofs.Globals.{front_of}
use Rattle.script.proofs.Form.{InForm, names_of, some_part}
use Rattle.script.proofs.Spread.{Behind, around_last, around_named, behind, last_behind}
use Rattle.script.proofs.Steps.{ScopedPart, is_among}
use Rattle.script.proofs.Accept.{listed_same, scoped_lines, the_form}
use Rattle.standing.specs.Records.{Belongs, Resolved, SystemOf, declaration_in, own_name, record_at}
use Rattle.standing.specs.Standing.{Points, IsProcedure, Owns, declares}
use Rattle.standing.specs.Laws.{RecordsStand}
use Rattle.standing.proofs.Said.{said, says, value_or}
use Rattle.standing.proofs.Systems.{ProcedureLine, around_keeps, each_one, found_each, system_at, system_in, system_lines, system_named}
use Rattle.standing.proofs.Parts.{PartStands, Right, StandsPart, stand_step}

-- ## The globals

-- a line behind the globals has no global's name for its own
only_behind : (x : ℕ) (a : Standing) (f : Names) (z : ℕ) → ¬ (x ≡ z) → f z ≡ nothing → only x a f z ≡ nothing
only_behind x a f z h e = ap (λ b. elim b [ true ↦ a | false ↦ f z ]) (ne_eqb x z h) ∙ e

one_global : (n a b : ℕ) (g : Globals) (j : ℕ) → n < j → g.names (own j) ≡ nothing → (global_of n a b g).names (own j) ≡ nothing
one_global n a zero g j q = only_behind (own n) (cell g.taken) g.names (own j) (λ e. omega (arith, e))
one_global n a (suc k) g j q = only_behind (own n) (cells g.taken (suc k)) g.names (own j) (λ e. omega (arith, e))

no_global : (n : ℕ) (ps : List (ℕ × ℕ)) (g : Globals) (j : ℕ) → n + length ps ≤ j → g.names (own j) ≡ nothing → (globals_from n ps g).names (own j) ≡ nothing
no_global n [] g j q e = e
no_global n (p ∷ ps) g j q e = no_global (suc n) ps (global_of n p.0 p.1 g) j (omega arith) (one_global n p.0 p.1 g j (omega arith) e)

-- and no procedure is global
one_procs : (n a b : ℕ) (g : Globals) → (global_of n a b g).scope.procs ≡ g.scope.procs
one_procs n a zero g = refl
one_procs n a (suc k) g = refl

no_procs : (n : ℕ) (ps : List (ℕ × ℕ)) (g : Globals) → (globals_from n ps g).scope.procs ≡ g.scope.procs
no_procs n [] g = refl
no_procs n (p ∷ ps) g = no_procs (suc n) ps (global_of n p.0 p.1 g) ∙ one_procs n p.0 p.1 g

-- ## Procedures

-- a procedure's name of its own is among those of the text
any_declared : (t : Scope) (d : Declarations) (p : ℕ) → Any (λ r. r.0 ≡ p) (procedures d) → declares (declarations_apart t d) (own p) ≡ true
any_declared t (procedure l q x y b) p (inl e) = eq-eqb (own l) (own p) (ap own e)
any_declared t (procedure l q x y b) p (inr e) = absurd e
any_declared t (joined d f) p e = elim (split (procedures d) e) [
  | inl h ↦ or_left (declares (declarations_apart t d) (own p)) (declares (declarations_apart t f) (own p)) (any_declared t d p h)
  | inr h ↦ or_right (declares (declarations_apart t d) (own p)) (declares (declarations_apart t f) (own p)) (any_declared t f p h)
]
  where
    split : (us : List (ℕ × ℕ)) → Any (λ r. r.0 ≡ p) (us ++ procedures f) → Any (λ r. r.0 ≡ p) us ⊎ Any (λ r. r.0 ≡ p) (procedures f)
    split [] h = inr h
    split (u ∷ us) (inl h) = inl (inl h)
    split (u ∷ us) (inr h) = elim (split us h) [ inl w ↦ inl (inr w) | inr w ↦ inr w ]

-- only what a line declares has the line's own name
own_only : (l m : ℕ) (r : Role) → own l ≡ own_name m r → own_name m r ≡ own m
own_only l m Declared e = refl
own_only l m ValueFormal e = absurd (omega (arith, e))
own_only l m VariableFormal e = absurd (omega (arith, e))
own_only l m (GlobalSimple c) e = refl
own_only l m (GlobalArray b n) e = refl

-- procedures added to a scope keep what its procedures have
listed_keeps : (P : ℕ → Type 0) (us : List (ℕ × ℕ)) (s : Scope) → Each (λ r. P (own r.0)) us → Each (λ p. P p.1) s.procs → Each (λ p. P p.1) (with_listed us s).procs
listed_keeps P [] s e f = f
listed_keeps P (u ∷ us) s e f = listed_keeps P us (record { simples = s.simples; arrays = s.arrays; procs = (u.1, own u.0) ∷ s.procs }) e.1 (e.0, f)

-- ## A sheet's records

module _ (low high : ℤ) (ls : List Line) (script : IsScript low high ls) (rs : List Record) (resolved : Resolved ls rs) where
  abbrev L : ℕ → Line
  L = line ls

  abbrev N : ℕ
  N = length ls

  abbrev G : ℕ
  G = past_globals ls

  abbrev E : Names
  E = (globals_of ls).names

  abbrev outer : Scope
  outer = (globals_of ls).scope

  abbrev here : ℕ → Scope
  here n = scope_at L N outer n

  abbrev system : ℕ → ℕ
  system n = system_at L N n

  front : (n : ℕ) → n < G → is_nothing (class_of (L n)) ≡ true
  front = front_of ls

  form : InForm L N G
  form = the_form low high ls script

  -- what the record of line n tells, where the line is l
  belongs_as : (n : ℕ) (l : Line) → n ≤ N → L n ≡ l → Belongs ls n (here n) (naming l) (declaration_in (record_at rs n))
  belongs_as n l q e = subst (λ l. Belongs ls n (here n) (naming l) (declaration_in (record_at rs n))) e (resolved.belongs n q)

  -- a system is a line of the sheet
  system_within : (m a b : ℕ) → L m ≡ Line.System a b → m ≤ N
  system_within m a b e = elim (cases_lt N m) [
    | inl w ↦ absurd (both_ways (is_nothing (class_of (L m))) (ap (λ l. is_nothing (class_of l)) e) (ap (λ l. is_nothing (class_of l)) (get_or-eq_default (nought ∷ ls) nought (omega arith))))
    | inr w ↦ w
  ]

  system_is : (m n : ℕ) → SystemOf ls m n → system n ≡ m
  system_is m n h = each_one (ProcedureLine L N G front form m) (λ r. r.0 ≡ n) (λ r p e. ap system (sym e) ∙ p.4) (procedures_of (part L h.0))
      (system_lines L N G front form m h.0 h.1 (system_within m h.0 h.1 h.2) h.2) h.3

  procedure_told : (n a x y b : ℕ) → n ≤ N → L n ≡ Line.Procedure a x y b → Points rs n (record { line = system n; role = Declared })
  procedure_told n a x y b q e =
      let w = belongs_as n (Line.Procedure a x y b) q e in
      w.1 ∙ ap (λ m. Some (record { line = m; role = Declared })) (sym (system_is w.0 n w.2))

  is_procedure : (m : ℕ) (r : ℕ × ℕ) → ProcedureLine L N G front form m r → IsProcedure rs r.0
  is_procedure m r p = (
    system r.0,
    p.2,
    (
      r.1,
      p.0,
      p.1,
      says ls rs resolved.lines r.0 (omega (arith, p.5)) p.6 ∙ ap Some p.3,
      procedure_told r.0 r.1 p.0 p.1 p.2 p.6 p.3,
    ),
  )

  -- a name of its own that a procedure's line has
  abbrev OwnProcedure : ℕ → Type 0
  OwnProcedure x = (l : ℕ) × (x ≡ own l) × IsProcedure rs l

  abbrev ProceduresRight : Scope → Type 0
  ProceduresRight s = Each (λ p. OwnProcedure p.1) s.procs

  inside_keeps : (m : ℕ) (s : Scope) → m ≤ N → ProceduresRight s → ProceduresRight (inside (λ c. procedures_of (part L c)) m (L m) s)
  inside_keeps m s q h = go (naming (L m)) (told (L m))
    where
      go : (k : Naming) → Told (L m) k → ProceduresRight (inside_by (λ c. procedures_of (part L c)) m k s)
      go silent t = h
      go (uses_simple a) t = h
      go (uses_array a) t = h
      go (uses_procedure a) t = h
      go (opens_simple a) t = h
      go (opens_array a) t = h
      go (opens_system a) t = listed_keeps OwnProcedure (procedures_of (part L a)) s
          (each_map (ProcedureLine L N G front form m) (λ r. OwnProcedure (own r.0)) (λ r p. (r.0, refl, is_procedure m r p)) (procedures_of (part L a)) (system_lines L N G front form m a t.0 q t.1)) h
      go (opens_body p x y) t = h
      go (joins a b) t = h

  procedures_right : (n : ℕ) → ProceduresRight (here n)
  procedures_right n = around_keeps L N G front form (inside (λ c. procedures_of (part L c))) outer ProceduresRight
      (subst (Each (λ p. OwnProcedure p.1)) (sym (no_procs 1 (heads ls) no_globals)) tt) inside_keeps N n

  -- the procedures that tell line n for their system are the system's
  owns : (n a b : ℕ) (d : Declarations) (t : Scope) → n ≤ N → L n ≡ Line.System a b → part L a ≡ declarations d → Owns rs (declarations_apart t d) n
  owns n a b d t q e u p c h =
      let w = said ls rs resolved.lines p (Line.Procedure h.0 h.1 h.2 c) h.3 in
      let o = belongs_as p (Line.Procedure h.0 h.1 h.2 c) w.1 w.0 in
      let m : o.0 ≡ n = ap (λ (o : Option Declaration). (value_or {A = Declaration} (record { line = 0; role = Declared }) o).line) (sym o.1 ∙ h.4) in
      let f : SystemOf ls n p = subst (λ m. SystemOf ls m p) m o.2 in
      let i : f.0 ≡ a = ap (λ l. get_or (named_in (fields l)) 0 0) (sym f.2 ∙ e) in
      any_declared t d p (subst (λ P. Any (λ r. r.0 ≡ p) (procedures_of P)) (ap (part L) i ∙ u) f.3)

  right : (n : ℕ) → G ≤ n → n ≤ N → Right E rs n (grow grown L n) (here n) (system n) (naming (L n))
  right n r q = go (naming (L n)) (told (L n)) (resolved.belongs n q) ((scoped_lines L N G front form outer).1 (subst (ScopedPart outer) (sym script.is) script.scoped) n q)
    where
      behind_globals : E (own n) ≡ nothing
      behind_globals = no_global 1 (heads ls) no_globals n (omega arith) refl

      at_named : (a b : ℕ) → L n ≡ Line.System a b → get_or (grow grown L n) a other ≡ part L a
      at_named a b e = (subst (λ l. Each (λ m. get_or (grow grown L n) m other ≡ part L m) (named_in (fields l))) e
          (each_map (Behind L N G front form n) (λ m. get_or (grow grown L n) m other ≡ part L m) (λ m w. grow_at grown L other n m w.1) (names_of L n) (behind L N G front form n q))).0

      go : (k : Naming) → Told (L n) k → Belongs ls n (here n) k (declaration_in (record_at rs n)) → declared_by (here n) k ≡ true → Right E rs n (grow grown L n) (here n) (system n) k
      go silent t w h = tt
      go (uses_simple a) t w h = w
      go (uses_array a) t w h = w
      go (uses_procedure a) t w h =
          let f : OwnProcedure (found (here n).procs a) = found_each OwnProcedure (here n).procs a (is_among (here n).procs a h) (procedures_right n) in
          let d : Declaration = w.0 in
          let o : found (here n).procs a ≡ own d.line = w.2.0 ∙ own_only f.0 d.line d.role (sym f.1 ∙ w.2.0) in
          let l : f.0 ≡ d.line = omega (arith, f.1, o) in
          (d, w.1, o, subst (IsProcedure rs) l f.2)
      go (opens_simple a) t w h = behind_globals
      go (opens_array a) t w h = behind_globals
      go (opens_system a) t w h = λ d u s. owns n a t.0 d s q t.1 (sym (at_named a t.0 t.1) ∙ u)
      go (opens_body p x y) t w h = procedure_told n p x y t.0 q t.1
      go (joins a b) t w h = tt

  stands : (k n : ℕ) → n < k → G ≤ n → n ≤ N → StandsPart E rs n (here n) (system n) (part L n)
  stands zero n p q r = absurd (omega arith)
  stands (suc k) n p q r = stand_step E rs n (grow grown L n) (here n) (system n) (L n) (some_part L N G front form n q r) (says ls rs resolved.lines n (omega arith) r) (right n q r)
      (each_from (PartStands E rs n (grow grown L n) (here n) (system n) (L n)) (names_of L n) (λ m h. moved m h (λ b. stands k m (omega arith) b.0 (omega arith))))
    where
      at : ℕ → Part
      at m = get_or (grow grown L n) m other

      earlier : Each (λ m. at m ≡ part L m) (names_of L n)
      earlier = each_map (Behind L N G front form n) (λ m. at m ≡ part L m) (λ m w. grow_at grown L other n m w.1) (names_of L n) (behind L N G front form n r)

      moved : (m : ℕ) → 1 ≤ times m (names_of L n) → (Behind L N G front form n m → StandsPart E rs m (here m) (system m) (part L m)) → PartStands E rs n (grow grown L n) (here n) (system n) (L n) m
      moved m h w =
          let b : Behind L N G front form n m = times_each (Behind L N G front form n) m (names_of L n) (behind L N G front form n r) h in
          let s : here m ≡ inside (λ c. procedures_of (at c)) n (L n) (here n)
          = around_named L N G front form (inside (λ c. procedures_of (part L c))) outer n m r h
          ∙ sym (inside_same (λ c. procedures_of (at c)) (λ c. procedures_of (part L c)) n (naming (L n)) (here n) (listed_same at (part L) (L n) earlier)) in
          let y : system m ≡ system_in n (naming (L n)) (system n) = system_named L N G front form n m r h in
          let g : part L m ≡ at m = sym (grow_at grown L other n m b.1) in
          (b.1, transport (λ j. StandsPart E rs m (s j) (y j) (g j)) (w b))

  the_whole : StandsPart E rs N outer (system N) (part L N)
  the_whole = subst (λ s. StandsPart E rs N s (system N) (part L N)) (around_last L N G front form (inside (λ c. procedures_of (part L c))) outer N)
      (stands (suc N) N (omega arith) (last_behind L N G front form) (omega arith))

pub records_stand : RecordsStand
records_stand low high ls s rs r = subst (StandsPart (globals_of ls).names rs (length ls) (globals_of ls).scope (system_at (line ls) (length ls) (length ls))) s.is (the_whole low high ls s rs r)
