-- The declaration that the program finds around a line has the name of its own that the scope of the line has.
use Rattle.std.proofs.Common.{◌≡◌, ℕ, zero, suc, ◌+◌, Bool, true, false, not, ◌||◌, eqb, List, [], ◌∷◌, length, is_some, Some, None, Option, sym, refl, ap, ◌∙◌}
use Rattle.std.proofs.lemmas.Bool.{both_ways}
use Rattle.std.specs.Option.{option_or}
use Rattle.lines.specs.declared.records.Line.{Line}
use Rattle.lines.specs.declared.records.Role.TheVariants.{Declared, ValueFormal, VariableFormal}
use Rattle.lines.specs.declared.records.Declaration.{Declaration}
use Rattle.script.specs.Tree.{line}
use Rattle.script.specs.Apart.{Globals, Scope, found, global_of, globals_from, globals_of, heads, no_globals, own, own_value}
use Rattle.script.specs.Around.{Naming, around, handed, inside, inside_by, joins, naming, opens_array, opens_body, opens_simple, opens_system, silent, user, uses_array, uses_procedure, uses_simple, with_listed}
use Rattle.script.specs.Tests.{among, scope_by_lines, under}
use Rattle.standing.specs.Records.{own_name}
use Rattle.acceptance.specs.declared.declared.Sought.{Sought}
use Rattle.acceptance.specs.declared.declared.Sought.TheVariants.{Simple, Array, Procedure}
use Rattle.acceptance.specs.Scopes.{Entry, at, cells_of, declared_around, declared_from, entries, global_declared, global_entries, global_entry, last_declared, when}
use Rattle.acceptance.proofs.Roles.{taken_more}
use Rattle.acceptance.proofs.Called.{called_among, or_assoc, or_nothing}
use Rattle.acceptance.proofs.Sought.{last_append}

-- the names of the sort that is sought
abbrev pub known : Sought → Scope → List (ℕ × ℕ)
known Simple s = s.simples
known Array s = s.arrays
known Procedure s = s.procs

-- the first of a scope's names
abbrev pub pick : List (ℕ × ℕ) → ℕ → Option ℕ
pick [] a = None
pick (p ∷ ps) a = option_or (when (eqb p.0 a) p.1) (pick ps a)

abbrev pub own_of : Option Declaration → Option ℕ
own_of None = None
own_of (Some d) = Some (own_name d.line d.role)

abbrev the : Option ℕ → ℕ
the None = 0
the (Some x) = x

some_injective : (x y : ℕ) → ◌≡◌ {A = Option ℕ} (Some x) (Some y) → x ≡ y
some_injective x y e = ap the e

pub none_some : (x : ℕ) → ◌≡◌ {A = Option ℕ} None (Some x) → ⊥
none_some x e = both_ways (is_some {T = ℕ} (Some x)) (sym (ap (is_some {T = ℕ}) e)) refl

or_either : (b c : Bool) (x : ℕ) (o : Option ℕ) → c ≡ is_some o → (b || c) ≡ is_some (option_or (when b x) o)
or_either true c x o e = refl
or_either false c x o e = e

pub among_pick : (ps : List (ℕ × ℕ)) (a : ℕ) → among ps a ≡ is_some (pick ps a)
among_pick [] a = refl
among_pick (p ∷ ps) a = or_either (eqb p.0 a) (among ps a) p.1 (pick ps a) (among_pick ps a)

-- the name that is found first is the one that is found
picked_found : (b : Bool) (x y z : ℕ) (o : Option ℕ) → (o ≡ Some z → y ≡ z) → option_or (when b x) o ≡ Some z → elim b [ true ↦ x | false ↦ y ] ≡ z
picked_found true x y z o h e = some_injective x z e
picked_found false x y z o h e = h e

pub found_pick : (ps : List (ℕ × ℕ)) (a x : ℕ) → pick ps a ≡ Some x → found ps a ≡ x
found_pick [] a x h = absurd (none_some x h)
found_pick (p ∷ ps) a x h = picked_found (eqb p.0 a) p.1 (found ps a) x (pick ps a) (found_pick ps a x) h

some_own : (o : Option Declaration) → is_some (own_of o) ≡ is_some o
some_own None = refl
some_own (Some d) = refl

own_or : (o p : Option Declaration) → own_of (option_or o p) ≡ option_or (own_of o) (own_of p)
own_or None p = refl
own_or (Some d) p = refl

own_when : (b : Bool) (d : Declaration) → own_of (when b d) ≡ when b (own_name d.line d.role)
own_when true d = refl
own_when false d = refl

-- one entry, and then what is further out
one_entry : (a x : ℕ) (d : Declaration) (o : Option ℕ) → option_or (when (eqb x a) (own_name d.line d.role)) o ≡ option_or (own_of (when (eqb x a) d)) o
one_entry a x d o = ap (λ z. option_or z o) (sym (own_when (eqb x a) d))

-- an entry behind what was found
entry_behind : (a x : ℕ) (d : Declaration) (o : Option Declaration) (z : Option ℕ)
    → option_or (own_of o) (option_or (when (eqb x a) (own_name d.line d.role)) z) ≡ option_or (own_of (option_or o (when (eqb x a) d))) z
entry_behind a x d o z =
    ap (option_or (own_of o)) (one_entry a x d z)
    ∙ (sym (or_assoc (own_of o) (own_of (when (eqb x a) d)) z)
    ∙ ap (λ w. option_or w z) (sym (own_or o (when (eqb x a) d))))

abbrev with_one : ℕ × ℕ → Scope → Scope
with_one r s = record { simples = s.simples; arrays = s.arrays; procs = (r.1, own r.0) ∷ s.procs }

listed_simples : (rs : List (ℕ × ℕ)) (s : Scope) → (with_listed rs s).simples ≡ s.simples
listed_simples [] s = refl
listed_simples (r ∷ rs) s = listed_simples rs (with_one r s)

listed_arrays : (rs : List (ℕ × ℕ)) (s : Scope) → (with_listed rs s).arrays ≡ s.arrays
listed_arrays [] s = refl
listed_arrays (r ∷ rs) s = listed_arrays rs (with_one r s)

listed_procs : (a : ℕ) (rs : List (ℕ × ℕ)) (s : Scope) → pick (with_listed rs s).procs a ≡ option_or (own_of (called_among a rs)) (pick s.procs a)
listed_procs a [] s = refl
listed_procs a (r ∷ rs) s = listed_procs a rs (with_one r s) ∙ entry_behind a r.1 (at r.0 Declared) (called_among a rs) (pick s.procs a)

pick_inside : (k : Sought) (a : ℕ) (Q : ℕ → List (ℕ × ℕ)) (p : ℕ) (g : Naming) (s : Scope)
    → pick (known k (inside_by Q p g s)) a ≡ option_or (own_of (last_declared (entries k Q p g) a)) (pick (known k s) a)
pick_inside Simple a Q p silent s = refl
pick_inside Simple a Q p (uses_simple x) s = refl
pick_inside Simple a Q p (uses_array x) s = refl
pick_inside Simple a Q p (uses_procedure x) s = refl
pick_inside Simple a Q p (opens_simple x) s = one_entry a x (at p Declared) (pick s.simples a)
pick_inside Simple a Q p (opens_array x) s = refl
pick_inside Simple a Q p (opens_system d) s = ap (λ ps. pick ps a) (listed_simples (Q d) s)
pick_inside Simple a Q p (opens_body q x y) s =
    one_entry a y (at p VariableFormal) (option_or (when (eqb x a) (own_value p)) (pick s.simples a))
    ∙ entry_behind a x (at p ValueFormal) (when (eqb y a) (at p VariableFormal)) (pick s.simples a)
pick_inside Simple a Q p (joins x y) s = refl
pick_inside Array a Q p silent s = refl
pick_inside Array a Q p (uses_simple x) s = refl
pick_inside Array a Q p (uses_array x) s = refl
pick_inside Array a Q p (uses_procedure x) s = refl
pick_inside Array a Q p (opens_simple x) s = refl
pick_inside Array a Q p (opens_array x) s = one_entry a x (at p Declared) (pick s.arrays a)
pick_inside Array a Q p (opens_system d) s = ap (λ ps. pick ps a) (listed_arrays (Q d) s)
pick_inside Array a Q p (opens_body q x y) s = refl
pick_inside Array a Q p (joins x y) s = refl
pick_inside Procedure a Q p silent s = refl
pick_inside Procedure a Q p (uses_simple x) s = refl
pick_inside Procedure a Q p (uses_array x) s = refl
pick_inside Procedure a Q p (uses_procedure x) s = refl
pick_inside Procedure a Q p (opens_simple x) s = refl
pick_inside Procedure a Q p (opens_array x) s = refl
pick_inside Procedure a Q p (opens_system d) s = listed_procs a (Q d) s
pick_inside Procedure a Q p (opens_body q x y) s = refl
pick_inside Procedure a Q p (joins x y) s = refl

module _ (a : ℕ) where
  one_global : (k : Sought) (n x b : ℕ) (g : Globals) (o : Option Declaration)
      → option_or (own_of o) (pick (known k (global_of n x b g).scope) a)
      ≡ option_or (own_of (option_or o (last_declared (global_entry k n g.taken x b) a))) (pick (known k g.scope) a)
  one_global Simple n x zero g o = entry_behind a x (at n _) o (pick g.scope.simples a)
  one_global Simple n x (suc b) g o = ap (λ w. option_or (own_of w) (pick g.scope.simples a)) (sym (or_nothing o))
  one_global Array n x zero g o = ap (λ w. option_or (own_of w) (pick g.scope.arrays a)) (sym (or_nothing o))
  one_global Array n x (suc b) g o = entry_behind a x (at n _) o (pick g.scope.arrays a)
  one_global Procedure n x zero g o = ap (λ w. option_or (own_of w) (pick g.scope.procs a)) (sym (or_nothing o))
  one_global Procedure n x (suc b) g o = ap (λ w. option_or (own_of w) (pick g.scope.procs a)) (sym (or_nothing o))

  module _ (k : Sought) where
    pick_globals : (n : ℕ) (gs : List (ℕ × ℕ)) (g : Globals)
        → pick (known k (globals_from n gs g).scope) a ≡ option_or (own_of (last_declared (global_entries k n g.taken gs) a)) (pick (known k g.scope) a)
    pick_globals n [] g = refl
    pick_globals n (h ∷ hs) g =
        let rest : ℕ → List Entry = λ c. global_entries k (suc n) c hs in
        pick_globals (suc n) hs (global_of n h.0 h.1 g)
        ∙ (ap (λ c. option_or (own_of (last_declared (rest c) a)) (pick (known k (global_of n h.0 h.1 g).scope) a)) (taken_more n h.0 h.1 g)
        ∙ (one_global k n h.0 h.1 g (last_declared (rest (g.taken + cells_of h.1)) a)
        ∙ ap (λ o. option_or (own_of o) (pick (known k g.scope) a)) (sym (last_append a (global_entry k n g.taken h.0 h.1) (rest (g.taken + cells_of h.1))))))

    none_known : pick (known k no_globals.scope) a ≡ None
    none_known = elim k as (λ j. pick (known j no_globals.scope) a ≡ None) [ Simple ↦ refl | Array ↦ refl | Procedure ↦ refl ]

    module _ (ls : List Line) where
      abbrev scope_from : ℕ → ℕ → Scope
      scope_from f n = around (inside (under (line ls))) (globals_of ls).scope (line ls) (length ls) f n

      pub globals_picked : pick (known k (globals_of ls).scope) a ≡ own_of (global_declared k a ls)
      globals_picked = pick_globals 1 (heads ls) no_globals ∙ (ap (option_or (own_of (global_declared k a ls))) none_known ∙ or_nothing (own_of (global_declared k a ls)))

      picked : (f n : ℕ) → pick (known k (scope_from f n)) a ≡ own_of (declared_from k a ls f n)
      picked zero n = globals_picked
      picked (suc f) n = go (user (line ls) (suc (length ls)) n) (picked f (user (line ls) (suc (length ls)) n))
        where
          hand : ℕ → Option Declaration → Option Declaration
          hand p o = handed (λ p l o. option_or (last_declared (entries k (under (line ls)) p (naming l)) a) o) (global_declared k a ls) (line ls) (length ls) p o

          go : (u : ℕ) → pick (known k (scope_from f u)) a ≡ own_of (declared_from k a ls f u)
              → pick (known k (handed (inside (under (line ls))) (globals_of ls).scope (line ls) (length ls) u (scope_from f u))) a ≡ own_of (hand u (declared_from k a ls f u))
          go zero e = globals_picked
          go (suc u) e =
              pick_inside k a (under (line ls)) (suc u) (naming (line ls (suc u))) (scope_from f (suc u))
              ∙ (ap (option_or (own_of (last_declared (entries k (under (line ls)) (suc u) (naming (line ls (suc u)))) a))) e
              ∙ sym (own_or (last_declared (entries k (under (line ls)) (suc u) (naming (line ls (suc u)))) a) (declared_from k a ls f (suc u))))

      -- the scope that line n stands in has, first of that name, the name of its own of the declaration found
      pub scope_picks : (n : ℕ) → pick (known k (scope_by_lines (line ls) (length ls) (globals_of ls).scope n)) a ≡ own_of (declared_around k a ls n)
      scope_picks n = picked (length ls) n

      -- so a name is known where a declaration is found
      known_there : (n : ℕ) → among (known k (scope_by_lines (line ls) (length ls) (globals_of ls).scope n)) a ≡ is_some (declared_around k a ls n)
      known_there n = among_pick (known k (scope_by_lines (line ls) (length ls) (globals_of ls).scope n)) a ∙ (ap is_some (scope_picks n) ∙ some_own (declared_around k a ls n))

      not_not : (b : Bool) → b ≡ not (not b)
      not_not true = refl
      not_not false = refl

      pub not_known : (n : ℕ) (b : Bool) (o : Option Declaration) → is_some o ≡ not b → o ≡ declared_around k a ls n
          → b ≡ not (among (known k (scope_by_lines (line ls) (length ls) (globals_of ls).scope n)) a)
      not_known n b o h e = not_not b ∙ ap not (sym h ∙ (ap is_some e ∙ sym (known_there n)))
