-- The cells that the globals of a sheet take, and what a global's declaration tells.
use Rattle.std.proofs.Common.{◌≡◌, ℕ, ◌+◌, zero, suc, ◌<◌, ◌≤◌, Bool, true, false, eqb, List, [], ◌∷◌, length, get_or, drop, Some, None, Option, sym, refl, ap, ◌∙◌, subst, add-one, arith}
use Rattle.std.proofs.lemmas.List.{at_drop_all}
use Rattle.std.specs.Option.{option_or}
use Rattle.lines.specs.declared.records.Line.{Line}
use Rattle.lines.specs.declared.records.Record.{Record}
use Rattle.lines.specs.declared.records.Role.{Role}
use Rattle.lines.specs.declared.records.Role.TheVariants.{Declared, ValueFormal, VariableFormal, GlobalSimple, GlobalArray}
use Rattle.lines.specs.declared.records.Declaration.{Declaration}
use Rattle.script.specs.Names.{Names, Standing, cell, cells}
use Rattle.script.specs.Apart.{Globals, found, global_of, globals_from, globals_of, heads, no_globals, own}
use Rattle.script.specs.Lists.{Each}
use Rattle.script.proofs.Lists.{each_append, each_left, each_right}
use Rattle.standing.specs.Records.{RoleRight, own_name}
use Rattle.acceptance.specs.declared.declared.Sought.{Sought}
use Rattle.acceptance.specs.declared.declared.Sought.TheVariants.{Simple, Array, Procedure}
use Rattle.acceptance.specs.declared.globals.GlobalSort.{GlobalSort}
use Rattle.acceptance.specs.declared.globals.GlobalSort.TheVariants as Sort
use Rattle.acceptance.specs.Sheet.{lines_of}
use Rattle.acceptance.specs.Scopes.{Entry, cells_of, global_declared, global_entries, global_entry, sought_for, when}
use Rattle.acceptance.specs.Scripts.{global_role, global_standing, role_of}
use Rattle.acceptance.proofs.Innermost.{found_pick, globals_picked, known, none_some, own_of, pick}
use Rattle.acceptance.proofs.Listing.{heads_more, heads_stop}
use Rattle.acceptance.proofs.Roles.{Holds, Right, global_right_there, globals_right, holds_last, no_name, taken_more}

-- ## Cells

abbrev pub cells_in : List (ℕ × ℕ) → ℕ
cells_in [] = 0
cells_in (g ∷ gs) = cells_of g.1 + cells_in gs

pub taken_is : (n : ℕ) (gs : List (ℕ × ℕ)) (g : Globals) → (globals_from n gs g).taken ≡ g.taken + cells_in gs
taken_is n [] g = omega arith
taken_is n (p ∷ ps) g =
    let rest : (globals_from (suc n) ps (global_of n p.0 p.1 g)).taken ≡ (global_of n p.0 p.1 g).taken + cells_in ps = taken_is (suc n) ps (global_of n p.0 p.1 g) in
    let here : (global_of n p.0 p.1 g).taken ≡ g.taken + cells_of p.1 = taken_more n p.0 p.1 g in
    omega (arith, rest, here)

-- the cells counted so far, and those of the records that are left, are all that are taken
abbrev pub Counted : List Record → ℕ → ℕ → Type 0
Counted rs i taken = taken + cells_in (heads (lines_of (drop i rs))) ≡ (globals_of (lines_of rs)).taken

module _ (rs : List Record) where
  pub counted_first : Counted rs 0 0
  counted_first = sym (taken_is 1 (heads (lines_of rs)) no_globals)

  module _ (i taken : ℕ) (inv : Counted rs i taken) where
    module _ (d : Record) (q : i < length rs) where
      pub counted_turn : (a b : ℕ) → (get_or rs i d).line ≡ Line.Global a b → Counted rs (i + 1) (taken + cells_of b)
      counted_turn a b e =
          let more : cells_in (heads (lines_of (drop i rs))) ≡ cells_of b + cells_in (heads (lines_of (drop (i + 1) rs))) = ap cells_in (heads_more rs i d q a b e) in
          let was : taken + cells_in (heads (lines_of (drop i rs))) ≡ (globals_of (lines_of rs)).taken = inv in
          omega (arith, more, was)

      pub counted_stop : ((a b : ℕ) → (get_or rs i d).line ≡ Line.Global a b → ⊥) → taken ≡ (globals_of (lines_of rs)).taken
      counted_stop h =
          let none : cells_in (heads (lines_of (drop i rs))) ≡ 0 = ap cells_in (heads_stop rs i d q h) in
          let was : taken + cells_in (heads (lines_of (drop i rs))) ≡ (globals_of (lines_of rs)).taken = inv in
          omega (arith, none, was)

    pub counted_end : length rs ≤ i → taken ≡ (globals_of (lines_of rs)).taken
    counted_end q =
        let none : cells_in (heads (lines_of (drop i rs))) ≡ 0 = ap cells_in (at_drop_all (λ us. heads (lines_of us)) rs i q) in
        let was : taken + cells_in (heads (lines_of (drop i rs))) ≡ (globals_of (lines_of rs)).taken = inv in
        omega (arith, none, was)

-- ## The globals' cells, line by line

-- what a global of that length stands for, from a cell on
abbrev pub stretch : ℕ → ℕ → Standing
stretch c zero = cell c
stretch c (suc k) = cells c (suc k)

-- the globals from a record on, the first of them with its cells from one on, stand for what their names stand for
abbrev pub TellGlobals : List Record → ℕ → ℕ → Type 0
TellGlobals rs i first = (k : Sought) → Each (λ e. Right (globals_of (lines_of rs)).names e.1) (global_entries k (i + 1) first (heads (lines_of (drop i rs))))

module _ (rs : List Record) where
  abbrev P : Entry → Type 0
  P e = Right (globals_of (lines_of rs)).names e.1

  pub tell_first : TellGlobals rs 0 0
  tell_first k = globals_right k 1 (heads (lines_of rs)) no_globals

  module _ (i first : ℕ) (d : Record) (q : i < length rs) (a b : ℕ) (e : (get_or rs i d).line ≡ Line.Global a b) (t : TellGlobals rs i first) where
    abbrev rest : List (ℕ × ℕ)
    rest = heads (lines_of (drop (i + 1) rs))

    here : (k : Sought) → Each P (global_entries k (i + 1) first ((a, b) ∷ rest))
    here k = subst (λ gs. Each P (global_entries k (i + 1) first gs)) (heads_more rs i d q a b e) (t k)

    pub tell_here : (globals_of (lines_of rs)).names (own (i + 1)) ≡ stretch first b
    tell_here = go b (λ k. each_left P (global_entry k (i + 1) first a b) (global_entries k (suc (i + 1)) (first + cells_of b) rest) (here k))
      where
        go : (b : ℕ) → ((k : Sought) → Each P (global_entry k (i + 1) first a b)) → (globals_of (lines_of rs)).names (own (i + 1)) ≡ stretch first b
        go zero h = (h Simple).0
        go (suc k) h = (h Array).0

    pub tell_more : TellGlobals rs (i + 1) (first + cells_of b)
    tell_more k = subst (λ n. Each P (global_entries k n (first + cells_of b) rest)) (sym (add-one (i + 1)))
        (each_right P (global_entry k (i + 1) first a b) (global_entries k (suc (i + 1)) (first + cells_of b) rest) (here k))

-- ## What a global stands for

-- the globals' roles
abbrev OfGlobal : Role → Type 0
OfGlobal Declared = ⊥
OfGlobal ValueFormal = ⊥
OfGlobal VariableFormal = ⊥
OfGlobal (GlobalSimple c) = Unit {0}
OfGlobal (GlobalArray b n) = Unit {0}

abbrev EntryOfGlobal : Entry → Type 0
EntryOfGlobal e = OfGlobal e.1.role

one_of_global : (k : Sought) (n c a b : ℕ) → Each EntryOfGlobal (global_entry k n c a b)
one_of_global Simple n c a zero = (tt, tt)
one_of_global Simple n c a (suc b) = tt
one_of_global Array n c a zero = tt
one_of_global Array n c a (suc b) = (tt, tt)
one_of_global Procedure n c a b = tt

all_of_globals : (k : Sought) (n c : ℕ) (gs : List (ℕ × ℕ)) → Each EntryOfGlobal (global_entries k n c gs)
all_of_globals k n c [] = tt
all_of_globals k n c (g ∷ gs) =
    each_append EntryOfGlobal (global_entry k n c g.0 g.1) (global_entries k (suc n) (c + cells_of g.1) gs) (one_of_global k n c g.0 g.1) (all_of_globals k (suc n) (c + cells_of g.1) gs)

-- a global's role is what the name of its own stands for
role_tells : (G : Names) (l : ℕ) (r : Role) → OfGlobal r → RoleRight G l r → ◌≡◌ {A = Option Role} (Some r) (role_of (G (own_name l r)))
role_tells G l Declared g h = absurd g
role_tells G l ValueFormal g h = absurd g
role_tells G l VariableFormal g h = absurd g
role_tells G l (GlobalSimple c) g h = ap role_of (sym h)
role_tells G l (GlobalArray b n) g h = ap role_of (sym h)

unfound : (ps : List (ℕ × ℕ)) (a : ℕ) → pick ps a ≡ None → found ps a ≡ 0
unfound [] a h = refl
unfound (p ∷ ps) a h = go (eqb p.0 a) (unfound ps a) h
  where
    go : (b : Bool) → (pick ps a ≡ None → found ps a ≡ 0) → ◌≡◌ {A = Option ℕ} (option_or (when b p.1) (pick ps a)) None → ◌≡◌ {A = ℕ} (elim b [ true ↦ p.1 | false ↦ found ps a ]) 0
    go true i e = absurd (none_some p.1 (sym e))
    go false i e = i e

abbrev pub role_in : Option Declaration → Option Role
role_in None = None
role_in (Some d) = Some d.role

-- the role of the declaration that is found is what the name stands for
role_found : (k : Sought) (a : ℕ) (ls : List Line)
    → role_in (global_declared k a ls) ≡ role_of ((globals_of ls).names (found (known k (globals_of ls).scope) a))
role_found k a ls =
    go (global_declared k a ls) (globals_picked a k ls) (global_right_there ls k a) (holds_last (λ d. OfGlobal d.role) (global_entries k 1 0 (heads ls)) a (all_of_globals k 1 0 (heads ls)))
  where
    G : Names
    G = (globals_of ls).names

    go : (o : Option Declaration) → pick (known k (globals_of ls).scope) a ≡ own_of o → Holds (λ d. RoleRight G d.line d.role) o → Holds (λ d. OfGlobal d.role) o
        → role_in o ≡ role_of (G (found (known k (globals_of ls).scope) a))
    go None e h g = ap role_of (sym (ap G (unfound (known k (globals_of ls).scope) a e) ∙ no_name ls))
    go (Some d) e h g = role_tells G d.line d.role g h ∙ ap (λ x. role_of (G x)) (sym (found_pick (known k (globals_of ls).scope) a (own_name d.line d.role) e))

role_of_sort : (s : GlobalSort) (a : ℕ) (ls : List Line) → role_in (global_declared (sought_for s) a ls) ≡ global_role ls s a
role_of_sort Sort.Simple a ls = role_found Simple a ls
role_of_sort Sort.Array a ls = role_found Array a ls

-- and so is that of the global of a sort
pub role_of_global : (s : GlobalSort) (a : ℕ) (ls : List Line) (k : Sought) (o : Option Declaration) → k ≡ sought_for s → o ≡ global_declared k a ls → role_in o ≡ global_role ls s a
role_of_global s a ls k o h e = ap role_in e ∙ (ap (λ z. role_in (global_declared z a ls)) h ∙ role_of_sort s a ls)

-- and that is what some line's own name stands for: 0 is no line's, and stands for nothing
module _ (ls : List Line) (a : ℕ) where
  abbrev Q : Names
  Q = (globals_of ls).names

  by_role : (l : ℕ) (r : Role) → RoleRight Q l r → (n : ℕ) × (Q (own_name l r) ≡ Q (own n))
  by_role l Declared h = (l, refl)
  by_role l ValueFormal h = (0, h ∙ sym (no_name ls))
  by_role l VariableFormal h = (0, h ∙ sym (no_name ls))
  by_role l (GlobalSimple c) h = (l, refl)
  by_role l (GlobalArray b n) h = (l, refl)

  own_found : (k : Sought) → (n : ℕ) × (Q (found (known k (globals_of ls).scope) a) ≡ Q (own n))
  own_found k = go (global_declared k a ls) (globals_picked a k ls) (global_right_there ls k a)
    where
      go : (o : Option Declaration) → pick (known k (globals_of ls).scope) a ≡ own_of o → Holds (λ d. RoleRight Q d.line d.role) o
          → (n : ℕ) × (Q (found (known k (globals_of ls).scope) a) ≡ Q (own n))
      go None e h = (0, ap Q (unfound (known k (globals_of ls).scope) a e))
      go (Some d) e h =
          let w = by_role d.line d.role h in
          (w.0, ap Q (found_pick (known k (globals_of ls).scope) a (own_name d.line d.role) e) ∙ w.1)

  pub standing_own : (s : GlobalSort) → (n : ℕ) × (global_standing ls s a ≡ Q (own n))
  standing_own Sort.Simple = own_found Simple
  standing_own Sort.Array = own_found Array
