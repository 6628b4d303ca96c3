-- Every cell of a script's globals is that of a sort, a name and an index.
use Rattle.std.proofs.Common.{◌≡◌, ℕ, zero, suc, ◌+◌, ◌-◌, ◌<◌, ◌≤◌, Bool, true, false, cond, List, [], ◌∷◌, length, get_or, nat_lt, Some, None, Option, ℤ, sym, refl, ap, ◌∙◌, subst, inl, inr, arith}
use Rattle.std.proofs.lemmas.Bool.{both_ways, cases_lt, eq-eqb, lt-ltb, ltb-true, ne_eqb}
use Rattle.lines.specs.declared.records.Line.{Line}
use Rattle.script.specs.Apart.{Globals, as_global, found, global_of, globals_from, globals_of, head_then, heads, no_globals, own}
use Rattle.script.specs.Names.{Names, Standing, nothing, cell, cells, code}
use Rattle.script.specs.Script.{only}
use Rattle.script.specs.IsScript.{IsScript, same_sort}
use Rattle.script.specs.Lists.{Each}
use Rattle.script.specs.Tree.{nought}
use Rattle.script.proofs.Globals.{global_or}
use Rattle.rule.specs.Local.{Sits}
use Rattle.rule.proofs.Local.{globals_sit}
use Rattle.acceptance.specs.declared.globals.GlobalSort.{GlobalSort}
use Rattle.acceptance.specs.declared.globals.GlobalSort.TheVariants.{Simple, Array}
use Rattle.acceptance.specs.Scripts.{global_standing}
use Rattle.calls.specs.declared.asked.GlobalCell.{GlobalCell}
use Rattle.calls.specs.Globals.{Has, at_index, cell_of}

-- ## No two globals have one sort and name

abbrev sort_of : ℕ → GlobalSort
sort_of zero = Simple
sort_of (suc k) = Array

-- no global of the list has that sort and name
abbrev Fresh : GlobalSort → ℕ → List (ℕ × ℕ) → Type 0
Fresh s a = Each (λ p. ¬ ((sort_of p.1 ≡ s) × (p.0 ≡ a)))

abbrev Differ : List (ℕ × ℕ) → Type 0
Differ [] = Unit {0}
Differ (p ∷ ps) = Fresh (sort_of p.1) p.0 ps × Differ ps

sorts_differ : (b c : ℕ) → same_sort b c ≡ false → ¬ (sort_of c ≡ sort_of b)
sorts_differ zero zero e h = both_ways true e refl
sorts_differ zero (suc c) e h = cc
sorts_differ (suc b) zero e h = cc
sorts_differ (suc b) (suc c) e h = both_ways true e refl

fresh_heads : (s : GlobalSort) (a : ℕ) (ls : List Line)
    → ((n x b : ℕ) → n < length ls → get_or ls n nought ≡ Line.Global x b → ¬ ((sort_of b ≡ s) × (x ≡ a))) → Fresh s a (heads ls)
fresh_heads s a [] h = tt
fresh_heads s a (l ∷ ls) h = elim (global_or l) [
  | inl w ↦ subst (λ o. Fresh s a (head_then o (heads ls))) (sym w.0) tt
  | inr g ↦ subst (λ k. Fresh s a (head_then (as_global k) (heads ls))) (sym g.2)
      (h 0 g.0 g.1 (omega arith) g.2, fresh_heads s a ls (λ n x b q. h (suc n) x b (omega (arith, q))))
]

abbrev DifferIn : List Line → Type 0
DifferIn ls = (m n a b c : ℕ) → m < n → n < length ls → get_or ls m nought ≡ Line.Global a b → get_or ls n nought ≡ Line.Global a c → same_sort b c ≡ false

heads_differ : (ls : List Line) → DifferIn ls → Differ (heads ls)
heads_differ [] h = tt
heads_differ (l ∷ ls) h = elim (global_or l) [
  | inl w ↦ subst (λ o. Differ (head_then o (heads ls))) (sym w.0) tt
  | inr g ↦ subst (λ k. Differ (head_then (as_global k) (heads ls))) (sym g.2) (
    fresh_heads (sort_of g.1) g.0 ls (λ n x c q e k.
        sorts_differ g.1 c (h 0 (suc n) g.0 g.1 c (omega arith) (omega (arith, q)) g.2 (e ∙ ap (λ y. Line.Global y c) k.1)) k.0),
    heads_differ ls (λ m n a b c p q. h (suc m) (suc n) a b c (omega (arith, p)) (omega (arith, q))),
  )
]

-- ## Line by line

abbrev found_in : Globals → GlobalSort → ℕ → ℕ
found_in g Simple a = found g.scope.simples a
found_in g Array a = found g.scope.arrays a

-- a cell of the globals before line n, which no global of the list behind hides
record Reached (g : Globals) (n : ℕ) (behind : List (ℕ × ℕ)) (c : ℕ) : Type 0 where
  sort : GlobalSort
  name : ℕ
  index : ℕ
  at : ℕ
  before : at < n
  is : found_in g sort name ≡ own at
  cell : at_index (g.names (own at)) index ≡ Some c
  fresh : Fresh sort name behind

module _ (n a : ℕ) (g : Globals) where
  found_still : (b : ℕ) (s : GlobalSort) (x : ℕ) → ¬ ((sort_of b ≡ s) × (a ≡ x)) → found_in (global_of n a b g) s x ≡ found_in g s x
  found_still zero Simple x h = ap (λ t. elim t [ true ↦ own n | false ↦ found g.scope.simples x ]) (ne_eqb a x (λ e. h (refl, e)))
  found_still zero Array x h = refl
  found_still (suc k) Simple x h = refl
  found_still (suc k) Array x h = ap (λ t. elim t [ true ↦ own n | false ↦ found g.scope.arrays x ]) (ne_eqb a x (λ e. h (refl, e)))

  names_still : (b l : ℕ) → l < n → (global_of n a b g).names (own l) ≡ g.names (own l)
  names_still zero l q = ap (λ t. elim t [ true ↦ cell g.taken | false ↦ g.names (own l) ]) (ne_eqb (own n) (own l) (λ e. omega (arith, e, q)))
  names_still (suc k) l q = ap (λ t. elim t [ true ↦ cells g.taken (suc k) | false ↦ g.names (own l) ]) (ne_eqb (own n) (own l) (λ e. omega (arith, e, q)))

  still : (b c : ℕ) (behind : List (ℕ × ℕ)) → Reached g n ((a, b) ∷ behind) c → Reached (global_of n a b g) (suc n) behind c
  still b c behind r = record {
    sort = r.sort;
    name = r.name;
    index = r.index;
    at = r.at;
    before = let q = r.before in omega (arith, q);
    is = found_still b r.sort r.name r.fresh.0 ∙ r.is;
    cell = ap (λ s. at_index s r.index) (names_still b r.at r.before) ∙ r.cell;
    fresh = r.fresh.1;
  }

  names_new : (s : Standing) (f : Names) → only (own n) s f (own n) ≡ s
  names_new s f = ap (λ t. elim t [ true ↦ s | false ↦ f (own n) ]) (eq-eqb (own n) (own n) refl)

  found_new : (ps : List (ℕ × ℕ)) → found ((a, own n) ∷ ps) a ≡ own n
  found_new ps = ap (λ t. elim t [ true ↦ own n | false ↦ found ps a ]) (eq-eqb a a refl)

  here : (b c : ℕ) (behind : List (ℕ × ℕ)) → Fresh (sort_of b) a behind → g.taken ≤ c → c < (global_of n a b g).taken → Reached (global_of n a b g) (suc n) behind c
  here zero c behind f q h = record {
    sort = Simple;
    name = a;
    index = 0;
    at = n;
    before = omega arith;
    is = found_new g.scope.simples;
    cell = ap (λ s. at_index s 0) (names_new (cell g.taken) g.names) ∙ ap Some (let e : g.taken ≡ c = omega (arith, q, h) in e);
    fresh = f;
  }
  here (suc k) c behind f q h =
      let i : ℕ = c - g.taken in
      let e : g.taken + i ≡ c = omega (arith, q) in record {
        sort = Array;
        name = a;
        index = i;
        at = n;
        before = omega arith;
        is = found_new g.scope.arrays;
        cell =
            ap (λ s. at_index s i) (names_new (cells g.taken (suc k)) g.names)
            ∙ ap (λ t. cond t (Some (g.taken + i)) None) (lt-ltb i (suc k) (omega (arith, q, h)))
            ∙ ap Some e;
        fresh = f;
      }

-- all cells of the globals, to the end of a list of them
abbrev ReachedAll : ℕ → List (ℕ × ℕ) → Globals → Type 0
ReachedAll n behind g = (c : ℕ) → c < g.taken → Reached g n behind c

one_more : (n a b : ℕ) (behind : List (ℕ × ℕ)) (g : Globals) → Fresh (sort_of b) a behind → ReachedAll n ((a, b) ∷ behind) g → ReachedAll (suc n) behind (global_of n a b g)
one_more n a b behind g f h c q = elim (cases_lt c g.taken) [
  | inl w ↦ still n a g b c behind (h c w)
  | inr w ↦ here n a g b c behind f w q
]

all : (n : ℕ) (ps : List (ℕ × ℕ)) (g : Globals) → Differ ps → ReachedAll n ps g → (m : ℕ) × ReachedAll m [] (globals_from n ps g)
all n [] g d h = (n, h)
all n (p ∷ ps) g d h = all (suc n) ps (global_of n p.0 p.1 g) d.1 (one_more n p.0 p.1 ps g d.0 h)

stands : (ls : List Line) (s : GlobalSort) (a : ℕ) → global_standing ls s a ≡ (globals_of ls).names (found_in (globals_of ls) s a)
stands ls Simple a = refl
stands ls Array a = refl

pub named : (low high : ℤ) (ls : List Line) → IsScript low high ls → (c : ℕ) → c < (globals_of ls).taken → (g : GlobalCell) × (cell_of ls g ≡ Some c)
named low high ls s c h =
    let differ = heads_differ ls (λ m n a b e p q. s.globals_differ (suc m) (suc n) a b e (omega arith) (omega (arith, p)) (omega (arith, q))) in
    let r = (all 1 (heads ls) no_globals differ (λ d k. absurd (omega (arith, k)))).1 c h in (
      record { sort = r.sort; name = r.name; index = r.index },
      ap (λ (x : Standing). at_index x r.index) (stands ls r.sort r.name ∙ ap (globals_of ls).names r.is) ∙ r.cell,
    )

-- ## And the other way

some_same : (m n : ℕ) → ◌≡◌ {A = Option ℕ} (Some m) (Some n) → m ≡ n
some_same m n e = cc

none_some : (n : ℕ) → ◌≡◌ {A = Option ℕ} None (Some n) → ⊥
none_some n e = cc

index_in : (b n i c : ℕ) (t : Bool) → nat_lt i n ≡ t → cond t (Some (b + i)) None ≡ Some c → (b ≤ c) × (c < b + n)
index_in b n i c true e h = let k = some_same (b + i) c h in let l = ltb-true i n e in (omega (arith, k), omega (arith, k, l))
index_in b n i c false e h = absurd (none_some c h)

pub index_has : (s : Standing) (i c : ℕ) → at_index s i ≡ Some c → Has s c
index_has nothing i c e = absurd (none_some c e)
index_has (cell d) zero c e = sym (some_same d c e)
index_has (cell d) (suc i) c e = absurd (none_some c e)
index_has (cells b n) i c e = index_in b n i c (nat_lt i n) refl e
index_has (code x y s) i c e = absurd (none_some c e)

pub has_below : (u : ℕ) (s : Standing) (c : ℕ) → Sits u s → Has s c → c < u
has_below u nothing c q h = absurd h
has_below u (cell d) c q h = omega (arith, q, h)
has_below u (cells b n) c q h = omega (arith, q, h.1)
has_below u (code x y s) c q h = absurd h

-- a sort, a name and an index have only cells of the globals
pub cell_taken : (ls : List Line) (g : GlobalCell) (c : ℕ) → cell_of ls g ≡ Some c → c < (globals_of ls).taken
cell_taken ls g c e =
    has_below (globals_of ls).taken (global_standing ls g.sort g.name) c
    (subst (Sits (globals_of ls).taken) (sym (stands ls g.sort g.name)) (globals_sit ls (found_in (globals_of ls) g.sort g.name)))
    (index_has (global_standing ls g.sort g.name) g.index c e)
