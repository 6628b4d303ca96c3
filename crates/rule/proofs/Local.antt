-- Cells that are not in use do not matter.
use Rattle.std.proofs.Common.{◌≡◌, ℕ, zero, suc, ◌+◌, ◌<◌, ◌≤◌, Bool, true, false, not, T, eqb, ltb, leb, List, [], ◌∷◌, ◌++◌, length, get_or, take, set, sym, refl, ap, ◌∙◌, subst, le_trans, le_refl, add-zero, add-suc, suc-add, add-one, arith, ltb→lt}
use Rattle.kinds.specs.Arithmetic.{Arithmetic}
use Rattle.rule.specs.Work.{Work, gives, faults, next}
use Rattle.script.specs.Script.{Place, simple, element, fixed, Expression, constant, word_of, work, choose, Condition, truth, compared, negated, implies}
use Rattle.script.specs.Script.{Statement, assign, both, branch, call, new_simple, new_array, system, Declarations, procedure, joined, only}
use Rattle.script.specs.Names.{Names, Standing, nothing, cell, cells, code}
use Rattle.script.specs.Apart.{Globals, global_of, globals_from, globals_of, heads, no_globals, own}
use Rattle.lines.specs.declared.records.Line.{Line}
use Rattle.rule.specs.Values.{cell_of, element_of, within, indexed, material, operate, compare, cell_at, value, holds}
use Rattle.rule.specs.Rewriting.{cleared, Ending, finished, stopped, fault}
use Rattle.rule.specs.Machine.{Env, outside, simple_in, array_in, system_in, Found, unknown, closure, among, procedure_at, standing, Item, Moved, moves, refuses, tried, deeper, enters, move, machine}
use Rattle.rule.specs.Closing.{own_fetch, own_room}
use Rattle.rule.specs.Local.{Sits, Bounded, Orderly, Agree, SameHalt, Local}
use Rattle.rule.proofs.Resume.{runs_on, onward}

-- stores that agree below u, cell by cell
abbrev pub Even : ℕ → List ℕ → List ℕ → Type 0
Even u [] [] = Unit {0}
Even u [] (y ∷ ys) = ⊥
Even u (x ∷ xs) [] = ⊥
Even zero (x ∷ xs) (y ∷ ys) = Even zero xs ys
Even (suc u) (x ∷ xs) (y ∷ ys) = (x ≡ y) × Even u xs ys

pub even_agree : (u : ℕ) (σ τ : List ℕ) → Even u σ τ → Agree u σ τ
even_agree u [] [] h = record { front = refl; long = refl }
even_agree u [] (y ∷ ys) h = absurd h
even_agree u (x ∷ xs) [] h = absurd h
even_agree zero (x ∷ xs) (y ∷ ys) h = record { front = refl; long = ap suc (even_agree zero xs ys h).long }
even_agree (suc u) (x ∷ xs) (y ∷ ys) h = let a = even_agree u xs ys h.1 in record { front = λ j. h.0 j ∷ a.front j; long = ap suc a.long }

pub agree_even : (u : ℕ) (σ τ : List ℕ) → take u σ ≡ take u τ → length σ ≡ length τ → Even u σ τ
agree_even u [] [] f h = tt
agree_even u [] (y ∷ ys) f h = absurd (omega arith)
agree_even u (x ∷ xs) [] f h = absurd (omega arith)
agree_even zero (x ∷ xs) (y ∷ ys) f h = agree_even zero xs ys refl (omega arith)
agree_even (suc u) (x ∷ xs) (y ∷ ys) f h = ((cc), agree_even u xs ys (cc) (omega arith))

even_less : (u v : ℕ) (σ τ : List ℕ) → v ≤ u → Even u σ τ → Even v σ τ
even_less u v [] [] h e = tt
even_less u v [] (y ∷ ys) h e = e
even_less u v (x ∷ xs) [] h e = e
even_less zero zero (x ∷ xs) (y ∷ ys) h e = e
even_less zero (suc v) (x ∷ xs) (y ∷ ys) h e = absurd (omega arith)
even_less (suc u) zero (x ∷ xs) (y ∷ ys) h e = even_less u zero xs ys (omega arith) e.1
even_less (suc u) (suc v) (x ∷ xs) (y ∷ ys) h e = (e.0, even_less u v xs ys (omega arith) e.1)

even_set : (u : ℕ) (σ τ : List ℕ) (c w : ℕ) → Even u σ τ → Even u (set σ c w) (set τ c w)
even_set u [] [] c w e = tt
even_set u [] (y ∷ ys) c w e = absurd e
even_set u (x ∷ xs) [] c w e = absurd e
even_set zero (x ∷ xs) (y ∷ ys) zero w e = e
even_set zero (x ∷ xs) (y ∷ ys) (suc c) w e = even_set zero xs ys c w e
even_set (suc u) (x ∷ xs) (y ∷ ys) zero w e = (refl, e.1)
even_set (suc u) (x ∷ xs) (y ∷ ys) (suc c) w e = (e.0, even_set u xs ys c w e.1)

even_more : (u : ℕ) (σ τ : List ℕ) (w : ℕ) → Even u σ τ → Even (suc u) (set σ u w) (set τ u w)
even_more u [] [] w e = tt
even_more u [] (y ∷ ys) w e = absurd e
even_more u (x ∷ xs) [] w e = absurd e
even_more zero (x ∷ xs) (y ∷ ys) w e = (refl, e)
even_more (suc u) (x ∷ xs) (y ∷ ys) w e = (e.0, even_more u xs ys w e.1)

even_cleared : (n u : ℕ) (σ τ : List ℕ) (w : ℕ) → Even u σ τ → Even (u + n) (cleared n u w σ) (cleared n u w τ)
even_cleared zero u σ τ w e = subst (λ (k : ℕ). Even k σ τ) (sym (add-zero u)) e
even_cleared (suc n) u σ τ w e =
    subst (λ (k : ℕ). Even k (cleared n (suc u) w (set σ u w)) (cleared n (suc u) w (set τ u w))) (suc-add u n ∙ sym (add-suc u n))
    (even_cleared n (suc u) (set σ u w) (set τ u w) w (even_more u σ τ w e))

even_get : (u : ℕ) (σ τ : List ℕ) → Even u σ τ → (c : ℕ) → c < u → get_or σ c 0 ≡ get_or τ c 0
even_get u [] [] e c h = refl
even_get u [] (y ∷ ys) e c h = absurd e
even_get u (x ∷ xs) [] e c h = absurd e
even_get zero (x ∷ xs) (y ∷ ys) e c h = absurd (omega arith)
even_get (suc u) (x ∷ xs) (y ∷ ys) e zero h = e.0
even_get (suc u) (x ∷ xs) (y ∷ ys) e (suc c) h = even_get u xs ys e.1 c (omega arith)

-- every cell that a place gives is in use
abbrev pub Below : ℕ → Work ℕ → Type 0
Below u (gives c) = c < u
Below u (faults n) = Unit {0}

next_below : {A : Type 0} (u : ℕ) (w : Work A) (f : A → Work ℕ) → ((a : A) → Below u (f a)) → Below u (next w f)
next_below u (gives a) f h = h a
next_below u (faults n) f h = tt

within_below : (u b n i : ℕ) → b + n ≤ u → Below u (within b n i)
within_below u b n i h = go (ltb i n) refl
  where
    go : (t : Bool) → ltb i n ≡ t → Below u (elim t [ true ↦ gives (b + i) | false ↦ faults 23 ])
    go true e = let l = ltb→lt i n (subst T (sym e) tt) in omega arith
    go false e = tt

element_below : (u : ℕ) (s : Standing) → Sits u s → (i : ℕ) → Below u (element_of s i)
element_below u nothing h i = tt
element_below u (cell c) h i = tt
element_below u (cells b n) h i = within_below u b n i h
element_below u (code x y s) h i = tt

simple_below : (u : ℕ) (s : Standing) → Sits u s → Below u (cell_of s)
simple_below u nothing h = tt
simple_below u (cell c) h = h
simple_below u (cells b n) h = tt
simple_below u (code x y s) h = tt

module _ (K : Arithmetic) (E : Names) (u : ℕ) (sits : (z : ℕ) → Sits u (E z)) where
  pub place_below : (fetch : ℕ → Work ℕ) (p : Place) → Below u (cell_at K E fetch p)
  place_below fetch (simple x) = simple_below u (E x) (sits x)
  place_below fetch (element a i) = next_below u (value K E fetch i) _ (λ w. next_below u (indexed (K.index w)) _ (element_below u (E a) (sits a)))
  place_below fetch (fixed a i) = element_below u (E a) (sits a) i

  module _ (f g : ℕ → Work ℕ) (like : (c : ℕ) → c < u → f c ≡ g c) where
    fetched : (w : Work ℕ) → Below u w → next w f ≡ next w g
    fetched (gives c) h = like c h
    fetched (faults n) h = refl

    mutual
      pub same_cell : (p : Place) → cell_at K E f p ≡ cell_at K E g p
      same_cell (simple x) = refl
      same_cell (element a i) = λ j. next (same_value i j) (λ w. next (indexed (K.index w)) (element_of (E a)))
      same_cell (fixed a i) = refl

      pub same_value : (e : Expression) → value K E f e ≡ value K E g e
      same_value (constant n) = refl
      same_value (word_of p) = ap (λ (w : Work ℕ). next w f) (same_cell p) ∙ fetched (cell_at K E g p) (place_below g p)
      same_value (work o a b) = λ j. next (same_value a j) (λ v. next (same_value b j) (operate K o v))
      same_value (choose c a b) = λ j. let x = same_value a j in let y = same_value b j in next (same_truth c j) (λ t. elim t [ true ↦ x | false ↦ y ])

      pub same_truth : (c : Condition) → holds K E f c ≡ holds K E g c
      same_truth (truth b) = refl
      same_truth (compared r a b) = λ j. next (same_value a j) (λ v. next (same_value b j) (λ w. gives (compare K r v w)))
      same_truth (negated c) = λ j. next (same_truth c j) (λ t. gives (not t))
      same_truth (implies c d) = λ j. next (same_truth c j) (λ t. next (same_truth d j) (λ v. gives (material t v)))

pub only_sits : (u x : ℕ) (s : Standing) (f : Names) → Sits u s → ((z : ℕ) → Sits u (f z)) → (z : ℕ) → Sits u (only x s f z)
only_sits u x s f h k z = go (eqb x z)
  where
    go : (b : Bool) → Sits u (elim b [ true ↦ s | false ↦ f z ])
    go true = h
    go false = k z

pub sits_more : (u v : ℕ) → u ≤ v → (s : Standing) → Sits u s → Sits v s
sits_more u v h nothing k = tt
sits_more u v h (cell c) k = omega arith
sits_more u v h (cells b n) k = omega arith
sits_more u v h (code x y s) k = tt

-- the globals' names stand for cells below those that are taken
one_sits : (n a b : ℕ) (g : Globals) → ((z : ℕ) → Sits g.taken (g.names z)) → (z : ℕ) → Sits (global_of n a b g).taken ((global_of n a b g).names z)
one_sits n a zero g h = only_sits (g.taken + 1) (own n) (cell g.taken) g.names (omega arith) (λ z. sits_more g.taken (g.taken + 1) (omega arith) (g.names z) (h z))
one_sits n a (suc k) g h =
    only_sits (g.taken + suc k) (own n) (cells g.taken (suc k)) g.names (le_refl (g.taken + suc k)) (λ z. sits_more g.taken (g.taken + suc k) (omega arith) (g.names z) (h z))

all_sit : (n : ℕ) (ps : List (ℕ × ℕ)) (g : Globals) → ((z : ℕ) → Sits g.taken (g.names z)) → (z : ℕ) → Sits (globals_from n ps g).taken ((globals_from n ps g).names z)
all_sit n [] g h = h
all_sit n (p ∷ ps) g h = all_sit (suc n) ps (global_of n p.0 p.1 g) (one_sits n p.0 p.1 g h)

pub globals_sit : (ls : List Line) (z : ℕ) → Sits (globals_of ls).taken ((globals_of ls).names z)
globals_sit ls = all_sit 1 (heads ls) no_globals (λ z. tt)

pub standing_sits : (G : Names) (u : ℕ) → ((z : ℕ) → Sits u (G z)) → (ρ : Env) → Bounded ρ u → (z : ℕ) → Sits u (standing G ρ z)
standing_sits G u h outside b = h
standing_sits G u h (simple_in x c ρ) b = only_sits u x (cell c) (standing G ρ) b.0 (standing_sits G u h ρ b.1)
standing_sits G u h (array_in a c n ρ) b = only_sits u a (cells c n) (standing G ρ) b.0 (standing_sits G u h ρ b.1)
standing_sits G u h (system_in d ρ) b = standing_sits G u h ρ b

pub bounded_more : (u v : ℕ) → u ≤ v → (ρ : Env) → Bounded ρ u → Bounded ρ v
bounded_more u v h outside b = tt
bounded_more u v h (simple_in x c ρ) b = (le_trans b.0 h, bounded_more u v h ρ b.1)
bounded_more u v h (array_in a c n ρ) b = (le_trans b.0 h, bounded_more u v h ρ b.1)
bounded_more u v h (system_in d ρ) b = bounded_more u v h ρ b

abbrev pub Closed : ℕ → Found → Type 0
Closed u unknown = Unit {0}
Closed u (closure x y s ρ) = Bounded ρ u

among_closed : (u : ℕ) (d : Declarations) (ρ : Env) (g : ℕ → Found) → Bounded ρ u → ((q : ℕ) → Closed u (g q)) → (q : ℕ) → Closed u (among d ρ g q)
among_closed u (procedure l z x y s) ρ g b h q = go (eqb z q)
  where
    go : (t : Bool) → Closed u (elim t [ true ↦ closure x y s ρ | false ↦ g q ])
    go true = b
    go false = h q
among_closed u (joined d e) ρ g b h q = among_closed u e ρ (among d ρ g) b (among_closed u d ρ g b h) q

pub found_closed : (u : ℕ) (ρ : Env) → Bounded ρ u → (q : ℕ) → Closed u (procedure_at ρ q)
found_closed u outside b q = tt
found_closed u (simple_in x c ρ) b q = found_closed u ρ b.1 q
found_closed u (array_in a c n ρ) b q = found_closed u ρ b.1 q
found_closed u (system_in d ρ) b q = among_closed u d (system_in d ρ) (procedure_at ρ) b (found_closed u ρ b) q

orderly_least : (taken u : ℕ) (ps : List Item) → Orderly taken u ps → taken ≤ u
orderly_least taken u [] o = o
orderly_least taken u (p ∷ ps) o = le_trans (orderly_least taken p.used ps o.2) o.0

orderly_more : (taken u v : ℕ) → u ≤ v → (ps : List Item) → Orderly taken u ps → Orderly taken v ps
orderly_more taken u v h [] o = le_trans o h
orderly_more taken u v h (p ∷ ps) o = (le_trans o.0 h, o.1, o.2)

data Together (taken : ℕ) (ps : List Item) (a b : Moved) : Type 0 where
  both_refuse : (f l : ℕ) (σ τ : List ℕ) (u : ℕ) → a ≡ refuses f l σ → b ≡ refuses f l τ → Even u σ τ → taken ≤ u → Together taken ps a b
  both_move : (qs : List Item) (σ τ : List ℕ) (u : ℕ) → a ≡ moves qs σ → b ≡ moves qs τ → Even u σ τ → Orderly taken u (qs ++ ps) → Together taken ps a b

module _ (taken : ℕ) (ps : List Item) where
  module _ (used : ℕ) (σ τ : List ℕ) (e : Even used σ τ) (o : Orderly taken used ps) where
    refuse_both : (f l : ℕ) → Together taken ps (refuses f l σ) (refuses f l τ)
    refuse_both f l = both_refuse f l σ τ used refl refl e (orderly_least taken used ps o)

    deeper_both : (size l level more : ℕ) (a b : Moved) → Together taken ps a b
        → Together taken ps (deeper size l level used more σ a) (deeper size l level used more τ b)
    deeper_both size l level more a b k = go (ltb level 512) (leb (used + more) size)
      where
        go : (p q : Bool) → Together taken ps (elim p [ true ↦ elim q [ true ↦ a | false ↦ refuses 25 l σ ] | false ↦ refuses 24 l σ ])
            (elim p [ true ↦ elim q [ true ↦ b | false ↦ refuses 25 l τ ] | false ↦ refuses 24 l τ ])
        go true true = k
        go true false = refuse_both 25 l
        go false q = refuse_both 24 l

    tried_both : {A : Type 0} (l : ℕ) (w v : Work A) → w ≡ v → (f g : A → Moved) → ((a : A) → Together taken ps (f a) (g a))
        → Together taken ps (tried l σ w f) (tried l τ v g)
    tried_both {A} l w v e f g h = subst (λ (x : Work A). Together taken ps (tried l σ w f) (tried l τ x g)) e (go w)
      where
        go : (x : Work A) → Together taken ps (tried l σ x f) (tried l τ x g)
        go (gives a) = h a
        go (faults n) = refuse_both n l

    tried_cell : (u l : ℕ) (w v : Work ℕ) → w ≡ v → Below u w → (f g : ℕ → Moved) → ((c : ℕ) → c < u → Together taken ps (f c) (g c))
        → Together taken ps (tried l σ w f) (tried l τ v g)
    tried_cell u l w v e b f g h = subst (λ (x : Work ℕ). Together taken ps (tried l σ w f) (tried l τ x g)) e (go w b)
      where
        go : (x : Work ℕ) → Below u x → Together taken ps (tried l σ x f) (tried l τ x g)
        go (gives a) k = h a k
        go (faults n) k = refuse_both n l

  module _ (K : Arithmetic) (size : ℕ) (G : Names) (globals : (z : ℕ) → Sits taken (G z)) where
    enters_both : (d : Found) (l level used : ℕ) (σ τ : List ℕ) (w c : ℕ) → Closed used d → c < used → Even used σ τ → Orderly taken used ps
        → Together taken ps (enters K size own_fetch own_room G d l level used σ w c) (enters K size own_fetch own_room G d l level used τ w c)
    enters_both unknown l level used σ τ w c b h e o = refuse_both used σ τ e o 0 l
    enters_both (closure x y body ρ) l level used σ τ w c b h e o =
        deeper_both used σ τ e o size l level 1 _ _
        (both_move _ (set σ used w) (set τ used w) (used + 1) refl refl (rw add-one (even_more used σ τ w e))
        (le_refl (used + 1), (omega arith, (omega arith, bounded_more used (used + 1) (omega arith) ρ b)), orderly_more taken used (used + 1) (omega arith) ps o))

    sits : (used : ℕ) (ρ : Env) → Bounded ρ used → Orderly taken used ps → (z : ℕ) → Sits used (standing G ρ z)
    sits used ρ b o = standing_sits G used (λ z. sits_more taken used (orderly_least taken used ps o) (G z) (globals z)) ρ b

    fetches : (used : ℕ) (σ τ : List ℕ) → Even used σ τ → (c : ℕ) → c < used → own_fetch σ c ≡ own_fetch τ c
    fetches used σ τ e c h = ap {B = Work ℕ} gives (even_get used σ τ e c h)

    moves_both : (s : Statement) (level used : ℕ) (ρ : Env) (σ τ : List ℕ) → Bounded ρ used → Even used σ τ → Orderly taken used ps
        → Together taken ps (move K size own_fetch own_room G s level used ρ σ) (move K size own_fetch own_room G s level used ρ τ)
    moves_both (assign l p x) level used ρ σ τ b e o =
        tried_both used σ τ e o l _ _ (same_value K (standing G ρ) used (sits used ρ b o) (own_fetch σ) (own_fetch τ) (fetches used σ τ e) x) _ _
        (λ w. tried_both used σ τ e o l _ _ (same_cell K (standing G ρ) used (sits used ρ b o) (own_fetch σ) (own_fetch τ) (fetches used σ τ e) p) _ _
        (λ c. both_move [] (set σ c w) (set τ c w) used refl refl (even_set used σ τ c w e) o))
    moves_both (both l s t) level used ρ σ τ b e o =
        deeper_both used σ τ e o size l level 0 _ _ (both_move _ σ τ used refl refl e (le_refl used, b, (le_refl used, b, o)))
    moves_both (branch l c s t) level used ρ σ τ b e o =
        tried_both used σ τ e o l _ _ (same_truth K (standing G ρ) used (sits used ρ b o) (own_fetch σ) (own_fetch τ) (fetches used σ τ e) c) _ _
        (λ v. both_move _ σ τ used refl refl e (le_refl used, b, o))
    moves_both (call l q x p) level used ρ σ τ b e o =
        tried_both used σ τ e o l _ _ (same_value K (standing G ρ) used (sits used ρ b o) (own_fetch σ) (own_fetch τ) (fetches used σ τ e) x) _ _
        (λ w. tried_cell used σ τ e o used l _ _ (same_cell K (standing G ρ) used (sits used ρ b o) (own_fetch σ) (own_fetch τ) (fetches used σ τ e) p)
        (place_below K (standing G ρ) used (sits used ρ b o) (own_fetch σ) p) _ _
        (λ c h. enters_both (procedure_at ρ q) l level used σ τ w c (found_closed used ρ b q) h e o))
    moves_both (new_simple l x s) level used ρ σ τ b e o =
        deeper_both used σ τ e o size l level 1 _ _
        (both_move _ (set σ used K.zero) (set τ used K.zero) (used + 1) refl refl (rw add-one (even_more used σ τ K.zero e))
        (le_refl (used + 1), (omega arith, bounded_more used (used + 1) (omega arith) ρ b), orderly_more taken used (used + 1) (omega arith) ps o))
    moves_both (new_array l a n s) level used ρ σ τ b e o =
        deeper_both used σ τ e o size l level n _ _
        (both_move _ (cleared n used K.zero σ) (cleared n used K.zero τ) (used + n) refl refl (even_cleared n used σ τ K.zero e)
        (le_refl (used + n), (le_refl (used + n), bounded_more used (used + n) (omega arith) ρ b), orderly_more taken used (used + n) (omega arith) ps o))
    moves_both (system l d s) level used ρ σ τ b e o =
        deeper_both used σ τ e o size l level 0 _ _ (both_move _ σ τ used refl refl e (le_refl used, b, o))

module _ (K : Arithmetic) (size : ℕ) (G : Names) (taken : ℕ) (globals : (z : ℕ) → Sits taken (G z)) where
  ends_so : (u : ℕ) (a : Ending) (k : ℕ) (σ τ : List ℕ) → taken ≤ u → Even u σ τ
      → SameHalt taken (record { ending = a; left = k; store = σ }) (record { ending = a; left = k; store = τ })
  ends_so u a k σ τ h e = record { ending = refl; left = refl; store = even_agree taken σ τ (even_less u taken σ τ h e) }

  locally : (n u : ℕ) (ps : List Item) (σ τ : List ℕ) → Orderly taken u ps → Even u σ τ
      → SameHalt taken (machine K size own_fetch own_room G n ps σ) (machine K size own_fetch own_room G n ps τ)
  locally zero u [] σ τ o e = ends_so u finished 0 σ τ o e
  locally zero u (p ∷ ps) σ τ o e = ends_so u stopped 0 σ τ (orderly_least taken u (p ∷ ps) o) e
  locally (suc n) u [] σ τ o e = ends_so u finished (suc n) σ τ o e
  locally (suc n) u (p ∷ ps) σ τ o e =
      rw (runs_on K size own_fetch own_room G n p ps σ, runs_on K size own_fetch own_room G n p ps τ)
      (go _ _ (moves_both taken ps K size G globals p.text p.level p.used p.env σ τ o.1 (even_less u p.used σ τ o.0 e) o.2)
      (λ qs v σ' τ'. locally n v (qs ++ ps) σ' τ'))
    where
      go : (a b : Moved) → Together taken ps a b
          → ((qs : List Item) (v : ℕ) (σ' τ' : List ℕ) → Orderly taken v (qs ++ ps) → Even v σ' τ'
          → SameHalt taken (machine K size own_fetch own_room G n (qs ++ ps) σ') (machine K size own_fetch own_room G n (qs ++ ps) τ'))
          → SameHalt taken (onward K size own_fetch own_room G n ps a) (onward K size own_fetch own_room G n ps b)
      go a b (both_refuse f l σ' τ' v ea eb k h) ih = rw (ea, eb) (ends_so v (fault f l) n σ' τ' h k)
      go a b (both_move qs σ' τ' v ea eb k w) ih = rw (ea, eb) (ih qs v σ' τ' w k)

pub runs_locally : Local
runs_locally K size G taken globals n u ps σ τ o a = locally K size G taken globals n u ps σ τ o (agree_even u σ τ a.front a.long)
