-- A kind's operations on lawful words give lawful words, and so words stay lawful in a machine's run.
use Rattle.std.proofs.Common.{ℕ, zero, suc, ◌+◌, ◌<◌, ◌≤◌, Bool, true, false, eqb, ltb, leb, List, [], ◌∷◌, ◌++◌, length, get_or, take, set, sym, ◌∙◌, subst, le_trans, le_refl, add-zero, add-suc, suc-add, add-one, arith, Ok, Err, Result}
use Rattle.kinds.specs.declared.fault.ArithmeticFault.{ArithmeticFault}
use Rattle.kinds.specs.Arithmetic.{Arithmetic, Laws, LawfulResult}
use Rattle.lines.specs.declared.sorts.Operator.{Operator}
use Rattle.lines.specs.declared.sorts.Operator.TheVariants.{Plus, Minus, Times, Over}
use Rattle.script.specs.Script.{Expression, constant, word_of, work, choose}
use Rattle.script.specs.Script.{Statement, assign, both, branch, call, new_simple, new_array, system, Declarations, procedure, joined}
use Rattle.script.specs.Names.{Names}
use Rattle.script.specs.Apart.{globals_of}
use Rattle.script.specs.Lists.{Each}
use Rattle.script.proofs.Lists.{each_append}
use Rattle.rule.specs.Work.{Work, gives, faults, next, of_kind}
use Rattle.rule.specs.Values.{operate, value, cell_at, holds}
use Rattle.rule.specs.Rewriting.{cleared}
use Rattle.rule.specs.Machine.{Env, outside, simple_in, array_in, system_in, Found, unknown, closure, among, procedure_at, standing, Item, Moved, moves, refuses, tried, deeper, stored, enters, move}
use Rattle.rule.specs.Closing.{program_of, first_items}
use Rattle.rule.specs.Local.{Sits, Bounded}
use Rattle.rule.specs.Resume.{advance, machine_step}
use Rattle.rule.specs.Tidy.{Tidy}
use Rattle.rule.specs.Lawful.{StaysLawful, LawfulWord, LawfulWork, LawfulBelow, LawfulExpression, LawfulText, LawfulDeclarations, ReadsLawfully, LawfulAt, LawfulState}
use Rattle.rule.proofs.Local.{Below, place_below, globals_sit}
use Rattle.rule.proofs.Resume.{onto, comes_to}
use Rattle.rule.proofs.Constants.{script_lawful}
use Rattle.rule.proofs.Tidy.{in_use, Kept, move_kept, first_tidy}

-- the words of the cells below u
module _ (Q : ℕ → Type 0) where
  abbrev Words : ℕ → List ℕ → Type 0
  Words u σ = Each Q (take u σ)

  pub words_less : (u v : ℕ) (σ : List ℕ) → v ≤ u → Words u σ → Words v σ
  words_less u zero σ h e = tt
  words_less zero (suc v) σ h e = absurd (omega arith)
  words_less (suc u) (suc v) [] h e = tt
  words_less (suc u) (suc v) (x ∷ xs) h e = (e.0, words_less u v xs (omega arith) e.1)

  words_set : (u : ℕ) (σ : List ℕ) (c w : ℕ) → Q w → Words u σ → Words u (set σ c w)
  words_set zero σ c w q e = tt
  words_set (suc u) [] c w q e = tt
  words_set (suc u) (x ∷ xs) zero w q e = (q, e.1)
  words_set (suc u) (x ∷ xs) (suc c) w q e = (e.0, words_set u xs c w q e.1)

  words_more : (u : ℕ) (σ : List ℕ) (w : ℕ) → Q w → Words u σ → Words (suc u) (set σ u w)
  words_more u [] w q e = tt
  words_more zero (x ∷ xs) w q e = (q, tt)
  words_more (suc u) (x ∷ xs) w q e = (e.0, words_more u xs w q e.1)

  words_cleared : (n u w : ℕ) (σ : List ℕ) → Q w → Words u σ → Words (u + n) (cleared n u w σ)
  words_cleared zero u w σ q e = subst (λ (k : ℕ). Words k σ) (sym (add-zero u)) e
  words_cleared (suc n) u w σ q e =
      subst (λ (k : ℕ). Words k (cleared n (suc u) w (set σ u w))) (suc-add u n ∙ sym (add-suc u n))
      (words_cleared n (suc u) w (set σ u w) q (words_more u σ w q e))

  pub words_get : (u c d : ℕ) (σ : List ℕ) → c < u → u ≤ length σ → Words u σ → Q (get_or σ c d)
  words_get zero c d σ h l e = absurd (omega arith)
  words_get (suc u) c d [] h l e = absurd (omega arith)
  words_get (suc u) zero d (x ∷ xs) h l e = e.0
  words_get (suc u) (suc c) d (x ∷ xs) h l e = words_get u c d xs (omega arith) (omega arith) e.1

module _ (K : Arithmetic) (L : Laws K) where
  abbrev Word : ℕ → Type 0
  Word = LawfulWord K

  next_lawful : {A : Type 0} (w : Work A) (f : A → Work ℕ) → ((a : A) → LawfulWork K (f a)) → LawfulWork K (next w f)
  next_lawful (gives a) f h = h a
  next_lawful (faults n) f h = tt

  then_lawful : (w : Work ℕ) (f : ℕ → Work ℕ) → LawfulWork K w → ((a : ℕ) → Word a → LawfulWork K (f a)) → LawfulWork K (next w f)
  then_lawful (gives a) f l h = h a l
  then_lawful (faults n) f l h = tt

  cell_lawful : (u : ℕ) (w : Work ℕ) (f : ℕ → Work ℕ) → Below u w → ((c : ℕ) → c < u → LawfulWork K (f c)) → LawfulWork K (next w f)
  cell_lawful u (gives c) f b h = h c b
  cell_lawful u (faults n) f b h = tt

  result_lawful : (r : Result ℕ ArithmeticFault) → LawfulResult K r → LawfulWork K (of_kind r)
  result_lawful (Ok w) h = h
  result_lawful (Err f) h = tt

  operate_lawful : (o : Operator) (v w : ℕ) → Word v → Word w → LawfulWork K (operate K o v w)
  operate_lawful Plus v w a b = result_lawful (K.sum v w) (L.sum_lawful v w a b)
  operate_lawful Minus v w a b = result_lawful (K.difference v w) (L.difference_lawful v w a b)
  operate_lawful Times v w a b = result_lawful (K.product v w) (L.product_lawful v w a b)
  operate_lawful Over v w a b = result_lawful (K.quotient v w) (L.quotient_lawful v w a b)

  choose_lawful : (t : Bool) (x y : Work ℕ) → LawfulWork K x → LawfulWork K y → LawfulWork K (elim t [ true ↦ x | false ↦ y ])
  choose_lawful true x y a b = a
  choose_lawful false x y a b = b

  module _ (E : Names) (u : ℕ) (sits : (z : ℕ) → Sits u (E z)) (fetch : ℕ → Work ℕ) (fetches : (c : ℕ) → c < u → LawfulWork K (fetch c)) where
    value_lawful : (e : Expression) → LawfulExpression K e → LawfulWork K (value K E fetch e)
    value_lawful (constant n) l = l
    value_lawful (word_of p) l = cell_lawful u (cell_at K E fetch p) fetch (place_below K E u sits fetch p) fetches
    value_lawful (work o a b) l =
        then_lawful (value K E fetch a) _ (value_lawful a l.0) (λ v lv. then_lawful (value K E fetch b) _ (value_lawful b l.1) (λ w lw. operate_lawful o v w lv lw))
    value_lawful (choose c a b) l =
        next_lawful (holds K E fetch c) _ (λ t. choose_lawful t (value K E fetch a) (value K E fetch b) (value_lawful a l.1) (value_lawful b l.2))

-- the procedures that an environment has
module _ (K : Arithmetic) where
  abbrev pub LawfulEnv : Env → Type 0
  LawfulEnv outside = Unit {0}
  LawfulEnv (simple_in x c ρ) = LawfulEnv ρ
  LawfulEnv (array_in a b n ρ) = LawfulEnv ρ
  LawfulEnv (system_in d ρ) = LawfulDeclarations K d × LawfulEnv ρ

  abbrev pub LawfulItem : Item → Type 0
  LawfulItem p = LawfulText K p.text × LawfulEnv p.env

  abbrev LawfulFound : Found → Type 0
  LawfulFound unknown = Unit {0}
  LawfulFound (closure x y s ρ) = LawfulText K s × LawfulEnv ρ

  among_lawful : (d : Declarations) (ρ : Env) (g : ℕ → Found) → LawfulDeclarations K d → LawfulEnv ρ → ((q : ℕ) → LawfulFound (g q)) → (q : ℕ) → LawfulFound (among d ρ g q)
  among_lawful (procedure l z x y s) ρ g a b h q = go (eqb z q)
    where
      go : (t : Bool) → LawfulFound (elim t [ true ↦ closure x y s ρ | false ↦ g q ])
      go true = (a, b)
      go false = h q
  among_lawful (joined d e) ρ g a b h q = among_lawful e ρ (among d ρ g) a.1 b (among_lawful d ρ g a.0 b h) q

  found_lawful : (ρ : Env) → LawfulEnv ρ → (q : ℕ) → LawfulFound (procedure_at ρ q)
  found_lawful outside b q = tt
  found_lawful (simple_in x c ρ) b q = found_lawful ρ b q
  found_lawful (array_in a c n ρ) b q = found_lawful ρ b q
  found_lawful (system_in d ρ) b q = among_lawful d (system_in d ρ) (procedure_at ρ) b.0 b (found_lawful ρ b.1) q

-- how many cells are in use where the first of the statements is begun
abbrev pub used_by : ℕ → List Item → ℕ
used_by taken [] = taken
used_by taken (p ∷ ps) = p.used

pub used_falls : (taken m u : ℕ) (ps : List Item) → taken ≤ u → Tidy taken m u ps → used_by taken ps ≤ u
used_falls taken m u [] h t = h
used_falls taken m u (p ∷ ps) h t = t.1

pub used_least : (taken m u : ℕ) (ps : List Item) → Tidy taken m u ps → taken ≤ used_by taken ps
used_least taken m u [] t = le_refl taken
used_least taken m u (p ∷ ps) t = t.2

module _ (K : Arithmetic) (L : Laws K) (taken size : ℕ) (fetch : List ℕ → ℕ → Work ℕ) (reads : ReadsLawfully K fetch) (room : List ℕ → ℕ → Bool)
    (G : Names) (globals : (z : ℕ) → Sits taken (G z)) where
  pub values : (used : ℕ) (ρ : Env) (σ : List ℕ) → taken ≤ used → Bounded ρ used → used ≤ size → size ≤ length σ → LawfulBelow K used σ
      → (e : Expression) → LawfulExpression K e → LawfulWork K (value K (standing G ρ) (fetch σ) e)
  values used ρ σ k b u l h =
      value_lawful K L (standing G ρ) used (in_use taken K size fetch room G globals used ρ k b) (fetch σ) (λ c i. reads σ used c i (le_trans u l) h)

  module _ (ps : List Item) where
    abbrev pub LawfulMoved : Moved → Type 0
    LawfulMoved (moves qs τ) = Each (LawfulItem K) qs × LawfulBelow K (used_by taken (qs ++ ps)) τ
    LawfulMoved (refuses f l τ) = LawfulBelow K taken τ

    module _ (σ : List ℕ) (used : ℕ) (k : taken ≤ used) (h : LawfulBelow K used σ) where
      still : LawfulBelow K taken σ
      still = words_less (LawfulWord K) used taken σ k h

      tried_lawful : {A : Type 0} (l : ℕ) (w : Work A) (f : A → Moved) → ((a : A) → LawfulMoved (f a)) → LawfulMoved (tried l σ w f)
      tried_lawful l (gives a) f g = g a
      tried_lawful l (faults n) f g = still

      tried_word : (l : ℕ) (w : Work ℕ) (f : ℕ → Moved) → LawfulWork K w → ((a : ℕ) → LawfulWord K a → LawfulMoved (f a)) → LawfulMoved (tried l σ w f)
      tried_word l (gives a) f q g = g a q
      tried_word l (faults n) f q g = still

      deeper_lawful : (l level more : ℕ) (m : Moved) → LawfulMoved m → LawfulMoved (deeper size l level used more σ m)
      deeper_lawful l level more m g = go (ltb level 512) (leb (used + more) size)
        where
          go : (p q : Bool) → LawfulMoved (elim p [ true ↦ elim q [ true ↦ m | false ↦ refuses 25 l σ ] | false ↦ refuses 24 l σ ])
          go true true = g
          go true false = still
          go false q = still

    stored_lawful : (b : Bool) (l v : ℕ) (qs : List Item) (τ : List ℕ) → taken ≤ used_by taken (qs ++ ps) → used_by taken (qs ++ ps) ≤ v
        → Each (LawfulItem K) qs → LawfulBelow K v τ → LawfulMoved (stored b l qs τ)
    stored_lawful true l v qs τ i j a h = (a, words_less (LawfulWord K) v (used_by taken (qs ++ ps)) τ j h)
    stored_lawful false l v qs τ i j a h = words_less (LawfulWord K) v taken τ (le_trans i j) h

    enters_lawful : (d : Found) (l level used : ℕ) (σ : List ℕ) (w c : ℕ) → taken ≤ used → LawfulBelow K used σ → LawfulFound K d → LawfulWord K w
        → LawfulMoved (enters K size fetch room G d l level used σ w c)
    enters_lawful unknown l level used σ w c k h d q = still σ used k h
    enters_lawful (closure x y body ρ) l level used σ w c k h d q =
        deeper_lawful σ used k h l level 1 _
        (stored_lawful _ l (used + 1) _ _ (omega arith) (le_refl (used + 1)) ((d.0, d.1), tt) (rw add-one (words_more (LawfulWord K) used σ w q h)))

    pub move_lawful : (s : Statement) (level used : ℕ) (ρ : Env) (σ : List ℕ) → taken ≤ used → used_by taken ps ≤ used → taken ≤ used_by taken ps → Bounded ρ used
        → used ≤ size → size ≤ length σ → LawfulBelow K used σ → LawfulText K s → LawfulEnv K ρ → LawfulMoved (move K size fetch room G s level used ρ σ)
    move_lawful (assign l p x) level used ρ σ k i j b u m h a e =
        tried_word σ used k h l (value K (standing G ρ) (fetch σ) x) _ (values used ρ σ k b u m h x a.1)
        (λ w q. tried_lawful σ used k h l (cell_at K (standing G ρ) (fetch σ) p) _
        (λ c. stored_lawful _ l used [] _ j i tt (words_set (LawfulWord K) used σ c w q h)))
    move_lawful (both l s t) level used ρ σ k i j b u m h a e = deeper_lawful σ used k h l level 0 _ (((a.0, e), ((a.1, e), tt)), h)
    move_lawful (branch l c s t) level used ρ σ k i j b u m h a e =
        tried_lawful σ used k h l (holds K (standing G ρ) (fetch σ) c) _ (λ v. (((go v, e), tt), h))
      where
        go : (v : Bool) → LawfulText K (elim v [ true ↦ s | false ↦ t ])
        go true = a.1
        go false = a.2
    move_lawful (call l q x p) level used ρ σ k i j b u m h a e =
        tried_word σ used k h l (value K (standing G ρ) (fetch σ) x) _ (values used ρ σ k b u m h x a.0)
        (λ w z. tried_lawful σ used k h l (cell_at K (standing G ρ) (fetch σ) p) _
        (λ c. enters_lawful (procedure_at ρ q) l level used σ w c k h (found_lawful K ρ e q) z))
    move_lawful (new_simple l x s) level used ρ σ k i j b u m h a e =
        deeper_lawful σ used k h l level 1 _
        (stored_lawful _ l (used + 1) _ _ (omega arith) (le_refl (used + 1)) ((a, e), tt) (rw add-one (words_more (LawfulWord K) used σ K.zero L.zero_lawful h)))
    move_lawful (new_array l x n s) level used ρ σ k i j b u m h a e =
        deeper_lawful σ used k h l level n _
        (stored_lawful _ l (used + n) _ _ (omega arith) (le_refl (used + n)) ((a, e), tt) (words_cleared (LawfulWord K) n used K.zero σ L.zero_lawful h))
    move_lawful (system l d s) level used ρ σ k i j b u m h a e = deeper_lawful σ used k h l level 0 _ (((a.1, (a.0, e)), tt), h)

  -- a state in order: what is to be begun is tidy and has lawful constants, and the words of the cells in use are lawful
  pub record Sound (ps : List Item) (σ : List ℕ) : Type 0 where
    pub tidy : Tidy taken 513 size ps
    pub items : Each (LawfulItem K) ps
    pub words : LawfulBelow K (used_by taken ps) σ
    pub long : size ≤ length σ

  abbrev pub SoundMoved : List Item → Moved → Type 0
  SoundMoved ps (moves qs τ) = Sound (qs ++ ps) τ
  SoundMoved ps (refuses f l τ) = LawfulBelow K taken τ

  pub sound_on : (p : Item) (ps : List Item) (σ : List ℕ) → Sound (p ∷ ps) σ → SoundMoved ps (move K size fetch room G p.text p.level p.used p.env σ)
  sound_on p ps σ s = let t = s.tidy in
      go (move K size fetch room G p.text p.level p.used p.env σ)
      (move_kept taken K size fetch room G globals ps σ p.text p.level p.used p.env t.0 t.1 t.2 t.3 t.4)
      (move_lawful ps p.text p.level p.used p.env σ t.2 (used_falls taken p.level p.used ps t.2 t.4)
      (used_least taken p.level p.used ps t.4) t.3 t.1 s.long s.words s.items.0.0 s.items.0.1)
    where
      go : (m : Moved) → Kept taken K size fetch room G globals ps σ m → LawfulMoved ps m → SoundMoved ps m
      go (moves qs τ) k h =
          let e = k.1 in record { tidy = k.0; items = each_append (LawfulItem K) qs ps h.0 s.items.1; words = h.1; long = omega (arith, s.long) }
      go (refuses f l τ) k h = h

  pub lawful_at : (p : Item) (ps : List Item) (σ : List ℕ) → Sound (p ∷ ps) σ → LawfulAt K fetch G p σ
  lawful_at p ps σ s = let t = s.tidy in
      record { words = s.words; constants = s.items.0.0; values = values p.used p.env σ t.2 t.3 t.1 s.long s.words }

  stays : (n : ℕ) (ps : List Item) (σ : List ℕ) → Sound ps σ → LawfulState K fetch G taken (advance (machine_step K size fetch room G) n ps σ)
  stays zero [] σ s = s.words
  stays zero (p ∷ ps) σ s = lawful_at p ps σ s
  stays (suc n) [] σ s = s.words
  stays (suc n) (p ∷ ps) σ s =
      subst (LawfulState K fetch G taken) (sym (comes_to K size fetch room G n p ps σ))
      (go (move K size fetch room G p.text p.level p.used p.env σ) (sound_on p ps σ s) (λ qs τ. stays n (qs ++ ps) τ))
    where
      go : (m : Moved) → SoundMoved ps m
          → ((qs : List Item) (τ : List ℕ) → Sound (qs ++ ps) τ → LawfulState K fetch G taken (advance (machine_step K size fetch room G) n (qs ++ ps) τ))
          → LawfulState K fetch G taken (onto K size fetch room G n ps m)
      go (moves qs τ) h ih = ih qs τ h
      go (refuses f l τ) h ih = h

pub stays_lawful : StaysLawful
stays_lawful K L size fetch room reads ls s h n σ long words =
    stays K L (globals_of ls).taken size fetch reads room (globals_of ls).names (globals_sit ls) n (first_items (program_of ls s.text)) σ
    (record { tidy = first_tidy ls s.text size h; items = ((script_lawful K L ls s, tt), tt); words = words; long = long })
