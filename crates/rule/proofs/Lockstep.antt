-- The machine and the copy rule begin matching statements in step: the same fault, or matching statements to be run next and one store.
use Rattle.std.proofs.Common.{◌≡◌, ℕ, ◌+◌, ◌<◌, ◌≤◌, Bool, true, false, not, ltb, leb, List, [], ◌∷◌, set, sym, refl, ap, ◌∙◌, subst, subst₂, le_trans, le_refl, arith}
use Rattle.kinds.specs.Arithmetic.{Arithmetic}
use Rattle.rule.specs.Work.{Work, gives, faults, next}
use Rattle.script.specs.Script.{Place, simple, element, fixed, Expression, constant, word_of, work, choose, Condition, truth, compared, negated, implies}
use Rattle.script.specs.Script.{Statement, assign, both, branch, call, new_simple, new_array, system, Declarations, procedure, joined}
use Rattle.script.specs.Script.{Replacement, only, for_simple, for_array, in_place, in_expression, in_condition, in_statement, in_declarations}
use Rattle.script.specs.Names.{Names, Standing, cell, cells, code}
use Rattle.rule.specs.Values.{compare, cell_of, element_of, indexed, material, operate, cell_at, value, holds}
use Rattle.rule.specs.Rewriting.{Pending, Situation, Begun, goes, fails, worked, entered, counted, renamed, known, cleared, settled, copied, begin}
use Rattle.rule.specs.Machine.{Found, procedure_at, standing, Item, Moved, moves, refuses, tried, deeper, enters, move}
use Rattle.rule.specs.Closing.{own_room}
use Rattle.rule.specs.Fine.{unused, a_simple, an_array, a_procedure, Kinds, FinePlace, FineExpression, FineCondition, Fine}
use Rattle.rule.proofs.Compose.{after, after_statement, differ, here, there}
use Rattle.rule.proofs.Matching.{Joint, with_simple, with_array, with_system, env_of, put_for, procs_put, kinds_of, cell_here, Coded, Settled, Good, Kept, Starts}
use Rattle.rule.proofs.Matching.{SimpleHere, ProcHere, simple_here, array_here, proc_here, settled_on, cell_on, coded_on, good_on, unlike}

module _ (K : Arithmetic) (E D : Names) (θ : Replacement) (κ : Kinds) (fetch : ℕ → Work ℕ)
    (hs : (z : ℕ) → κ z ≡ a_simple → cell_at K E fetch (θ.place z) ≡ cell_of (D z)) (ha : (z : ℕ) → κ z ≡ an_array → E (θ.array z) ≡ D z) where
  mutual
    same_cell : (p : Place) → FinePlace κ p → cell_at K E fetch (in_place θ p) ≡ cell_at K D fetch p
    same_cell (simple x) h = hs x h
    same_cell (element a i) h = λ j. next (same_value i h.1 j) (λ w. next (indexed (K.index w)) (element_of (ha a h.0 j)))
    same_cell (fixed a i) h = absurd h

    same_value : (e : Expression) → FineExpression κ e → value K E fetch (in_expression θ e) ≡ value K D fetch e
    same_value (constant n) h = refl
    same_value (word_of p) h = λ j. next (same_cell p h j) fetch
    same_value (work o a b) h = λ j. next (same_value a h.0 j) (λ v. next (same_value b h.1 j) (operate K o v))
    same_value (choose c a b) h = λ j.
        let x = same_value a h.1 j in let y = same_value b h.2 j in next (same_truth c h.0 j) (λ t. elim t [ true ↦ x | false ↦ y ])

    same_truth : (c : Condition) → FineCondition κ c → holds K E fetch (in_condition θ c) ≡ holds K D fetch c
    same_truth (truth b) h = refl
    same_truth (compared r a b) h = λ j. next (same_value a h.0 j) (λ v. next (same_value b h.1 j) (λ w. gives (compare K r v w)))
    same_truth (negated c) h = λ j. next (same_truth c h j) (λ t. gives (not t))
    same_truth (implies c d) h = λ j. next (same_truth c h.0 j) (λ t. next (same_truth d h.1 j) (λ u. gives (material t u)))

-- a statement to be begun on both sides
pub record Task : Type 0 where
  pub text : Statement
  pub level : ℕ
  pub used : ℕ
  pub joint : Joint

abbrev pub copy_of : Task → Pending
copy_of t = record { text = in_statement (put_for t.joint) t.text; level = t.level; used = t.used }

abbrev pub item_of : Task → Item
item_of t = record { text = t.text; level = t.level; used = t.used; env = env_of t.joint }

abbrev pub copies : List Task → List Pending
copies [] = []
copies (t ∷ ts) = copy_of t ∷ copies ts

abbrev pub items : List Task → List Item
items [] = []
items (t ∷ ts) = item_of t ∷ items ts

abbrev pub Proper : Kinds → Names → ℕ → List Task → Type 0
Proper κ₀ E fresh [] = Unit {0}
Proper κ₀ E fresh (t ∷ ts) = Good κ₀ E fresh t.joint × Fine (kinds_of κ₀ t.joint) t.text × Proper κ₀ E fresh ts

pub record Grows (s s' : Situation) : Type 0 where
  pub more : s.fresh ≤ s'.fresh
  pub same : (n : ℕ) → n < s.fresh → s'.names n ≡ s.names n

pub data Lock (κ₀ : Kinds) (s : Situation) (b : Begun) (v : Moved) : Type 0 where
  both_fail : (f l : ℕ) → b ≡ fails f l → v ≡ refuses f l s.store → Lock κ₀ s b v
  both_go : (ts : List Task) (s' : Situation) → b ≡ goes (copies ts) s' → v ≡ moves (items ts) s'.store
      → Proper κ₀ s'.names s'.fresh ts → Grows s s' → Lock κ₀ s b v

unchanged : (s : Situation) → Grows s s
unchanged s = record { more = le_refl s.fresh; same = λ n h. refl }

module _ (κ₀ : Kinds) (s : Situation) where
  entered_lock : (size l level used more : ℕ) (b : Begun) (v : Moved) → Lock κ₀ s b v → Lock κ₀ s (entered size l level used more b) (deeper size l level used more s.store v)
  entered_lock size l level used more b v k = go (ltb level 512) (leb (used + more) size)
    where
      go : (p q : Bool) → Lock κ₀ s (elim p [ true ↦ elim q [ true ↦ b | false ↦ fails 25 l ] | false ↦ fails 24 l ])
          (elim p [ true ↦ elim q [ true ↦ v | false ↦ refuses 25 l s.store ] | false ↦ refuses 24 l s.store ])
      go true true = k
      go true false = both_fail 25 l refl refl
      go false q = both_fail 24 l refl refl

  worked_lock : {A : Type 0} (l : ℕ) (w v : Work A) → w ≡ v → (f : A → Begun) (g : A → Moved) → ((a : A) → Lock κ₀ s (f a) (g a)) → Lock κ₀ s (worked l w f) (tried l s.store v g)
  worked_lock {A} l w v e f g h = subst (λ (u : Work A). Lock κ₀ s (worked l w f) (tried l s.store u g)) e (go w)
    where
      go : (u : Work A) → Lock κ₀ s (worked l u f) (tried l s.store u g)
      go (gives a) = h a
      go (faults n) = both_fail n l refl refl

-- a system's declarations under a replacement: the same names
counted_in : (θ : Replacement) (d : Declarations) → counted (in_declarations θ d) ≡ counted d
counted_in θ (procedure l q x y s) = refl
counted_in θ (joined d e) = λ j. counted_in θ d j + counted_in θ e j

renamed_in : (θ : Replacement) (d : Declarations) (f : ℕ) (g : ℕ → ℕ) → renamed (in_declarations θ d) f g ≡ renamed d f g
renamed_in θ (procedure l q x y s) f g = refl
renamed_in θ (joined d e) f g =
    renamed_in θ e (f + counted (in_declarations θ d)) (renamed (in_declarations θ d) f g)
    ∙ (λ j. renamed e (f + counted_in θ d j) (renamed_in θ d f g j))

known_keeps : (d : Declarations) (f : ℕ) (r : Replacement) (E : Names) (n : ℕ) → n < f → known d f r E n ≡ E n
known_keeps (procedure l q x y s) f r E n h = there f (code x y (in_statement r s)) E n (differ f n (omega arith))
known_keeps (joined d e) f r E n h = known_keeps e (f + counted d) r (known d f r E) n (omega arith) ∙ known_keeps d f r E n h

known_coded : (κ₀ : Kinds) (θ r : Replacement) (d : Declarations) (f : ℕ) (E : Names) → Coded (known (in_declarations θ d) f r E) d f (after r θ)
known_coded κ₀ θ r (procedure l q x y s) f E = here f (code x y (in_statement r (in_statement θ s))) E ∙ ap (code x y) (after_statement r θ s)
known_coded κ₀ θ r (joined d e) f E = (
  coded_on κ₀ E₁ (known (in_declarations θ e) (f + counted (in_declarations θ d)) r E₁) (f + counted d) (f + counted d) (le_refl (f + counted d))
      (λ n h. known_keeps (in_declarations θ e) (f + counted (in_declarations θ d)) r E₁ n (omega (arith, counted_in θ d)))
      d f (after r θ) (le_refl (f + counted d)) (known_coded κ₀ θ r d f E),
  subst (λ (k : ℕ). Coded (known (in_declarations θ e) k r E₁) e (f + counted d) (after r θ)) (ap (λ (k : ℕ). f + k) (sym (counted_in θ d)))
      (known_coded κ₀ θ r e (f + counted d) E₁),
)
  where
    E₁ : Names
    E₁ = known (in_declarations θ d) f r E

module _ (K : Arithmetic) (size : ℕ) (fetch : List ℕ → ℕ → Work ℕ) (κ₀ : Kinds) (G : Names) (f₀ : ℕ) (S : Starts κ₀ G f₀)
    (s : Situation) (H : Kept G f₀ s.names s.fresh) where
  fresh_outer : (n : ℕ) → s.fresh ≤ n → ¬ (κ₀ n ≡ unused)
  fresh_outer n h e = unlike (omega arith) (sym (S.above n (le_trans H.above h)) ∙ e)

  one_more : (st : Standing) (σ : List ℕ) → Grows s (record { names = only s.fresh st s.names; fresh = s.fresh + 1; store = σ })
  one_more st σ = record { more = omega arith; same = λ n h. there s.fresh st s.names n (differ s.fresh n (omega arith)) }

  -- a call's variable
  data Settles (w : Work Place) (v : Work ℕ) : Type 0 where
    faulty : (n : ℕ) → w ≡ faults n → v ≡ faults n → Settles w v
    settles : (p : Place) (c : ℕ) → w ≡ gives p → v ≡ gives c → Settled κ₀ s.fresh p → cell_here s.names p ≡ gives c → Settles w v

  module _ (m : Joint) (g : Good κ₀ s.names s.fresh m) where
    at_place : (z : ℕ) → kinds_of κ₀ m z ≡ a_simple → cell_at K s.names (fetch s.store) ((put_for m).place z) ≡ cell_of (standing G (env_of m) z)
    at_place z e = go ((put_for m).place z) (simple_here κ₀ G f₀ S s.names s.fresh H m g z e)
      where
        go : (p : Place) → SimpleHere κ₀ s.names s.fresh p (standing G (env_of m) z) → cell_at K s.names (fetch s.store) p ≡ cell_of (standing G (env_of m) z)
        go (simple x) k = k.at ∙ sym (ap cell_of k.stands)
        go (element a i) k = absurd k.settled
        go (fixed a i) k = k.at ∙ sym (ap cell_of k.stands)

    at_array : (z : ℕ) → kinds_of κ₀ m z ≡ an_array → s.names ((put_for m).array z) ≡ standing G (env_of m) z
    at_array z e = (array_here κ₀ G f₀ S s.names s.fresh H m g z e).stands

    cells_agree : (p : Place) → FinePlace (kinds_of κ₀ m) p
        → cell_at K s.names (fetch s.store) (in_place (put_for m) p) ≡ cell_at K (standing G (env_of m)) (fetch s.store) p
    cells_agree = same_cell K s.names (standing G (env_of m)) (put_for m) (kinds_of κ₀ m) (fetch s.store) at_place at_array

    values_agree : (e : Expression) → FineExpression (kinds_of κ₀ m) e
        → value K s.names (fetch s.store) (in_expression (put_for m) e) ≡ value K (standing G (env_of m)) (fetch s.store) e
    values_agree = same_value K s.names (standing G (env_of m)) (put_for m) (kinds_of κ₀ m) (fetch s.store) at_place at_array

    truths_agree : (c : Condition) → FineCondition (kinds_of κ₀ m) c
        → holds K s.names (fetch s.store) (in_condition (put_for m) c) ≡ holds K (standing G (env_of m)) (fetch s.store) c
    truths_agree = same_truth K s.names (standing G (env_of m)) (put_for m) (kinds_of κ₀ m) (fetch s.store) at_place at_array

    both_settle : (p : Place) → FinePlace (kinds_of κ₀ m) p
        → Settles (settled K size fetch s (in_place (put_for m) p)) (cell_at K (standing G (env_of m)) (fetch s.store) p)
    both_settle (simple x) h = go ((put_for m).place x) (simple_here κ₀ G f₀ S s.names s.fresh H m g x h)
      where
        go : (p : Place) → SimpleHere κ₀ s.names s.fresh p (standing G (env_of m) x) → Settles (settled K size fetch s p) (cell_of (standing G (env_of m) x))
        go (simple z) k = settles (simple z) k.address refl (ap cell_of k.stands) k.settled k.at
        go (element a i) k = absurd k.settled
        go (fixed a i) k = settles (fixed a i) k.address refl (ap cell_of k.stands) k.settled k.at
    both_settle (element a i) h =
        subst (Settles (settled K size fetch s (in_place (put_for m) (element a i)))) (cells_agree (element a i) h)
        (at_index (value K s.names (fetch s.store) (in_expression (put_for m) i)))
      where
        b : ℕ
        b = (put_for m).array a

        at_cell : (n : ℕ) (v : Work ℕ) → element_of (s.names b) n ≡ v → Settles (next v (λ c. gives (fixed b n))) v
        at_cell n (gives c) e = settles (fixed b n) c refl refl (array_here κ₀ G f₀ S s.names s.fresh H m g a h.0).outer e
        at_cell n (faults k) e = faulty k refl refl

        at_number : (u : Work ℕ) → Settles (next u (λ n. next (element_of (s.names b) n) (λ c. gives (fixed b n)))) (next u (element_of (s.names b)))
        at_number (gives n) = at_cell n (element_of (s.names b) n) refl
        at_number (faults k) = faulty k refl refl

        at_index : (w : Work ℕ) → Settles (next w (λ w. next (indexed (K.index w)) (λ n. next (element_of (s.names b) n) (λ c. gives (fixed b n)))))
            (next w (λ w. next (indexed (K.index w)) (element_of (s.names b))))
        at_index (gives w) = at_number (indexed (K.index w))
        at_index (faults k) = faulty k refl refl
    both_settle (fixed a i) h = absurd h

    called_lock : (l level used w : ℕ) (q : ℕ) (p : Place) (c : ℕ) → kinds_of κ₀ m q ≡ a_procedure → Settled κ₀ s.fresh p → cell_here s.names p ≡ gives c
        → Lock κ₀ s (copied K size fetch (s.names ((put_for m).proc q)) l level used s w p)
        (enters K size fetch own_room G (procedure_at (env_of m) q) l level used s.store w c)
    called_lock l level used w q p c h sp cp =
        subst₂ (λ (st : Standing) (f : Found). Lock κ₀ s (copied K size fetch st l level used s w p) (enters K size fetch own_room G f l level used s.store w c))
        (sym k.stands) (sym k.is)
        (entered_lock κ₀ s size l level used 1 _ _ (both_go
        (record { text = k.body; level = level + 1; used = used + 1; joint = with_simple k.y c p inner } ∷ [])
        s' (λ j. goes (record { text = text j; level = level + 1; used = used + 1 } ∷ []) s') refl (
          ((
            ((
              good_on κ₀ s.names s'.names s.fresh s'.fresh grows.more grows.same k.joint k.good,
              k.first,
              (fresh_outer s.fresh (le_refl s.fresh), omega arith),
              ap cell_of (here s.fresh (cell used) s.names),
            )),
            k.second,
            settled_on κ₀ s.names s'.names s.fresh s'.fresh grows.more grows.same p sp,
            cell_on κ₀ s.names s'.names s.fresh s'.fresh grows.more grows.same p sp ∙ cp,
          )),
          k.fine,
          tt,
        )
        grows))
      where
        k : ProcHere κ₀ s.names s.fresh ((put_for m).proc q) (procedure_at (env_of m) q)
        k = proc_here κ₀ G f₀ S s.names s.fresh H m g q h

        inner : Joint
        inner = with_simple k.x used (simple s.fresh) k.joint

        s' : Situation
        s' = record { names = only s.fresh (cell used) s.names; fresh = s.fresh + 1; store = set s.store used w }

        grows : Grows s s'
        grows = one_more (cell used) (set s.store used w)

        text : in_statement (for_simple k.y p) (in_statement (for_simple k.x (simple s.fresh)) (in_statement (put_for k.joint) k.body))
            ≡ in_statement (put_for (with_simple k.y c p inner)) k.body
        text = ap (in_statement (for_simple k.y p)) (after_statement (for_simple k.x (simple s.fresh)) (put_for k.joint) k.body)
            ∙ after_statement (for_simple k.y p) (put_for inner) k.body

    system_lock : (l : ℕ) (d : Declarations) (a : Statement) (level used : ℕ) → Fine (kinds_of κ₀ m) (system l d a)
        → Lock κ₀ s (begin K size fetch (in_statement (put_for m) (system l d a)) level used s) (move K size fetch own_room G (system l d a) level used (env_of m) s.store)
    system_lock l d a level used h =
        entered_lock κ₀ s size l level used 0 _ _ (both_go
        (record { text = a; level = level + 1; used = used; joint = with_system d s.fresh m } ∷ [])
        s' (λ j. goes (record { text = text j; level = level + 1; used = used } ∷ [])
        (record { names = known (in_declarations (put_for m) d) s.fresh (put j) s.names; fresh = s.fresh + counted_in (put_for m) d j; store = s.store })) refl (
          (
            good_on κ₀ s.names s'.names s.fresh s'.fresh grows.more grows.same m g,
            h.0,
            h.1,
            fresh_outer,
            le_refl (s.fresh + counted d),
            known_coded κ₀ (put_for m) (procs_put d s.fresh) d s.fresh s.names,
          ),
          h.2,
          tt,
        )
        grows)
      where
        s' : Situation
        s' = record { names = known (in_declarations (put_for m) d) s.fresh (procs_put d s.fresh) s.names; fresh = s.fresh + counted d; store = s.store }

        put : procs_put (in_declarations (put_for m) d) s.fresh ≡ procs_put d s.fresh
        put = λ j. record { place = simple; array = λ z. z; proc = renamed_in (put_for m) d s.fresh (λ z. z) j }

        text : in_statement (procs_put (in_declarations (put_for m) d) s.fresh) (in_statement (put_for m) a) ≡ in_statement (put_for (with_system d s.fresh m)) a
        text = ap (λ (r : Replacement). in_statement r (in_statement (put_for m) a)) put ∙ after_statement (procs_put d s.fresh) (put_for m) a

        grows : Grows s s'
        grows = record { more = omega arith; same = λ n h. known_keeps (in_declarations (put_for m) d) s.fresh (procs_put d s.fresh) s.names n h }

    call_lock : (l level used : ℕ) (q : ℕ) (p : Place) → kinds_of κ₀ m q ≡ a_procedure → FinePlace (kinds_of κ₀ m) p → (w : ℕ)
        → Lock κ₀ s (worked l (settled K size fetch s (in_place (put_for m) p)) (λ p'. copied K size fetch (s.names ((put_for m).proc q)) l level used s w p'))
        (tried l s.store (cell_at K (standing G (env_of m)) (fetch s.store) p) (λ c. enters K size fetch own_room G (procedure_at (env_of m) q) l level used s.store w c))
    call_lock l level used q p hq hp w = go (both_settle p hp)
      where
        f : Place → Begun
        f p' = copied K size fetch (s.names ((put_for m).proc q)) l level used s w p'

        v : ℕ → Moved
        v c = enters K size fetch own_room G (procedure_at (env_of m) q) l level used s.store w c

        go : {a : Work Place} {b : Work ℕ} → Settles a b → Lock κ₀ s (worked l a f) (tried l s.store b v)
        go (faulty n ea eb) = both_fail n l (ap (λ (a : Work Place). worked l a f) ea) (ap (λ (b : Work ℕ). tried l s.store b v) eb)
        go (settles p' c ea eb sp cp) =
            subst₂ (λ (a : Work Place) (b : Work ℕ). Lock κ₀ s (worked l a f) (tried l s.store b v)) (sym ea) (sym eb) (called_lock l level used w q p' c hq sp cp)

    simple_lock : (l x : ℕ) (a : Statement) (level used : ℕ) → Fine (kinds_of κ₀ m) (new_simple l x a)
        → Lock κ₀ s (begin K size fetch (in_statement (put_for m) (new_simple l x a)) level used s) (move K size fetch own_room G (new_simple l x a) level used (env_of m) s.store)
    simple_lock l x a level used h =
        entered_lock κ₀ s size l level used 1 _ _ (both_go
        (record { text = a; level = level + 1; used = used + 1; joint = with_simple x used (simple s.fresh) m } ∷ [])
        s' (λ j. goes (record { text = after_statement (for_simple x (simple s.fresh)) (put_for m) a j; level = level + 1; used = used + 1 } ∷ []) s') refl (
          (
            good_on κ₀ s.names s'.names s.fresh s'.fresh grows.more grows.same m g,
            h.0,
            (fresh_outer s.fresh (le_refl s.fresh), omega arith),
            ap cell_of (here s.fresh (cell used) s.names),
          ),
          h.1,
          tt,
        )
        grows)
      where
        s' : Situation
        s' = record { names = only s.fresh (cell used) s.names; fresh = s.fresh + 1; store = set s.store used K.zero }

        grows : Grows s s'
        grows = one_more (cell used) (set s.store used K.zero)

    array_lock : (l x n : ℕ) (a : Statement) (level used : ℕ) → Fine (kinds_of κ₀ m) (new_array l x n a)
        → Lock κ₀ s (begin K size fetch (in_statement (put_for m) (new_array l x n a)) level used s) (move K size fetch own_room G (new_array l x n a) level used (env_of m) s.store)
    array_lock l x n a level used h =
        entered_lock κ₀ s size l level used n _ _ (both_go
        (record { text = a; level = level + 1; used = used + n; joint = with_array x used n s.fresh m } ∷ [])
        s' (λ j. goes (record { text = after_statement (for_array x s.fresh) (put_for m) a j; level = level + 1; used = used + n } ∷ []) s') refl (
          (
            good_on κ₀ s.names s'.names s.fresh s'.fresh grows.more grows.same m g,
            h.0,
            (fresh_outer s.fresh (le_refl s.fresh), omega arith),
            here s.fresh (cells used n) s.names,
          ),
          h.1,
          tt,
        )
        grows)
      where
        s' : Situation
        s' = record { names = only s.fresh (cells used n) s.names; fresh = s.fresh + 1; store = cleared n used K.zero s.store }

        grows : Grows s s'
        grows = one_more (cells used n) (cleared n used K.zero s.store)

    pub lockstep : (t : Statement) (level used : ℕ) → Fine (kinds_of κ₀ m) t
        → Lock κ₀ s (begin K size fetch (in_statement (put_for m) t) level used s) (move K size fetch own_room G t level used (env_of m) s.store)
    lockstep (assign l p e) level used h =
        worked_lock κ₀ s l _ _ (values_agree e h.1) _ _ (λ w. worked_lock κ₀ s l _ _ (cells_agree p h.0) _ _ (λ c.
        both_go [] (record { names = s.names; fresh = s.fresh; store = set s.store c w }) refl refl tt (record { more = le_refl s.fresh; same = λ n k. refl })))
    lockstep (both l a b) level used h =
        entered_lock κ₀ s size l level used 0 _ _ (both_go
        (record { text = a; level = level + 1; used = used; joint = m } ∷ (record { text = b; level = level; used = used; joint = m } ∷ []))
        s refl refl (g, h.0, (g, h.1, tt)) (unchanged s))
    lockstep (branch l c a b) level used h = worked_lock κ₀ s l _ _ (truths_agree c h.0) _ _ go
      where
        go : (t : Bool) → Lock κ₀ s (goes (record { text = elim t [ true ↦ in_statement (put_for m) a | false ↦ in_statement (put_for m) b ]; level = level; used = used } ∷ []) s)
            (moves (record { text = elim t [ true ↦ a | false ↦ b ]; level = level; used = used; env = env_of m } ∷ []) s.store)
        go true = both_go (record { text = a; level = level; used = used; joint = m } ∷ []) s refl refl (g, h.1, tt) (unchanged s)
        go false = both_go (record { text = b; level = level; used = used; joint = m } ∷ []) s refl refl (g, h.2, tt) (unchanged s)
    lockstep (call l q e p) level used h = worked_lock κ₀ s l _ _ (values_agree e h.1) _ _ (call_lock l level used q p h.0 h.2)
    lockstep (new_simple l x a) level used h = simple_lock l x a level used h
    lockstep (new_array l x n a) level used h = array_lock l x n a level used h
    lockstep (system l d a) level used h = system_lock l d a level used h
