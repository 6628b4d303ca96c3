-- The copy rule, one begun statement at a time: what beginning a statement asks for, and the text that is still to be run.
use Rattle.std.specs.Prelude.{ℕ, zero, suc, ◌+◌, true, false, List, [], ◌∷◌, ◌++◌, nat_le, nat_lt, slice_set}
use Rattle.kinds.specs.Arithmetic.{Arithmetic}
use Rattle.rule.specs.Work.{Work, gives, faults, next}
use Rattle.script.specs.Script.{Place, simple, element, fixed, Statement, assign, both, branch, call, new_simple, new_array, system}
use Rattle.script.specs.Script.{Declarations, procedure, joined, Replacement, only, for_simple, for_array, in_statement}
use Rattle.script.specs.Names.{Names, Standing, nothing, cell, cells, code}
use Rattle.rule.specs.Values.{cell_at, value, holds, indexed, element_of}

-- a statement that is to be begun, its level and the cells in use there
pub record Pending : Type 0 where
  pub text : Statement
  pub level : ℕ
  pub used : ℕ

-- what each name stands for, the next fresh name, and the store; a run counts its fresh names up from above all names of its text, and uses each once
pub record Situation : Type 0 where
  pub names : Names
  pub fresh : ℕ
  pub store : List ℕ

-- beginning a statement: a fault with its line, or statements to be run next, in their order
pub data Begun : Type 0 where
  goes : List Pending → Situation → Begun
  fails : ℕ → ℕ → Begun

-- what a value is used for; its fault is the statement's, on its line
abbrev pub worked : {A : Type 0} → ℕ → Work A → (A → Begun) → Begun
worked l (gives a) f = f a
worked l (faults n) f = fails n l

-- one level deeper with some more cells: fault 24, then 25
abbrev pub entered : (size line level used more : ℕ) → Begun → Begun
entered size line level used more b =
    elim (nat_lt level 512) [ true ↦ elim (nat_le (used + more) size) [ true ↦ b | false ↦ fails 25 line ] | false ↦ fails 24 line ]

-- n cells from a place on, each set to a word
abbrev pub cleared : ℕ → ℕ → ℕ → List ℕ → List ℕ
cleared zero at w σ = σ
cleared (suc n) at w σ = cleared n (suc at) w (slice_set σ at w)

-- how many procedures a system has
abbrev pub counted : Declarations → ℕ
counted (procedure l q x y s) = 1
counted (joined d e) = counted d + counted e

-- the fresh names, from f on, that the declared procedures get
abbrev pub renamed : Declarations → ℕ → (ℕ → ℕ) → ℕ → ℕ
renamed (procedure l q x y s) f g = only q f g
renamed (joined d e) f g = renamed e (f + counted d) (renamed d f g)

-- what those fresh names stand for: the procedures, with their bodies rewritten
abbrev pub known : Declarations → ℕ → Replacement → Names → Names
known (procedure l q x y s) f r E = only f (code x y (in_statement r s)) E
known (joined d e) f r E = known e (f + counted d) r (known d f r E)

module _ (K : Arithmetic) (size : ℕ) (fetch : List ℕ → ℕ → Work ℕ) where
  -- a call's variable, its index checked and fixed
  abbrev pub settled : Situation → Place → Work Place
  settled s (simple x) = gives (simple x)
  settled s (element a i) =
      next (value K s.names (fetch s.store) i) (λ w. next (indexed (K.index w)) (λ n. next (element_of (s.names a) n) (λ c. gives (fixed a n))))
  settled s (fixed a n) = gives (fixed a n)

  -- a call of what a name stands for: a copy of the body, with a fresh name for the value formal, whose cell holds the word w, and p for the variable formal
  abbrev pub copied : Standing → (line level used : ℕ) → Situation → ℕ → Place → Begun
  copied nothing line level used s w p = fails 0 line
  copied (cell n) line level used s w p = fails 0 line
  copied (cells b n) line level used s w p = fails 0 line
  copied (code x y body) line level used s w p =
      entered size line level used 1
      (goes (record { text = in_statement (for_simple y p) (in_statement (for_simple x (simple s.fresh)) body); level = level + 1; used = used + 1 } ∷ [])
      (record { names = only s.fresh (cell used) s.names; fresh = s.fresh + 1; store = slice_set s.store used w }))

  -- beginning a statement, at its level and with the cells in use there
  abbrev pub begin : Statement → (level used : ℕ) → Situation → Begun
  begin (assign l p e) level used s =
      worked l (value K s.names (fetch s.store) e) (λ w. worked l (cell_at K s.names (fetch s.store) p) (λ c.
      goes [] (record { names = s.names; fresh = s.fresh; store = slice_set s.store c w })))
  begin (both l a b) level used s =
      entered size l level used 0
      (goes (record { text = a; level = level + 1; used = used } ∷ (record { text = b; level = level; used = used } ∷ [])) s)
  begin (branch l c a b) level used s =
      worked l (holds K s.names (fetch s.store) c) (λ t. goes (record { text = elim t [ true ↦ a | false ↦ b ]; level = level; used = used } ∷ []) s)
  begin (call l q e p) level used s =
      worked l (value K s.names (fetch s.store) e) (λ w. worked l (settled s p) (λ p'. copied (s.names q) l level used s w p'))
  begin (new_simple l x a) level used s =
      entered size l level used 1
      (goes (record { text = in_statement (for_simple x (simple s.fresh)) a; level = level + 1; used = used + 1 } ∷ [])
      (record { names = only s.fresh (cell used) s.names; fresh = s.fresh + 1; store = slice_set s.store used K.zero }))
  begin (new_array l a n b) level used s =
      entered size l level used n
      (goes (record { text = in_statement (for_array a s.fresh) b; level = level + 1; used = used + n } ∷ [])
      (record { names = only s.fresh (cells used n) s.names; fresh = s.fresh + 1; store = cleared n used K.zero s.store }))
  begin (system l d a) level used s =
      let r : Replacement = record { place = simple; array = λ z. z; proc = renamed d s.fresh (λ z. z) } in
      entered size l level used 0
      (goes (record { text = in_statement r a; level = level + 1; used = used } ∷ [])
      (record { names = known d s.fresh r s.names; fresh = s.fresh + counted d; store = s.store }))

  abbrev pub begins : Pending → Situation → Begun
  begins p s = begin p.text p.level p.used s

-- how a run ends
pub data Ending : Type 0 where
  finished stopped : Ending
  fault : ℕ → ℕ → Ending

-- how far a run came: its ending, the allowance that is left and the store
pub record Halt : Type 0 where
  pub ending : Ending
  pub left : ℕ
  pub store : List ℕ

abbrev pub out_of_allowance : List Pending → Situation → Halt
out_of_allowance [] s = record { ending = finished; left = 0; store = s.store }
out_of_allowance (p ∷ ps) s = record { ending = stopped; left = 0; store = s.store }

module _ (K : Arithmetic) (size : ℕ) (fetch : List ℕ → ℕ → Work ℕ) where
  -- the run of the text that is left, one begun statement at a time
  abbrev pub rewrite : ℕ → List Pending → Situation → Halt
  rewrite zero ps s = out_of_allowance ps s
  rewrite (suc n) [] s = record { ending = finished; left = suc n; store = s.store }
  rewrite (suc n) (p ∷ ps) s =
      elim (begins K size fetch p s)
      [ goes qs s' ↦ rewrite n (qs ++ ps) s' | fails f l ↦ record { ending = fault f l; left = n; store = s.store } ]
