-- The machine's runs end as the copy rule's do.
use Rattle.std.proofs.Common.{◌≡◌, ℕ, zero, suc, List, [], ◌∷◌, ◌++◌, sym, refl, ap, ◌∙◌, le_trans, le_refl}
use Rattle.kinds.specs.Arithmetic.{Arithmetic}
use Rattle.rule.specs.Work.{Work}
use Rattle.script.specs.Script.{Statement}
use Rattle.script.specs.Names.{Names}
use Rattle.rule.specs.Rewriting.{Pending, Situation, Begun, goes, fails, begins, fault, Halt, rewrite}
use Rattle.rule.specs.Machine.{Item, Moved, moves, refuses, move, machine}
use Rattle.rule.specs.Fine.{Kinds, start_kinds, MachineAgrees}
use Rattle.rule.specs.Closing.{own_room}
use Rattle.rule.proofs.Compose.{kept_statement}
use Rattle.rule.proofs.Matching.{at_outside, Kept, Starts, starts, good_on}
use Rattle.rule.proofs.Lockstep.{Task, copy_of, item_of, copies, items, Proper, Grows, Lock, both_fail, both_go, lockstep}

copies_append : (ts us : List Task) → copies (ts ++ us) ≡ copies ts ++ copies us
copies_append [] us = refl
copies_append (t ∷ ts) us = λ j. copy_of t ∷ copies_append ts us j

items_append : (ts us : List Task) → items (ts ++ us) ≡ items ts ++ items us
items_append [] us = refl
items_append (t ∷ ts) us = λ j. item_of t ∷ items_append ts us j

proper_append : (κ₀ : Kinds) (E : Names) (fresh : ℕ) (ts us : List Task) → Proper κ₀ E fresh ts → Proper κ₀ E fresh us → Proper κ₀ E fresh (ts ++ us)
proper_append κ₀ E fresh [] us p q = q
proper_append κ₀ E fresh (t ∷ ts) us p q = (p.0, p.1, proper_append κ₀ E fresh ts us p.2 q)

proper_on : (κ₀ : Kinds) (s s' : Situation) → Grows s s' → (ts : List Task) → Proper κ₀ s.names s.fresh ts → Proper κ₀ s'.names s'.fresh ts
proper_on κ₀ s s' g [] p = tt
proper_on κ₀ s s' g (t ∷ ts) p =
    (good_on κ₀ s.names s'.names s.fresh s'.fresh g.more g.same t.joint p.0, p.1, proper_on κ₀ s s' g ts p.2)

kept_on : (G : Names) (f₀ : ℕ) (s s' : Situation) → Grows s s' → Kept G f₀ s.names s.fresh → Kept G f₀ s'.names s'.fresh
kept_on G f₀ s s' g k = record { above = le_trans k.above g.more; same = λ z h. g.same z (le_trans h k.above) ∙ k.same z h }

module _ (K : Arithmetic) (size : ℕ) (fetch : List ℕ → ℕ → Work ℕ) (G : Names) where
  abbrev on : ℕ → List Pending → Situation → Begun → Halt
  on n ps s (goes qs s') = rewrite K size fetch n (qs ++ ps) s'
  on n ps s (fails f l) = record { ending = fault f l; left = n; store = s.store }

  rewrites : (n : ℕ) (p : Pending) (ps : List Pending) (s : Situation) → rewrite K size fetch (suc n) (p ∷ ps) s ≡ on n ps s (begins K size fetch p s)
  rewrites n p ps s = go (begins K size fetch p s)
    where
      go : (b : Begun) → elim b [ goes qs s' ↦ rewrite K size fetch n (qs ++ ps) s' | fails f l ↦ record { ending = fault f l; left = n; store = s.store } ] ≡ on n ps s b
      go (goes qs s') = refl
      go (fails f l) = refl

  abbrev onward : ℕ → List Item → Moved → Halt
  onward n ps (moves qs σ') = machine K size fetch own_room G n (qs ++ ps) σ'
  onward n ps (refuses f l σ') = record { ending = fault f l; left = n; store = σ' }

  runs_on : (n : ℕ) (p : Item) (ps : List Item) (σ : List ℕ)
      → machine K size fetch own_room G (suc n) (p ∷ ps) σ ≡ onward n ps (move K size fetch own_room G p.text p.level p.used p.env σ)
  runs_on n p ps σ = go (move K size fetch own_room G p.text p.level p.used p.env σ)
    where
      go : (b : Moved) → elim b [ moves qs σ' ↦ machine K size fetch own_room G n (qs ++ ps) σ' | refuses f l σ' ↦ record { ending = fault f l; left = n; store = σ' } ] ≡ onward n ps b
      go (moves qs σ') = refl
      go (refuses f l σ') = refl

  module _ (κ₀ : Kinds) (f₀ : ℕ) (S : Starts κ₀ G f₀) where
    abbrev Same : ℕ → Type 0
    Same n = (ts : List Task) (s : Situation) → Kept G f₀ s.names s.fresh → Proper κ₀ s.names s.fresh ts
        → machine K size fetch own_room G n (items ts) s.store ≡ rewrite K size fetch n (copies ts) s

    locked : (n : ℕ) → Same n → (ts : List Task) (s : Situation) → Kept G f₀ s.names s.fresh → Proper κ₀ s.names s.fresh ts
        → (b : Begun) (v : Moved) → Lock κ₀ s b v → onward n (items ts) v ≡ on n (copies ts) s b
    locked n ih ts s k p b v (both_fail f l eb ev) = ap (onward n (items ts)) ev ∙ sym (ap (on n (copies ts) s) eb)
    locked n ih ts s k p b v (both_go us s' eb ev q g) =
        ap (onward n (items ts)) ev
        ∙ ap (λ (is : List Item). machine K size fetch own_room G n is s'.store) (sym (items_append us ts))
        ∙ ih (us ++ ts) s' (kept_on G f₀ s s' g k) (proper_append κ₀ s'.names s'.fresh us ts q (proper_on κ₀ s s' g ts p))
        ∙ ap (λ (ps : List Pending). rewrite K size fetch n ps s') (copies_append us ts)
        ∙ sym (ap (on n (copies ts) s) eb)

    same : (n : ℕ) → Same n
    same zero [] s k p = refl
    same zero (t ∷ ts) s k p = refl
    same (suc n) [] s k p = refl
    same (suc n) (t ∷ ts) s k p =
        runs_on n (item_of t) (items ts) s.store
        ∙ locked n (same n) ts s k p.2 _ _ (lockstep K size fetch κ₀ G f₀ S s k t.joint p.0 t.text t.level t.used p.1)
        ∙ sym (rewrites n (copy_of t) (copies ts) s)

pub machine_agrees : MachineAgrees
machine_agrees K size fetch s t h n level used =
    same K size fetch s.names (start_kinds s.names s.fresh) s.fresh (starts s.names s.fresh) n
    (record { text = t; level = level; used = used; joint = at_outside } ∷ []) s (record { above = le_refl s.fresh; same = λ z l. refl }) (tt, h, tt)
    ∙ ap (λ (u : Statement). rewrite K size fetch n (record { text = u; level = level; used = used } ∷ []) s) (kept_statement t)
