-- A run that is stopped has used up its allowance.
use Rattle.std.proofs.Common.{◌≡◌, ℕ, zero, suc, List, [], ◌∷◌, ◌++◌, refl, ap, ◌∙◌, arith}
use Rattle.std.proofs.lemmas.Bool.{not-false}
use Rattle.kinds.specs.Arithmetic.{Arithmetic}
use Rattle.rule.specs.Work.{Work}
use Rattle.rule.specs.Rewriting.{Pending, Situation, Begun, goes, fails, begins, finished, stopped, fault, Halt, rewrite}
use Rattle.rule.specs.Closing.{Closing, own_fetch, program_of, situation, start}
use Rattle.rule.proofs.Count.{closes_so, halt_at, is_stopped, over_false, stopped_is, stopped_not}
use Rattle.calls.specs.Laws.{BegunAll}

module _ (K : Arithmetic) (size : ℕ) (fetch : List ℕ → ℕ → Work ℕ) where
  abbrev Used : Halt → Type 0
  Used h = h.ending ≡ stopped → h.left ≡ 0

  pub used_up : (n : ℕ) (ps : List Pending) (s : Situation) → Used (rewrite K size fetch n ps s)
  used_up zero [] s e = refl
  used_up zero (p ∷ ps) s e = refl
  used_up (suc n) [] s e = absurd (stopped_not finished refl e)
  used_up (suc n) (p ∷ ps) s e = go (begins K size fetch p s) (λ qs s'. used_up n (qs ++ ps) s') e
    where
      go : (b : Begun) → ((qs : List Pending) (s' : Situation) → Used (rewrite K size fetch n (qs ++ ps) s'))
          → Used (elim b [ goes qs s' ↦ rewrite K size fetch n (qs ++ ps) s' | fails f l ↦ record { ending = fault f l; left = n; store = s.store } ])
      go (goes qs s') h e = h qs s' e
      go (fails f l) h e = absurd (stopped_not (fault f l) refl e)

pub begun_all : BegunAll
begun_all K ls t size r h c d =
    let P = program_of ls t in
    let n = r.granted in
    let halt = halt_at K P size r.from n in
    let stops : halt.ending ≡ stopped = stopped_is halt.ending (not-false (is_stopped halt.ending) (over_false K P size r.from n h)) in
    let left : halt.left ≡ 0 = used_up K size own_fetch n (start P) (situation K P size r.from) stops in
    ap (λ (x : Closing). x.count) (closes_so K P size r.from n c d) ∙ omega (arith, left)
