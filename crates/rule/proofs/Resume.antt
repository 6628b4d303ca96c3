-- Running n statements and then m is running n + m.
use Rattle.std.proofs.Common.{◌≡◌, ℕ, zero, suc, ◌+◌, Bool, List, [], ◌∷◌, ◌++◌, sym, refl, ap, ◌∙◌, suc-add, zero-add}
use Rattle.kinds.specs.Arithmetic.{Arithmetic}
use Rattle.script.specs.Names.{Names}
use Rattle.rule.specs.Work.{Work}
use Rattle.rule.specs.Rewriting.{Pending, Situation, Begun, goes, fails, begins, rewrite, finished, fault, Halt}
use Rattle.rule.specs.Machine.{Item, Moved, moves, refuses, move, machine}
use Rattle.rule.specs.Resume.{Step, goes_to, fails_at, Reached, ended, advance, resume, halted, rule_step, machine_step, Resumes}

module _ {I S : Type 0} (step : I → S → Step I S) where
  abbrev on : ℕ → List I → S → Step I S → Reached I S
  on n ps s (goes_to qs s') = advance step n (qs ++ ps) s'
  on n ps s (fails_at f l s') = ended (fault f l) n s'

  pub steps : (n : ℕ) (p : I) (ps : List I) (s : S) → advance step (suc n) (p ∷ ps) s ≡ on n ps s (step p s)
  steps n p ps s = go (step p s)
    where
      go : (b : Step I S) → elim b [ goes_to qs s' ↦ advance step n (qs ++ ps) s' | fails_at f l s' ↦ ended (fault f l) n s' ] ≡ on n ps s b
      go (goes_to qs s') = refl
      go (fails_at f l s') = refl

  nothing_left : (n : ℕ) (s : S) → advance step n [] s ≡ ended finished n s
  nothing_left zero s = refl
  nothing_left (suc n) s = refl

  pub adds : (n m : ℕ) (ps : List I) (s : S) → advance step (n + m) ps s ≡ resume step m (advance step n ps s)
  adds zero m [] s = nothing_left (0 + m) s
  adds zero m (p ∷ ps) s = ap (λ (k : ℕ). advance step k (p ∷ ps) s) (zero-add m)
  adds (suc n) m [] s = nothing_left (suc n + m) s
  adds (suc n) m (p ∷ ps) s =
      ap (λ (k : ℕ). advance step k (p ∷ ps) s) (suc-add n m)
      ∙ steps (n + m) p ps s ∙ go (step p s) (λ qs s'. adds n m (qs ++ ps) s')
      ∙ sym (ap (resume step m) (steps n p ps s))
    where
      go : (b : Step I S) → ((qs : List I) (s' : S) → advance step (n + m) (qs ++ ps) s' ≡ resume step m (advance step n (qs ++ ps) s'))
          → on (n + m) ps s b ≡ resume step m (on n ps s b)
      go (goes_to qs s') ih = ih qs s'
      go (fails_at f l s') ih = refl

module _ (K : Arithmetic) (size : ℕ) (fetch : List ℕ → ℕ → Work ℕ) where
  by_rule : (n : ℕ) (ps : List Pending) (s : Situation) → rewrite K size fetch n ps s ≡ halted (λ x. x.store) (advance (rule_step K size fetch) n ps s)
  by_rule zero [] s = refl
  by_rule zero (p ∷ ps) s = refl
  by_rule (suc n) [] s = refl
  by_rule (suc n) (p ∷ ps) s = go (begins K size fetch p s) (λ qs s'. by_rule n (qs ++ ps) s')
    where
      go : (b : Begun) → ((qs : List Pending) (s' : Situation) → rewrite K size fetch n (qs ++ ps) s' ≡ halted (λ x. x.store) (advance (rule_step K size fetch) n (qs ++ ps) s'))
          → elim b [ goes qs s' ↦ rewrite K size fetch n (qs ++ ps) s' | fails f l ↦ record { ending = fault f l; left = n; store = s.store } ]
          ≡ halted (λ x. x.store) (elim (elim b as (λ _. Step Pending Situation) [ goes qs s' ↦ goes_to qs s' | fails f l ↦ fails_at f l s ]) [ goes_to qs s' ↦ advance (rule_step K size fetch) n (qs ++ ps) s' | fails_at f l s' ↦ ended (fault f l) n s' ])
      go (goes qs s') ih = ih qs s'
      go (fails f l) ih = refl

  module _ (room : List ℕ → ℕ → Bool) (G : Names) where
    abbrev pub onward : ℕ → List Item → Moved → Halt
    onward n ps (moves qs σ') = machine K size fetch room G n (qs ++ ps) σ'
    onward n ps (refuses f l σ') = record { ending = fault f l; left = n; store = σ' }

    pub runs_on : (n : ℕ) (p : Item) (ps : List Item) (σ : List ℕ)
        → machine K size fetch room G (suc n) (p ∷ ps) σ ≡ onward n ps (move K size fetch room G p.text p.level p.used p.env σ)
    runs_on n p ps σ = go (move K size fetch room G p.text p.level p.used p.env σ)
      where
        go : (b : Moved) → elim b [ moves qs σ' ↦ machine K size fetch room G n (qs ++ ps) σ' | refuses f l σ' ↦ record { ending = fault f l; left = n; store = σ' } ] ≡ onward n ps b
        go (moves qs σ') = refl
        go (refuses f l σ') = refl

    abbrev pub onto : ℕ → List Item → Moved → Reached Item (List ℕ)
    onto n ps (moves qs σ') = advance (machine_step K size fetch room G) n (qs ++ ps) σ'
    onto n ps (refuses f l σ') = ended (fault f l) n σ'

    pub comes_to : (n : ℕ) (p : Item) (ps : List Item) (σ : List ℕ)
        → advance (machine_step K size fetch room G) (suc n) (p ∷ ps) σ ≡ onto n ps (move K size fetch room G p.text p.level p.used p.env σ)
    comes_to n p ps σ = go (move K size fetch room G p.text p.level p.used p.env σ)
      where
        go : (b : Moved) → elim (elim b as (λ _. Step Item (List ℕ)) [ moves qs σ' ↦ goes_to qs σ' | refuses f l σ' ↦ fails_at f l σ' ])
            [ goes_to qs σ' ↦ advance (machine_step K size fetch room G) n (qs ++ ps) σ' | fails_at f l σ' ↦ ended (fault f l) n σ' ] ≡ onto n ps b
        go (moves qs σ') = refl
        go (refuses f l σ') = refl

    pub by_machine : (n : ℕ) (ps : List Item) (σ : List ℕ) → machine K size fetch room G n ps σ ≡ halted (λ x. x) (advance (machine_step K size fetch room G) n ps σ)
    by_machine zero [] σ = refl
    by_machine zero (p ∷ ps) σ = refl
    by_machine (suc n) [] σ = refl
    by_machine (suc n) (p ∷ ps) σ = go (move K size fetch room G p.text p.level p.used p.env σ) (λ qs σ'. by_machine n (qs ++ ps) σ')
      where
        go : (b : Moved) → ((qs : List Item) (σ' : List ℕ) → machine K size fetch room G n (qs ++ ps) σ' ≡ halted (λ x. x) (advance (machine_step K size fetch room G) n (qs ++ ps) σ'))
            → elim b [ moves qs σ' ↦ machine K size fetch room G n (qs ++ ps) σ' | refuses f l σ' ↦ record { ending = fault f l; left = n; store = σ' } ]
            ≡ halted (λ x. x) (elim (elim b as (λ _. Step Item (List ℕ)) [ moves qs σ' ↦ goes_to qs σ' | refuses f l σ' ↦ fails_at f l σ' ]) [ goes_to qs σ' ↦ advance (machine_step K size fetch room G) n (qs ++ ps) σ' | fails_at f l σ' ↦ ended (fault f l) n σ' ])
        go (moves qs σ') ih = ih qs σ'
        go (refuses f l σ') ih = refl

pub resumes : Resumes
resumes = record {
  rule_adds = λ K size fetch. adds (rule_step K size fetch);
  machine_adds = λ K size fetch room G. adds (machine_step K size fetch room G);
  by_rule = by_rule;
  by_machine = by_machine;
}
