-- A turn of a run: what the machine is still to come to after a step.
use Rattle.std.proofs.Common.{◌≡◌, ℕ, zero, suc, ◌+◌, List, [], ◌∷◌, ◌++◌, sym, refl, ap, ◌∙◌, subst, arith}
use Rattle.kinds.specs.Arithmetic.{Arithmetic}
use Rattle.lines.specs.declared.records.Record.{Record}
use Rattle.script.specs.Names.{Names}
use Rattle.rule.specs.Rewriting.{finished, fault}
use Rattle.rule.specs.Handed.{handed, handed_room}
use Rattle.rule.specs.Machine.{Item, Moved, moves, refuses, move}
use Rattle.rule.specs.Resume.{Reached, Step, goes_to, fails_at, ended}
use Rattle.faults.specs.declared.fault.Fault.{Fault}
use Rattle.engine.specs.declared.levels.Engine.{Engine}
use Rattle.engine.specs.declared.run.State.{State}
use Rattle.engine.specs.declared.run.State.TheVariants.{Running, Finished, Faulted}
use Rattle.engine.specs.Working.{OfKind}
use Rattle.engine.specs.Running.{Holds, Came, CameTo, machine_after, Steps, left_of}

apart : {A : Type 0} → Running ≡ Finished → A
apart e = let z : ◌≡◌ {A = ℕ} 0 1 = cc in absurd (omega arith)

apart_fault : {A : Type 0} (f : Fault) (l : ℕ) → Faulted f l ≡ Finished → A
apart_fault f l e = let z : ◌≡◌ {A = ℕ} 0 1 = cc in absurd (omega arith)

module _ (K : Arithmetic) (size : ℕ) (G : Names) where
  abbrev far : ℕ → List Item → List ℕ → Reached Item (List ℕ)
  far n ps τ = machine_after K size G n ps τ

  abbrev step_of : Item → List ℕ → Moved
  step_of p σ = move K size (handed K) handed_room G p.text p.level p.used p.env σ

  abbrev onto : ℕ → List Item → Moved → Reached Item (List ℕ)
  onto n qs (moves ms τ) = far n (ms ++ qs) τ
  onto n qs (refuses f l τ) = ended (fault f l) n τ

  one : (n : ℕ) (p : Item) (qs : List Item) (σ : List ℕ) → far (suc n) (p ∷ qs) σ ≡ onto n qs (step_of p σ)
  one n p qs σ = go (step_of p σ)
    where
      go : (b : Moved) → (let s : Step Item (List ℕ) = elim b [ moves rs τ ↦ goes_to rs τ | refuses f l τ ↦ fails_at f l τ ] in
          let r : Reached Item (List ℕ) = elim s [ goes_to rs τ ↦ far n (rs ++ qs) τ | fails_at f l τ ↦ ended (fault f l) n τ ] in r) ≡ onto n qs b
      go (moves ms τ) = refl
      go (refuses f l τ) = refl

  nothing_left : (n : ℕ) (σ : List ℕ) → far n [] σ ≡ ended finished n σ
  nothing_left zero σ = refl
  nothing_left (suc n) σ = refl

  -- a step over equal records
  pub step_from : (rs rs' : List Record) (e e' : Engine) (s : State) (σ' σ : List ℕ) → rs ≡ rs'
      → ((H : Names) (ps : List Item) → OfKind K rs → Holds H rs e ps → Steps K size H rs e' s σ' σ ps) → (ps : List Item) → OfKind K rs' → Holds G rs' e ps → Steps K size G rs' e' s σ' σ ps
  step_from rs rs' e e' s σ' σ q f = subst (λ r. (ps : List Item) → OfKind K r → Holds G r e ps → Steps K size G r e' s σ' σ ps) q (f G)

  module _ (rs : List Record) (e : Engine) (s : State) (σ' σ : List ℕ) where
    turn_by : (n : ℕ) (qs : List Item) (m : Moved) → Came G rs e Running σ' qs m → (ps : List Item) × Holds G rs e ps × (far n ps σ' ≡ onto n qs m)
    turn_by n qs (moves ms τ) v = (ms ++ qs, v.1, ap (far n (ms ++ qs)) v.0)
    turn_by n qs (refuses f l τ) v = absurd v

    on : (n : ℕ) (ps : List Item) → Steps K size G rs e Running σ' σ ps → (qs : List Item) × Holds G rs e qs × (far n qs σ' ≡ far (suc n) ps σ)
    on n [] v = apart v.0
    on n (p ∷ qs) v = let t = turn_by n qs (step_of p σ) v in (t.0, t.1, t.2 ∙ sym (one n p qs σ))

    -- the step went on
    pub turn_on : (n : ℕ) (ps : List Item) → s ≡ Running → Steps K size G rs e s σ' σ ps → (qs : List Item) × Holds G rs e qs × (far n qs σ' ≡ far (suc n) ps σ)
    turn_on n ps q v = on n ps (subst (λ z. Steps K size G rs e z σ' σ ps) q v)

    over : (b n m : ℕ) (ps : List Item) → b + n ≡ m → Steps K size G rs e Finished σ' σ ps → CameTo G rs e m b Finished σ' (far n ps σ)
    over b n m [] q v = subst (CameTo G rs e m b Finished σ') (sym (nothing_left n σ)) (refl, q, v.1, v.2)
    over b n m (p ∷ qs) q v = absurd v

    -- or there was nothing to begin
    pub turn_finished : (b n m : ℕ) (ps : List Item) → s ≡ Finished → b + n ≡ m → Steps K size G rs e s σ' σ ps → CameTo G rs e m b s σ' (far n ps σ)
    turn_finished b n m ps q = subst (λ z. b + n ≡ m → Steps K size G rs e z σ' σ ps → CameTo G rs e m b z σ' (far n ps σ)) (sym q) (over b n m ps)

    fault_by : (f : Fault) (l b n m : ℕ) (qs : List Item) (x : Moved) → b + n ≡ m → Came G rs e (Faulted f l) σ' qs x → CameTo G rs e m b (Faulted f l) σ' (onto n qs x)
    fault_by f l b n m qs (moves ms τ) q v = absurd v
    fault_by f l b n m qs (refuses i j τ) q v = (f, ap (Faulted f) (sym v.1), v.0, q, v.2, v.3)

    faults : (f : Fault) (l b n m : ℕ) (ps : List Item) → b + n ≡ m → Steps K size G rs e (Faulted f l) σ' σ ps → CameTo G rs e m b (Faulted f l) σ' (far (suc n) ps σ)
    faults f l b n m [] q v = apart_fault f l v.0
    faults f l b n m (p ∷ qs) q v = subst (CameTo G rs e m b (Faulted f l) σ') (sym (one n p qs σ)) (fault_by f l b n m qs (step_of p σ) q v)

    -- or it faulted
    pub turn_fault : (f : Fault) (l b n m : ℕ) (ps : List Item) → s ≡ Faulted f l → b + n ≡ m → Steps K size G rs e s σ' σ ps → CameTo G rs e m b s σ' (far (suc n) ps σ)
    turn_fault f l b n m ps q = subst (λ z. b + n ≡ m → Steps K size G rs e z σ' σ ps → CameTo G rs e m b z σ' (far (suc n) ps σ)) (sym q) (faults f l b n m ps)

  -- the allowance has been used up
  pub used_up : (rs : List Record) (e : Engine) (m n : ℕ) (s : State) (σ : List ℕ) (ps : List Item) → n ≡ 0 → s ≡ left_of ps → Holds G rs e ps → CameTo G rs e m m s σ (far n ps σ)
  used_up rs e m n s σ ps z q v = subst (λ k. CameTo G rs e m m s σ (far k ps σ)) (sym z) (subst (λ x. CameTo G rs e m m x σ (far 0 ps σ)) (sym q) (go ps v))
    where
      go : (ps : List Item) → Holds G rs e ps → CameTo G rs e m m (left_of ps) σ (far 0 ps σ)
      go [] v = (refl, omega arith, refl, v)
      go (p ∷ ps) v = (refl, refl, refl, v)
