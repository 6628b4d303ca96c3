-- The copy rule over whole runs: a statement's run is the run of what beginning it asks for, and then of what follows.
use Rattle.std.specs.Prelude.{◌≡◌, ℕ, zero, suc, List, [], ◌∷◌}
use Rattle.kinds.specs.Arithmetic.{Arithmetic}
use Rattle.rule.specs.Work.{Work}
use Rattle.rule.specs.Rewriting.{Pending, Situation, goes, fails, begins, Ending, stopped, fault}

-- what running some statements comes to: through to their end with this allowance left, or the whole run halts
pub data Outcome : Type 0 where
  through : ℕ → Situation → Outcome
  halts : Ending → ℕ → List ℕ → Outcome

module _ (K : Arithmetic) (size : ℕ) (fetch : List ℕ → ℕ → Work ℕ) where
  pub data Runs : List Pending → ℕ → Situation → Outcome → Type 0 where
    none_left : {n : ℕ} {s : Situation} → Runs [] n s (through n s)
    stops : {p : Pending} {ps : List Pending} {s : Situation} → Runs (p ∷ ps) zero s (halts stopped zero s.store)
    faulted : {p : Pending} {ps : List Pending} {n : ℕ} {s : Situation} {f l : ℕ} → begins K size fetch p s ≡ fails f l
        → Runs (p ∷ ps) (suc n) s (halts (fault f l) n s.store)
    inner_halts : {p : Pending} {ps : List Pending} {n : ℕ} {s : Situation} {qs : List Pending} {s' : Situation} {e : Ending} {m : ℕ} {σ : List ℕ}
        → begins K size fetch p s ≡ goes qs s' → Runs qs n s' (halts e m σ) → Runs (p ∷ ps) (suc n) s (halts e m σ)
    then_runs : {p : Pending} {ps : List Pending} {n : ℕ} {s : Situation} {qs : List Pending} {s' : Situation} {m : ℕ} {s'' : Situation} {o : Outcome}
        → begins K size fetch p s ≡ goes qs s' → Runs qs n s' (through m s'') → Runs ps m s'' o → Runs (p ∷ ps) (suc n) s o
