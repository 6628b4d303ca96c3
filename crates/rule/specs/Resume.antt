-- A run that stops where its allowance ends, and goes on from there with more: the same for the copy rule's rewriting and for the machine.
use Rattle.std.specs.Prelude.{◌≡◌, ℕ, zero, suc, ◌+◌, Bool, List, [], ◌∷◌, ◌++◌}
use Rattle.kinds.specs.Arithmetic.{Arithmetic}
use Rattle.script.specs.Names.{Names}
use Rattle.rule.specs.Work.{Work}
use Rattle.rule.specs.Rewriting.{Pending, Situation, goes, fails, begins, rewrite, Ending, finished, stopped, fault, Halt}
use Rattle.rule.specs.Machine.{Item, moves, refuses, move, machine}

-- what beginning one statement gives: statements to be run next, with the state, or a fault with its line and the state that it leaves
pub data Step (I S : Type 0) : Type 0 where
  goes_to : List I → S → Step I S
  fails_at : ℕ → ℕ → S → Step I S

-- how far a run came: it waits for more with what is to be begun, or it is over with an allowance left
pub data Reached (I S : Type 0) : Type 0 where
  going : List I → S → Reached I S
  ended : Ending → ℕ → S → Reached I S

module _ {I S : Type 0} (step : I → S → Step I S) where
  -- the run of n statements
  abbrev pub advance : ℕ → List I → S → Reached I S
  advance zero [] s = ended finished 0 s
  advance zero (p ∷ ps) s = going (p ∷ ps) s
  advance (suc n) [] s = ended finished (suc n) s
  advance (suc n) (p ∷ ps) s = elim (step p s) [ goes_to qs s' ↦ advance n (qs ++ ps) s' | fails_at f l s' ↦ ended (fault f l) n s' ]

  -- a grant of m more
  abbrev pub resume : ℕ → Reached I S → Reached I S
  resume m (going ps s) = advance m ps s
  resume m (ended e k s) = ended e (k + m) s

-- the halt of a run that gets no more allowance, by the store that a state has
abbrev pub halted : {I S : Type 0} → (S → List ℕ) → Reached I S → Halt
halted store (going ps s) = record { ending = stopped; left = 0; store = store s }
halted store (ended e k s) = record { ending = e; left = k; store = store s }

module _ (K : Arithmetic) (size : ℕ) (fetch : List ℕ → ℕ → Work ℕ) where
  abbrev pub rule_step : Pending → Situation → Step Pending Situation
  rule_step p s = elim (begins K size fetch p s) [ goes qs s' ↦ goes_to qs s' | fails f l ↦ fails_at f l s ]

  abbrev pub machine_step : (List ℕ → ℕ → Bool) → Names → Item → List ℕ → Step Item (List ℕ)
  machine_step room G p σ = elim (move K size fetch room G p.text p.level p.used p.env σ) [ moves qs σ' ↦ goes_to qs σ' | refuses f l σ' ↦ fails_at f l σ' ]

-- n statements and then m are n + m statements, and a run that is over stays so
abbrev pub Adds : {I S : Type 0} → (I → S → Step I S) → Type 0
Adds {I} {S} step = (n m : ℕ) (ps : List I) (s : S) → advance step (n + m) ps s ≡ resume step m (advance step n ps s)

-- that holds of the rule and of the machine; and one allowance for all is the rewriting, and the machine's run
pub record Resumes : Type 0 where
  pub rule_adds : (K : Arithmetic) (size : ℕ) (fetch : List ℕ → ℕ → Work ℕ) → Adds (rule_step K size fetch)
  pub machine_adds : (K : Arithmetic) (size : ℕ) (fetch : List ℕ → ℕ → Work ℕ) (room : List ℕ → ℕ → Bool) (G : Names)
      → Adds (machine_step K size fetch room G)
  pub by_rule : (K : Arithmetic) (size : ℕ) (fetch : List ℕ → ℕ → Work ℕ) (n : ℕ) (ps : List Pending) (s : Situation)
      → rewrite K size fetch n ps s ≡ halted (λ x. x.store) (advance (rule_step K size fetch) n ps s)
  pub by_machine : (K : Arithmetic) (size : ℕ) (fetch : List ℕ → ℕ → Work ℕ) (room : List ℕ → ℕ → Bool) (G : Names) (n : ℕ) (ps : List Item) (σ : List ℕ)
      → machine K size fetch room G n ps σ ≡ halted (λ x. x) (advance (machine_step K size fetch room G) n ps σ)
