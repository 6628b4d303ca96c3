-- The copy rule over whole runs has exactly one outcome, which the rewriting gives.
use Rattle.std.proofs.Common.{◌≡◌, ℕ, zero, suc, ◌≤◌, List, [], ◌∷◌, ◌++◌, sym, refl, ap, ◌∙◌, append-nil, le_trans, le_refl, le_of_suc-le-suc, not-suc-le-zero, arith}
use Rattle.kinds.specs.Arithmetic.{Arithmetic}
use Rattle.rule.specs.Work.{Work}
use Rattle.rule.specs.Rewriting.{Pending, Situation, Begun, goes, fails, begins, stopped, fault, rewrite}
use Rattle.rule.specs.CopyRule.{Outcome, through, halts, Runs, none_left, stops, faulted, inner_halts, then_runs}
use Rattle.rule.specs.Laws.{Agrees, halt_of}

module _ (K : Arithmetic) (size : ℕ) (fetch : List ℕ → ℕ → Work ℕ) where
  -- the rewriting, with what the names stand for at the end
  abbrev outcome : ℕ → List Pending → Situation → Outcome
  outcome zero [] s = through zero s
  outcome zero (p ∷ ps) s = halts stopped zero s.store
  outcome (suc n) [] s = through (suc n) s
  outcome (suc n) (p ∷ ps) s = elim (begins K size fetch p s) [ goes qs s' ↦ outcome n (qs ++ ps) s' | fails f l ↦ halts (fault f l) n s.store ]

  abbrev on : ℕ → List Pending → Situation → Begun → Outcome
  on n ps s (goes qs s') = outcome n (qs ++ ps) s'
  on n ps s (fails f l) = halts (fault f l) n s.store

  stepped : (n : ℕ) (p : Pending) (ps : List Pending) (s : Situation) → outcome (suc n) (p ∷ ps) s ≡ on n ps s (begins K size fetch p s)
  stepped n p ps s = go (begins K size fetch p s)
    where
      go : (b : Begun) → elim b [ goes qs s' ↦ outcome n (qs ++ ps) s' | fails f l ↦ halts (fault f l) n s.store ] ≡ on n ps s b
      go (goes qs s') = refl
      go (fails f l) = refl

  rewritten : (n : ℕ) (ps : List Pending) (s : Situation) → rewrite K size fetch n ps s ≡ halt_of (outcome n ps s)
  rewritten zero [] s = refl
  rewritten zero (p ∷ ps) s = refl
  rewritten (suc n) [] s = refl
  rewritten (suc n) (p ∷ ps) s = go (begins K size fetch p s) (λ qs s'. rewritten n (qs ++ ps) s')
    where
      go : (b : Begun) → ((qs : List Pending) (s' : Situation) → rewrite K size fetch n (qs ++ ps) s' ≡ halt_of (outcome n (qs ++ ps) s'))
          → elim b [ goes qs s' ↦ rewrite K size fetch n (qs ++ ps) s' | fails f l ↦ record { ending = fault f l; left = n; store = s.store } ]
          ≡ halt_of (elim b [ goes qs s' ↦ outcome n (qs ++ ps) s' | fails f l ↦ halts (fault f l) n s.store ])
      go (goes qs s') h = h qs s'
      go (fails f l) h = refl

  -- what follows an outcome
  abbrev after : Outcome → List Pending → Outcome
  after (through n s) ps = outcome n ps s
  after (halts e m σ) ps = halts e m σ

  sound : {ps : List Pending} {n : ℕ} {s : Situation} {o : Outcome} → Runs K size fetch ps n s o → (rest : List Pending) → outcome n (ps ++ rest) s ≡ after o rest
  sound none_left rest = refl
  sound stops rest = refl
  sound (faulted {p = p} {ps = ps} {n = n} {s = s} e) rest = stepped n p (ps ++ rest) s ∙ ap (on n (ps ++ rest) s) e
  sound (inner_halts {p = p} {ps = ps} {n = n} {s = s} e r) rest = stepped n p (ps ++ rest) s ∙ ap (on n (ps ++ rest) s) e ∙ sound r (ps ++ rest)
  sound (then_runs {p = p} {ps = ps} {n = n} {s = s} e r t) rest = stepped n p (ps ++ rest) s ∙ ap (on n (ps ++ rest) s) e ∙ sound r (ps ++ rest) ∙ sound t rest

  ended : (o : Outcome) → after o [] ≡ o
  ended (through zero s) = refl
  ended (through (suc n) s) = refl
  ended (halts e m σ) = refl

  is_outcome : (ps : List Pending) (n : ℕ) (s : Situation) (o : Outcome) → Runs K size fetch ps n s o → o ≡ outcome n ps s
  is_outcome ps n s o r = sym (ap (λ qs. outcome n qs s) (sym (append-nil ps)) ∙ sound r [] ∙ ended o)

  -- a run halts as the rewriting does
  pub halts_so : (ps : List Pending) (n : ℕ) (s : Situation) (o : Outcome) → Runs K size fetch ps n s o → halt_of o ≡ rewrite K size fetch n ps s
  halts_so ps n s o r = ap halt_of (is_outcome ps n s o r) ∙ sym (rewritten n ps s)

  abbrev left_of : Outcome → ℕ
  left_of (through m s) = m
  left_of (halts e m σ) = m

  abbrev SomeRun : ℕ → List Pending → Situation → Type 0
  SomeRun n ps s = (o : Outcome) × Runs K size fetch ps n s o × (left_of o ≤ n)

  abbrev Below : ℕ → Type 0
  Below k = (n : ℕ) → n ≤ k → (ps : List Pending) (s : Situation) → SomeRun n ps s

  followed : (k n : ℕ) → n ≤ k → Below k → (p : Pending) (ps : List Pending) (s : Situation) (qs : List Pending) (s' : Situation)
      → begins K size fetch p s ≡ goes qs s' → SomeRun n qs s' → SomeRun (suc n) (p ∷ ps) s
  followed k n h below p ps s qs s' e (through m s'', r, m≤n) =
      let rest = below m (le_trans m≤n h) ps s'' in
      (rest.0, then_runs e r rest.1, le_trans rest.2 (omega arith))
  followed k n h below p ps s qs s' e (halts d m σ, r, m≤n) = (halts d m σ, inner_halts e r, omega arith)

  begun : (k n : ℕ) → n ≤ k → Below k → (p : Pending) (ps : List Pending) (s : Situation) (b : Begun) → begins K size fetch p s ≡ b → SomeRun (suc n) (p ∷ ps) s
  begun k n h below p ps s (goes qs s') e = followed k n h below p ps s qs s' e (below n h qs s')
  begun k n h below p ps s (fails f l) e = (halts (fault f l) n s.store, faulted e, omega arith)

  total : (k n : ℕ) → n ≤ k → (ps : List Pending) (s : Situation) → SomeRun n ps s
  total k n h [] s = (through n s, none_left, le_refl n)
  total k zero h (p ∷ ps) s = (halts stopped zero s.store, stops, le_refl zero)
  total zero (suc n) h (p ∷ ps) s = absurd (not-suc-le-zero h)
  total (suc k) (suc n) h (p ∷ ps) s = begun k n (le_of_suc-le-suc h) (total k) p ps s (begins K size fetch p s) refl

pub agrees : Agrees
agrees K size fetch ps n s =
    let t = total K size fetch n n (le_refl n) ps s in
    (t.0, t.1, λ o r. is_outcome K size fetch ps n s o r ∙ sym (is_outcome K size fetch ps n s t.0 t.1), sym (halts_so K size fetch ps n s t.0 t.1))
