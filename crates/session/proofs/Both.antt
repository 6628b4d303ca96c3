-- The same calls made over two stores.
use Rattle.std.proofs.Common.{◌≡◌, ℕ, ◌≤◌, List, length, take, min, length-take-le, le_refl, sym, ap, ◌∙◌, subst, arith}
use Rattle.std.proofs.lemmas.List.{take-take}
use Rattle.kinds.specs.Arithmetic.{Arithmetic}
use Rattle.lines.specs.declared.records.Record.{Record}
use Rattle.acceptance.specs.Sheet.{lines_of}
use Rattle.acceptance.specs.Scripts.{Accepted}
use Rattle.calls.specs.declared.asked.Call.{Call}
use Rattle.calls.specs.History.{Reply}
use Rattle.calls.specs.Answers.{Answered}
use Rattle.calls.specs.Laws.{global_store}
use Rattle.calls.proofs.Alike.{two_sessions}
use Rattle.session.specs.Promise.{Talked}
use Rattle.session.proofs.Keeping.{few_lines}

-- so many of the first calls are all of them
pub made_all : {A : Type 0} (n m k : ℕ) (xs : List A) → n ≤ length xs → n ≤ m → k ≡ min (length (take n xs)) m → k ≡ n
made_all n m k xs h q e = let l = length-take-le n xs h in omega (arith, l, q, e)

module _ (K : Arithmetic) (rs : List Record) (a : Accepted K.least K.most rs) (σ σ' : List ℕ) (calls : List Call) (replies : List Reply) where
  -- k of the first n calls were made, and both are j
  pub talked_again : (n k j : ℕ) → k ≡ n → j ≡ n → Talked K rs a σ (take k (take n calls)) (take k replies) σ'
      → Talked K rs a σ (take j calls) (take j replies) σ'
  talked_again n k j p q t =
      let e : take k (take n calls) ≡ take j calls = ap (λ i. take i (take n calls)) p ∙ (take-take n n calls (le_refl n) ∙ ap (λ i. take i calls) (sym q)) in
      subst (λ qs. Talked K rs a σ qs (take j replies) σ') e (subst (λ i. Talked K rs a σ (take k (take n calls)) (take i replies) σ') (p ∙ sym q) t)

-- over stores of equal size with equal global stores the replies are equal
pub replied_alike : (K : Arithmetic) (rs : List Record) (a : Accepted K.least K.most rs) (σ τ σ' τ' : List ℕ) (calls : List Call) (p q : List Reply) → length σ ≡ length τ
    → global_store (lines_of rs) σ ≡ global_store (lines_of rs) τ → Talked K rs a σ calls p σ' → Talked K rs a τ calls q τ' → p ≡ q
replied_alike K rs a σ τ σ' τ' calls p q long same t u =
    let ls = lines_of rs in
    (two_sessions K K.least K.most ls (few_lines K.least K.most rs a) a.script σ τ long).replies_equal same calls p q t.answered
    (subst (λ n. Answered K ls a.script.text n τ calls q) (sym long) u.answered)
