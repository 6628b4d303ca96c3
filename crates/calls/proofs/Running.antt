-- A script's run over the store that is handed over, grant by grant, comes to what the copy rule says of its grants together.
use Rattle.std.proofs.Common.{◌≡◌, ℕ, zero, suc, ◌+◌, ◌≤◌, Bool, true, false, not, List, [], ◌∷◌, ◌++◌, length, sym, refl, ap, ◌∙◌, subst, le_refl, arith}
use Rattle.kinds.specs.Arithmetic.{Arithmetic, Laws}
use Rattle.lines.specs.declared.records.Line.{Line}
use Rattle.script.specs.Apart.{globals_of}
use Rattle.script.specs.IsScript.{IsScript}
use Rattle.rule.specs.Rewriting.{fault, Halt}
use Rattle.rule.specs.Machine.{Item, machine}
use Rattle.rule.specs.Closing.{Program, own_fetch, own_room, first_items, program_of}
use Rattle.rule.specs.Handed.{handed, handed_room}
use Rattle.rule.specs.Lawful.{LawfulBelow, LawfulState, LawfulWord}
use Rattle.rule.specs.Resume.{Step, goes_to, fails_at, Reached, going, ended, advance, resume, halted, machine_step}
use Rattle.rule.specs.Tidy.{TidyState}
use Rattle.calls.specs.Standing.{Ran, run}
use Rattle.rule.proofs.Accepted.{accepted_agrees}
use Rattle.rule.proofs.Count.{closing, closing_from, halt_at, is_over, is_stopped}
use Rattle.rule.proofs.Handed.{handed_over, stores_read_lawfully}
use Rattle.rule.proofs.Lawful.{stays_lawful, words_less}
use Rattle.rule.proofs.Resume.{adds, by_machine, steps}
use Rattle.rule.proofs.Tidy.{numbers_fit}

-- ## What a run comes to

abbrev pub done : Reached Item (List ℕ) → Bool
done (going ps σ) = false
done (ended e m σ) = true

abbrev pub store_of : Reached Item (List ℕ) → List ℕ
store_of (going ps σ) = σ
store_of (ended e m σ) = σ

-- a run that is over was not stopped, and no more of its allowance is left than it had
abbrev pub Ends : {I S : Type 0} → ℕ → Reached I S → Type 0
Ends n (going ps s) = Unit {0}
Ends n (ended e k s) = (is_stopped e ≡ false) × (k ≤ n)

pub ends : {I S : Type 0} (step : I → S → Step I S) (n : ℕ) (ps : List I) (s : S) → Ends n (advance step n ps s)
ends step zero [] s = (refl, le_refl zero)
ends step zero (p ∷ ps) s = tt
ends step (suc n) [] s = (refl, le_refl (suc n))
ends {I} {S} step (suc n) (p ∷ ps) s =
    subst (λ (x : Reached I S). Ends (suc n) x) (sym (steps step n p ps s)) (go (step p s) (λ qs s'. later (advance step n (qs ++ ps) s') (ends step n (qs ++ ps) s')))
  where
    later : (x : Reached I S) → Ends n x → Ends (suc n) x
    later (going qs s') h = tt
    later (ended e k s') h = (h.0, let q : k ≤ n = h.1 in omega (arith, q))

    go : (b : Step I S) → ((qs : List I) (s' : S) → Ends (suc n) (advance step n (qs ++ ps) s'))
        → Ends (suc n) (elim b [ goes_to qs s' ↦ advance step n (qs ++ ps) s' | fails_at f l s' ↦ ended (fault f l) n s' ])
    go (goes_to qs s') h = h qs s'
    go (fails_at f l s') h = (refl, omega arith)

over_as_told : (n : ℕ) (x : Reached Item (List ℕ)) → Ends n x → not (is_stopped (halted (λ σ. σ) x).ending) ≡ done x
over_as_told n (going ps σ) h = refl
over_as_told n (ended e k σ) h = ap not h.0

module _ (K : Arithmetic) (L : Laws K) (ls : List Line) (s : IsScript K.least K.most ls) (few : length ls ≤ 2048) (size : ℕ) where
  abbrev pub P : Program
  P = program_of ls s.text

  abbrev pub taken : ℕ
  taken = (globals_of ls).taken

  abbrev Came : List ℕ → ℕ → Reached Item (List ℕ) → Type 0
  Came = Ran K ls s.text size

  module _ (σ : List ℕ) (n : ℕ) (x : Reached Item (List ℕ)) (r : Came σ n x) where
    own_run : machine K size own_fetch own_room (globals_of ls).names n (first_items P) σ ≡ halted (λ τ. τ) x
    own_run =
        sym (handed_over K L size ls s r.room n σ (let f = r.long in omega (arith, f)) r.lawful).1
        ∙ by_machine K size (handed K) handed_room (globals_of ls).names n (first_items P) σ
        ∙ ap (halted (λ τ. τ)) r.came

    -- the copy rule, allowed as much, halts as the machine
    pub same_halt : halt_at K P size σ n ≡ halted (λ τ. τ) x
    same_halt = sym (accepted_agrees K size own_fetch K.least K.most ls few s n 0 taken σ) ∙ own_run

    pub closing_is : closing K P size σ n ≡ closing_from n (halted (λ τ. τ) x)
    closing_is = ap (closing_from n) same_halt

    pub over_is : is_over K P size σ n ≡ done x
    over_is =
        ap (λ (h : Halt). not (is_stopped h.ending)) same_halt
        ∙ over_as_told n x (subst (λ (y : Reached Item (List ℕ)). Ends n y) r.came (ends (machine_step K size (handed K) handed_room (globals_of ls).names) n (first_items P) σ))

    fits : TidyState taken size n size x
    fits =
        subst (TidyState taken size n size) r.came
        (subst (λ k. TidyState taken size n k (run K ls s.text size n (first_items P) σ)) r.long
        (numbers_fit K size (handed K) handed_room ls s.text r.room n σ))

    lawful_state : LawfulState K (handed K) (globals_of ls).names taken x
    lawful_state =
        subst (λ (y : Reached Item (List ℕ)). LawfulState K (handed K) (globals_of ls).names taken y) r.came
        (stays_lawful K L size (handed K) handed_room (stores_read_lawfully K).0 ls s r.room n σ (let f = r.long in omega (arith, f)) r.lawful)

  lawful_there : (n : ℕ) (x : Reached Item (List ℕ)) → TidyState taken size n size x → LawfulState K (handed K) (globals_of ls).names taken x → LawfulBelow K taken (store_of x)
  lawful_there n (going [] σ) f l = l
  lawful_there n (going (p ∷ ps) σ) f l = words_less (LawfulWord K) p.used taken σ f.0.2 l.words
  lawful_there n (ended e k σ) f l = l

  long_there : (n : ℕ) (x : Reached Item (List ℕ)) → TidyState taken size n size x → length (store_of x) ≡ size
  long_there n (going ps σ) f = f.3
  long_there n (ended e k σ) f = f.1

  module _ (σ : List ℕ) (n : ℕ) (x : Reached Item (List ℕ)) (r : Came σ n x) where
    pub long_is : length (store_of x) ≡ size
    long_is = long_there n x (fits σ n x r)

    pub lawful_is : LawfulBelow K taken (store_of x)
    lawful_is = lawful_there n x (fits σ n x r) (lawful_state σ n x r)

  -- a run that goes on
  pub went_on : (τ : List ℕ) (k n : ℕ) (ps : List Item) (σ : List ℕ) → Came τ k (going ps σ) → Came τ (k + n) (run K ls s.text size n ps σ)
  went_on τ k n ps σ r = record {
    long = r.long;
    room = r.room;
    lawful = r.lawful;
    came =
        adds (machine_step K size (handed K) handed_room (globals_of ls).names) k n (first_items P) τ
        ∙ ap (resume (machine_step K size (handed K) handed_room (globals_of ls).names) n) r.came;
  }
