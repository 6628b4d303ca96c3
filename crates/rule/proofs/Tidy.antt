-- What is waiting in a run is at falling levels, with cells in use that the store has.
use Rattle.std.proofs.Common.{◌≡◌, ℕ, zero, suc, ◌+◌, ◌<◌, ◌≤◌, Bool, true, false, T, ltb, leb, List, [], ◌∷◌, ◌++◌, length, set, sym, refl, ◌∙◌, subst, le_trans, le_refl, arith, ltb→lt, leb→le, length-set}
use Rattle.kinds.specs.Arithmetic.{Arithmetic}
use Rattle.script.specs.Script.{Statement, assign, both, branch, call, new_simple, new_array, system}
use Rattle.script.specs.Names.{Names}
use Rattle.rule.specs.Work.{Work, gives, faults}
use Rattle.rule.specs.Values.{value, cell_at, holds}
use Rattle.rule.specs.Rewriting.{cleared}
use Rattle.rule.specs.Machine.{Env, Found, unknown, closure, procedure_at, standing, Item, Moved, moves, refuses, tried, deeper, stored, enters, move}
use Rattle.rule.specs.Local.{Sits, Bounded}
use Rattle.rule.specs.Resume.{Reached, going, ended, advance, machine_step}
use Rattle.rule.specs.Tidy.{Tidy, TidyState, StaysTidy, NumbersFit}
use Rattle.rule.specs.Closing.{program_of, first_items}
use Rattle.script.specs.Apart.{globals_of}
use Rattle.lines.specs.declared.records.Line.{Line}
use Rattle.rule.proofs.Local.{Below, place_below, globals_sit, sits_more, standing_sits, bounded_more, Closed, found_closed}
use Rattle.rule.proofs.Resume.{onto, comes_to}

pub length_cleared : (n at w : ℕ) (σ : List ℕ) → length (cleared n at w σ) ≡ length σ
length_cleared zero at w σ = refl
length_cleared (suc n) at w σ = length_cleared n (suc at) w (set σ at w) ∙ length-set σ at w

module _ (taken : ℕ) where
  tidy_more : (m u n v : ℕ) (ps : List Item) → m ≤ n → u ≤ v → Tidy taken m u ps → Tidy taken n v ps
  tidy_more m u n v [] a b t = tt
  tidy_more m u n v (p ∷ ps) a b t = (le_trans t.0 a, le_trans t.1 b, t.2, t.3, t.4)

  tidy_few : (m u : ℕ) (ps : List Item) → Tidy taken m u ps → length ps ≤ m
  tidy_few m u [] t = omega arith
  tidy_few m u (p ∷ ps) t = omega (arith, tidy_few p.level p.used ps t.4, t.0)

  module _ (K : Arithmetic) (size : ℕ) (fetch : List ℕ → ℕ → Work ℕ) (room : List ℕ → ℕ → Bool) (G : Names) (globals : (z : ℕ) → Sits taken (G z)) where
    -- what stands for a cell where so many cells are in use
    pub in_use : (used : ℕ) (ρ : Env) → taken ≤ used → Bounded ρ used → (z : ℕ) → Sits used (standing G ρ z)
    in_use used ρ k b = standing_sits G used (λ z. sits_more taken used k (G z) (globals z)) ρ b

    module _ (ps : List Item) (σ : List ℕ) where
      abbrev pub Kept : Moved → Type 0
      Kept (moves qs τ) = Tidy taken 513 size (qs ++ ps) × (length τ ≡ length σ)
      Kept (refuses f l τ) = length τ ≡ length σ

      tried_kept : {A : Type 0} (l : ℕ) (w : Work A) (f : A → Moved) → ((a : A) → Kept (f a)) → Kept (tried l σ w f)
      tried_kept l (gives a) f h = h a
      tried_kept l (faults n) f h = refl

      tried_cell : (u l : ℕ) (w : Work ℕ) (f : ℕ → Moved) → Below u w → ((c : ℕ) → c < u → Kept (f c)) → Kept (tried l σ w f)
      tried_cell u l (gives a) f b h = h a b
      tried_cell u l (faults n) f b h = refl

      deeper_kept : (l level used more : ℕ) (m : Moved) → (level < 512 → used + more ≤ size → Kept m) → Kept (deeper size l level used more σ m)
      deeper_kept l level used more m h = go (ltb level 512) (leb (used + more) size) (ltb→lt level 512) (leb→le (used + more) size)
        where
          go : (p q : Bool) → (T p → level < 512) → (T q → used + more ≤ size)
              → Kept (elim p [ true ↦ elim q [ true ↦ m | false ↦ refuses 25 l σ ] | false ↦ refuses 24 l σ ])
          go true true a b = h (a tt) (b tt)
          go true false a b = refl
          go false q a b = refl

      stored_kept : (b : Bool) (l : ℕ) (qs : List Item) (τ : List ℕ) → Tidy taken 513 size (qs ++ ps) → length τ ≡ length σ → Kept (stored b l qs τ)
      stored_kept true l qs τ t e = (t, e)
      stored_kept false l qs τ t e = e

      enters_kept : (d : Found) (l level used w c : ℕ) → taken ≤ used → Closed used d → c < used → Tidy taken level used ps
          → Kept (enters K size fetch room G d l level used σ w c)
      enters_kept unknown l level used w c k b h t = refl
      enters_kept (closure x y body ρ) l level used w c k b h t =
          deeper_kept l level used 1 _ (λ e f. stored_kept _ l _ _ (
            omega arith,
            omega arith,
            omega arith,
            (omega arith, (omega arith, bounded_more used (used + 1) (omega arith) ρ b)),
            tidy_more level used (level + 1) (used + 1) ps (omega arith) (omega arith) t,
          )
          (length-set σ used w))

      pub move_kept : (s : Statement) (level used : ℕ) (ρ : Env) → level < 513 → used ≤ size → taken ≤ used → Bounded ρ used → Tidy taken level used ps
          → Kept (move K size fetch room G s level used ρ σ)
      move_kept (assign l p x) level used ρ a u k b t =
          tried_kept l (value K (standing G ρ) (fetch σ) x) _ (λ w. tried_kept l (cell_at K (standing G ρ) (fetch σ) p) _
          (λ c. stored_kept _ l [] _ (tidy_more level used 513 size ps (omega arith) u t) (length-set σ c w)))
      move_kept (both l x y) level used ρ a u k b t = deeper_kept l level used 0 _ (λ e f. ((omega arith, u, k, b, (omega arith, le_refl used, k, b, t)), refl))
      move_kept (branch l c x y) level used ρ a u k b t = tried_kept l (holds K (standing G ρ) (fetch σ) c) _ (λ v. ((a, u, k, b, t), refl))
      move_kept (call l q x p) level used ρ a u k b t =
          tried_kept l (value K (standing G ρ) (fetch σ) x) _ (λ w. tried_cell used l (cell_at K (standing G ρ) (fetch σ) p) _
          (place_below K (standing G ρ) used (in_use used ρ k b) (fetch σ) p)
          (λ c h. enters_kept (procedure_at ρ q) l level used w c k (found_closed used ρ b q) h t))
      move_kept (new_simple l x s) level used ρ a u k b t =
          deeper_kept l level used 1 _ (λ e f. stored_kept _ l _ _ (
            omega arith,
            omega arith,
            omega arith,
            (omega arith, bounded_more used (used + 1) (omega arith) ρ b),
            tidy_more level used (level + 1) (used + 1) ps (omega arith) (omega arith) t,
          )
          (length-set σ used K.zero))
      move_kept (new_array l x n s) level used ρ a u k b t =
          deeper_kept l level used n _ (λ e f. stored_kept _ l _ _ (
            omega arith,
            f,
            omega arith,
            (le_refl (used + n), bounded_more used (used + n) (omega arith) ρ b),
            tidy_more level used (level + 1) (used + n) ps (omega arith) (omega arith) t,
          )
          (length_cleared n used K.zero σ))
      move_kept (system l d s) level used ρ a u k b t =
          deeper_kept l level used 0 _ (λ e f. ((omega arith, u, k, b, tidy_more level used (level + 1) used ps (omega arith) (le_refl used) t), refl))

    stays : (n : ℕ) (ps : List Item) (σ : List ℕ) → Tidy taken 513 size ps → TidyState taken size n (length σ) (advance (machine_step K size fetch room G) n ps σ)
    stays zero [] σ t = (omega arith, refl)
    stays zero (p ∷ ps) σ t = (t, omega arith, tidy_few 513 size (p ∷ ps) t, refl)
    stays (suc n) [] σ t = (omega arith, refl)
    stays (suc n) (p ∷ ps) σ t =
        subst (TidyState taken size (suc n) (length σ)) (sym (comes_to K size fetch room G n p ps σ))
        (go (move K size fetch room G p.text p.level p.used p.env σ) (move_kept ps σ p.text p.level p.used p.env t.0 t.1 t.2 t.3 t.4)
        (λ qs τ. stays n (qs ++ ps) τ))
      where
        later : (long : ℕ) (r : Reached Item (List ℕ)) → TidyState taken size n long r → TidyState taken size (suc n) long r
        later long (going qs τ) h = h
        later long (ended e k τ) h = (omega (arith, h.0), h.1)

        go : (m : Moved) → Kept ps σ m
            → ((qs : List Item) (τ : List ℕ) → Tidy taken 513 size (qs ++ ps)
            → TidyState taken size n (length τ) (advance (machine_step K size fetch room G) n (qs ++ ps) τ))
            → TidyState taken size (suc n) (length σ) (onto K size fetch room G n ps m)
        go (moves qs τ) h ih =
            later (length σ) (advance (machine_step K size fetch room G) n (qs ++ ps) τ)
            (subst (λ (k : ℕ). TidyState taken size n k (advance (machine_step K size fetch room G) n (qs ++ ps) τ)) h.1 (ih qs τ h.0))
        go (refuses f l τ) h ih = (omega arith, h)

pub stays_tidy : StaysTidy
stays_tidy K size fetch room G taken globals = stays taken K size fetch room G globals

pub first_tidy : (ls : List Line) (t : Statement) (size : ℕ) → (globals_of ls).taken ≤ size → Tidy (globals_of ls).taken 513 size (first_items (program_of ls t))
first_tidy ls t size h = (omega arith, h, le_refl (globals_of ls).taken, tt, tt)

pub numbers_fit : NumbersFit
numbers_fit K size fetch room ls t h n σ =
    stays_tidy K size fetch room (globals_of ls).names (globals_of ls).taken (globals_sit ls) n (first_items (program_of ls t)) σ (first_tidy ls t size h)
