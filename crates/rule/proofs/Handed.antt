-- Over a store that is handed over, from lawful words, the machine runs as over the rule's own.
use Rattle.std.proofs.Common.{◌≡◌, ℕ, zero, suc, ◌+◌, ◌<◌, ◌≤◌, Bool, true, false, T, ltb, leb, List, [], ◌∷◌, ◌++◌, length, set, sym, refl, ap, ◌∙◌, subst, le_trans, arith, leb→le}
use Rattle.std.proofs.lemmas.Bool.{le-leb}
use Rattle.kinds.specs.Arithmetic.{Arithmetic, Laws}
use Rattle.script.specs.Script.{Statement, assign, both, branch, call, new_simple, new_array, system}
use Rattle.script.specs.Names.{Names}
use Rattle.script.specs.Apart.{globals_of}
use Rattle.rule.specs.Work.{Work, gives, faults}
use Rattle.rule.specs.Rewriting.{cleared}
use Rattle.rule.specs.Machine.{Env, Found, unknown, closure, procedure_at, standing, Item, Moved, moves, refuses, tried, deeper, stored, enters, move}
use Rattle.rule.specs.Closing.{own_fetch, own_room, program_of, first_items}
use Rattle.rule.specs.Local.{Sits, Bounded}
use Rattle.rule.specs.Resume.{advance, machine_step, halted}
use Rattle.rule.specs.Lawful.{LawfulWord, LawfulWork, LawfulBelow, ReadsLawfully}
use Rattle.rule.specs.Handed.{lawful_or_fault, handed, handed_room, StoresReadLawfully, HandedOver}
use Rattle.rule.proofs.Local.{Below, place_below, same_cell, same_value, same_truth, globals_sit}
use Rattle.rule.proofs.Resume.{onto, comes_to, by_machine}
use Rattle.rule.proofs.Tidy.{in_use, first_tidy}
use Rattle.rule.proofs.Constants.{script_lawful}
use Rattle.rule.proofs.Lawful.{words_get, Sound, SoundMoved, sound_on}

module _ (K : Arithmetic) where
  reads_own : ReadsLawfully K own_fetch
  reads_own σ u c h l e = words_get (LawfulWord K) u c 0 σ h l e

  lawful_work : (b : Bool) (w : ℕ) → K.lawful w ≡ b → LawfulWork K (lawful_or_fault b w)
  lawful_work true w e = subst T (sym e) tt
  lawful_work false w e = tt

  reads_handed : ReadsLawfully K (handed K)
  reads_handed [] u c h l e = tt
  reads_handed (x ∷ xs) u zero h l e = lawful_work (K.lawful x) x refl
  reads_handed (x ∷ xs) zero (suc c) h l e = absurd (omega arith)
  reads_handed (x ∷ xs) (suc u) (suc c) h l e = reads_handed xs u c (omega arith) (omega arith) e.1

  is_lawful : (b : Bool) (w : ℕ) → T b → lawful_or_fault b w ≡ gives w
  is_lawful true w h = refl
  is_lawful false w h = absurd h

  -- of a cell in use both give the word
  read_alike : (σ : List ℕ) (u c : ℕ) → c < u → u ≤ length σ → LawfulBelow K u σ → handed K σ c ≡ own_fetch σ c
  read_alike σ zero c h l e = absurd (omega arith)
  read_alike [] (suc u) c h l e = absurd (omega arith)
  read_alike (x ∷ xs) (suc u) zero h l e = is_lawful (K.lawful x) x e.0
  read_alike (x ∷ xs) (suc u) (suc c) h l e = read_alike xs u c (omega arith) (omega arith) e.1

pub stores_read_lawfully : StoresReadLawfully
stores_read_lawfully K = (reads_handed K, reads_own K)

tried_alike : {A : Type 0} (l : ℕ) (σ : List ℕ) (w v : Work A) (f g : A → Moved) → w ≡ v → ((a : A) → f a ≡ g a) → tried l σ w f ≡ tried l σ v g
tried_alike {A} l σ w v f g e h = ap (λ (x : Work A). tried l σ x f) e ∙ go v
  where
    go : (x : Work A) → tried l σ x f ≡ tried l σ x g
    go (gives a) = h a
    go (faults n) = refl

tried_cell : (u l : ℕ) (σ : List ℕ) (w v : Work ℕ) (f g : ℕ → Moved) → w ≡ v → Below u v → ((c : ℕ) → c < u → f c ≡ g c) → tried l σ w f ≡ tried l σ v g
tried_cell u l σ w v f g e b h = ap (λ (x : Work ℕ). tried l σ x f) e ∙ go v b
  where
    go : (x : Work ℕ) → Below u x → tried l σ x f ≡ tried l σ x g
    go (gives c) i = h c i
    go (faults n) i = refl

deeper_alike : (size l level used more : ℕ) (σ : List ℕ) (a b : Moved) → (used + more ≤ size → a ≡ b) → deeper size l level used more σ a ≡ deeper size l level used more σ b
deeper_alike size l level used more σ a b h = go (ltb level 512) (leb (used + more) size) (leb→le (used + more) size)
  where
    go : (p q : Bool) → (T q → used + more ≤ size)
        → ◌≡◌ {A = Moved} (elim p [ true ↦ elim q [ true ↦ a | false ↦ refuses 25 l σ ] | false ↦ refuses 24 l σ ])
        (elim p [ true ↦ elim q [ true ↦ b | false ↦ refuses 25 l σ ] | false ↦ refuses 24 l σ ])
    go true true k = h (k tt)
    go true false k = refl
    go false q k = refl

-- puts into cells that the store has
stored_alike : (σ : List ℕ) (u l : ℕ) (qs : List Item) (τ : List ℕ) → u ≤ length σ → stored (handed_room σ u) l qs τ ≡ moves qs τ
stored_alike σ u l qs τ h = ap (λ (b : Bool). stored b l qs τ) (le-leb u (length σ) h)

module _ (K : Arithmetic) (taken size : ℕ) (G : Names) (globals : (z : ℕ) → Sits taken (G z)) where
  enters_alike : (d : Found) (l level used : ℕ) (σ : List ℕ) (w c : ℕ) → size ≤ length σ
      → enters K size (handed K) handed_room G d l level used σ w c ≡ enters K size own_fetch own_room G d l level used σ w c
  enters_alike unknown l level used σ w c m = refl
  enters_alike (closure x y body ρ) l level used σ w c m =
      deeper_alike size l level used 1 σ _ _ (λ h. stored_alike σ (used + 1) l _ (set σ used w) (le_trans h m))

  moves_alike : (s : Statement) (level used : ℕ) (ρ : Env) (σ : List ℕ) → taken ≤ used → Bounded ρ used → used ≤ size → size ≤ length σ → LawfulBelow K used σ
      → move K size (handed K) handed_room G s level used ρ σ ≡ move K size own_fetch own_room G s level used ρ σ
  moves_alike s level used ρ σ k b u m h = go s
    where
      sits : (z : ℕ) → Sits used (standing G ρ z)
      sits = in_use taken K size own_fetch own_room G globals used ρ k b

      alike : (c : ℕ) → c < used → handed K σ c ≡ own_fetch σ c
      alike c i = read_alike K σ used c i (le_trans u m) h

      go : (s : Statement) → move K size (handed K) handed_room G s level used ρ σ ≡ move K size own_fetch own_room G s level used ρ σ
      go (assign l p x) =
          tried_alike l σ _ _ _ _ (same_value K (standing G ρ) used sits (handed K σ) (own_fetch σ) alike x)
          (λ w. tried_cell used l σ _ _ _ _ (same_cell K (standing G ρ) used sits (handed K σ) (own_fetch σ) alike p)
          (place_below K (standing G ρ) used sits (own_fetch σ) p)
          (λ c i. stored_alike σ (c + 1) l [] (set σ c w) (omega arith)))
      go (both l s t) = refl
      go (branch l c s t) = tried_alike l σ _ _ _ _ (same_truth K (standing G ρ) used sits (handed K σ) (own_fetch σ) alike c) (λ v. refl)
      go (call l q x p) =
          tried_alike l σ _ _ _ _ (same_value K (standing G ρ) used sits (handed K σ) (own_fetch σ) alike x)
          (λ w. tried_alike l σ _ _ _ _ (same_cell K (standing G ρ) used sits (handed K σ) (own_fetch σ) alike p)
          (λ c. enters_alike (procedure_at ρ q) l level used σ w c m))
      go (new_simple l x s) = deeper_alike size l level used 1 σ _ _ (λ i. stored_alike σ (used + 1) l _ (set σ used K.zero) (le_trans i m))
      go (new_array l x n s) = deeper_alike size l level used n σ _ _ (λ i. stored_alike σ (used + n) l _ (cleared n used K.zero σ) (le_trans i m))
      go (system l d s) = refl

  module _ (L : Laws K) where
    abbrev Ordered : List Item → List ℕ → Type 0
    Ordered = Sound K L taken size own_fetch (reads_own K) own_room G globals

    states_alike : (n : ℕ) (ps : List Item) (σ : List ℕ) → Ordered ps σ
        → advance (machine_step K size (handed K) handed_room G) n ps σ ≡ advance (machine_step K size own_fetch own_room G) n ps σ
    states_alike zero [] σ s = refl
    states_alike zero (p ∷ ps) σ s = refl
    states_alike (suc n) [] σ s = refl
    states_alike (suc n) (p ∷ ps) σ s = let t = s.tidy in
        comes_to K size (handed K) handed_room G n p ps σ
        ∙ ap (onto K size (handed K) handed_room G n ps) (moves_alike p.text p.level p.used p.env σ t.2 t.3 t.1 s.long s.words)
        ∙ go (move K size own_fetch own_room G p.text p.level p.used p.env σ) (sound_on K L taken size own_fetch (reads_own K) own_room G globals p ps σ s)
        (λ qs τ. states_alike n (qs ++ ps) τ)
        ∙ sym (comes_to K size own_fetch own_room G n p ps σ)
      where
        go : (m : Moved) → SoundMoved K L taken size own_fetch (reads_own K) own_room G globals ps m
            → ((qs : List Item) (τ : List ℕ) → Ordered (qs ++ ps) τ
            → advance (machine_step K size (handed K) handed_room G) n (qs ++ ps) τ ≡ advance (machine_step K size own_fetch own_room G) n (qs ++ ps) τ)
            → onto K size (handed K) handed_room G n ps m ≡ onto K size own_fetch own_room G n ps m
        go (moves qs τ) h ih = ih qs τ h
        go (refuses f l τ) h ih = refl

pub handed_over : HandedOver
handed_over K L size ls s room n σ long words =
    let G = (globals_of ls).names in
    let ps = first_items (program_of ls s.text) in
    let e = states_alike K (globals_of ls).taken size G (globals_sit ls) L n ps σ
    (record { tidy = first_tidy ls s.text size room; items = ((script_lawful K L ls s, tt), tt); words = words; long = long }) in
    (e, by_machine K size (handed K) handed_room G n ps σ ∙ ap (halted (λ x. x)) e ∙ sym (by_machine K size own_fetch own_room G n ps σ))
