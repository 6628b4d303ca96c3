-- What a write to the levels keeps, and what it adds.
use Rattle.std.proofs.Common.{◌≡◌, ℕ, zero, suc, ◌+◌, ◌<◌, ◌≤◌, ◌≢◌, List, ◌∷◌, length, get_or, set, Some, None, Option, sym, refl, ap, ◌∙◌, subst, ⊎_elim, add-one, arith, length-set, get_or-set_same, get_or-set_other}
use Rattle.std.specs.List.{slice_get}
use Rattle.std.proofs.lemmas.Bool.{cases_lt}
use Rattle.std.proofs.lemmas.Option.{slice_get-get_or, slice_get_past}
use Rattle.lines.specs.declared.records.Record.{Record}
use Rattle.script.specs.Names.{Names}
use Rattle.rule.specs.Machine.{Env, Item}
use Rattle.engine.specs.declared.frame.Binding.{Binding}
use Rattle.engine.specs.declared.frame.Binding.TheVariants.{Script, Sequel, Simple, Array, System, Call}
use Rattle.engine.specs.declared.frame.Frame.{Frame}
use Rattle.engine.specs.Frames.{Binds, Link, Framed, FramesStand}
use Rattle.engine.specs.Levels.{blank, with_rest, At, Rest, Held, Waiting}
use Rattle.engine.specs.Beginning.{pushed}

pub get_same : (fs : List Frame) (i : ℕ) (f : Frame) → i < length fs → slice_get (set fs i f) i ≡ Some f
get_same fs i f h = slice_get-get_or (set fs i f) i blank (rw length-set h) ∙ ap Some (get_or-set_same fs i f blank h)

pub get_other : (fs : List Frame) (i j : ℕ) (f : Frame) → j ≢ i → slice_get (set fs i f) j ≡ slice_get fs j
get_other fs i j f n =
    ⊎_elim
    (λ (h : j < length fs). slice_get-get_or (set fs i f) j blank (rw length-set h) ∙ ap Some (get_or-set_other fs i j f blank n) ∙ sym (slice_get-get_or fs j blank h))
    (λ (h : length fs ≤ j). slice_get_past (set fs i f) j (rw length-set h) ∙ sym (slice_get_past fs j h))
    (cases_lt j (length fs))

-- a level without what is to be begun there
abbrev pub bare : Option Frame → Option Frame
bare None = None
bare (Some f) = Some (with_rest f None)

module _ (G : Names) (rs : List Record) where
  binds_map : (k : ℕ) (b : Binding) (l : ℕ) (ρ : Env) (go go' : Env → Type 0) → ((σ : Env) → go σ → go' σ) → Binds G rs k b l ρ go → Binds G rs k b l ρ go'
  binds_map k Script l ρ go go' f w = w
  binds_map k Sequel l ρ go go' f w = f ρ w
  binds_map k (Simple c) l ρ go go' f w = (w.0, w.1, w.2, f w.0 w.3)
  binds_map k (Array b n) l ρ go go' f w = (w.0, w.1, w.2, f w.0 w.3)
  binds_map k System l ρ go go' f w = (w.0, w.1, w.2, w.3, w.4, w.5, f w.2 w.6)
  binds_map k (Call c v) l ρ go go' f w = (w.0, w.1, f w.0 w.2)

  to_bare : (o : Option Frame) (k : ℕ) (ρ : Env) (go : ℕ → Env → Type 0) → Link G rs o k ρ go → Link G rs (bare o) k ρ go
  to_bare None k ρ go w = w
  to_bare (Some f) k ρ go w = w

  from_bare : (o : Option Frame) (k : ℕ) (ρ : Env) (go : ℕ → Env → Type 0) → Link G rs (bare o) k ρ go → Link G rs o k ρ go
  from_bare None k ρ go w = w
  from_bare (Some f) k ρ go w = w

  link_map : (o : Option Frame) (k : ℕ) (ρ : Env) (go go' : ℕ → Env → Type 0) → ((j : ℕ) (σ : Env) → j < k → go j σ → go' j σ) → Link G rs o k ρ go → Link G rs o k ρ go'
  link_map None k ρ go go' f w = w
  link_map (Some x) k ρ go go' f w =
      binds_map k x.binding x.line ρ (λ σ. (x.outer < k) × go x.outer σ) (λ σ. (x.outer < k) × go' x.outer σ) (λ σ v. (v.0, f x.outer σ v.0 v.1)) w

  framed_kept : (fs fs' : List Frame) (n k : ℕ) (ρ : Env) → ((j : ℕ) → j ≤ k → bare (slice_get fs j) ≡ bare (slice_get fs' j)) → Framed G rs fs n k ρ → Framed G rs fs' n k ρ
  framed_kept fs fs' zero k ρ e w = w
  framed_kept fs fs' (suc n) k ρ e w =
      let le : k ≤ k = omega arith in
      let v = link_map (slice_get fs k) k ρ (Framed G rs fs n) (Framed G rs fs' n) (λ j σ h u. framed_kept fs fs' n j σ (λ i l. e i (omega arith)) u) w in
      from_bare (slice_get fs' k) k ρ (Framed G rs fs' n)
      (subst (λ (o : Option Frame). Link G rs o k ρ (Framed G rs fs' n)) (e k le) (to_bare (slice_get fs k) k ρ (Framed G rs fs' n) v))

  pub frames_kept : (fs fs' : List Frame) (k : ℕ) (ρ : Env) → ((j : ℕ) → j ≤ k → bare (slice_get fs j) ≡ bare (slice_get fs' j)) → FramesStand G rs fs k ρ → FramesStand G rs fs' k ρ
  frames_kept fs fs' k ρ e w = (w.0, framed_kept fs fs' w.0 k ρ e w.1)

  rest_kept : (fs fs' : List Frame) (f : Frame) (t : Option ℕ) (k : ℕ) (ps : List Item) (go go' : List Item → Type 0)
      → ((j : ℕ) → j ≤ k → bare (slice_get fs j) ≡ bare (slice_get fs' j)) → ((qs : List Item) → go qs → go' qs)
      → Rest G rs fs f t k ps go → Rest G rs fs' f t k ps go'
  rest_kept fs fs' f None k ps go go' e m w = m ps w
  rest_kept fs fs' f (Some j) k ps go go' e m w =
      let a = w.3 in
      (w.0, w.1, w.2, record { level = a.level; used = a.used; text = a.text; env = frames_kept fs fs' k (w.0).env e a.env; fine = a.fine; proper = a.proper }, m w.1 w.4)

  held_kept : (fs fs' : List Frame) (o : Option Frame) (k : ℕ) (ps : List Item) (go go' : List Item → Type 0)
      → ((j : ℕ) → j ≤ k → bare (slice_get fs j) ≡ bare (slice_get fs' j)) → ((qs : List Item) → go qs → go' qs)
      → Held G rs fs o k ps go → Held G rs fs' o k ps go'
  held_kept fs fs' None k ps go go' e m w = w
  held_kept fs fs' (Some f) k ps go go' e m w = rest_kept fs fs' f f.rest k ps go go' e m w

  pub waiting_kept : (fs fs' : List Frame) (h : ℕ) (ps : List Item) → ((j : ℕ) → j < h → slice_get fs j ≡ slice_get fs' j) → Waiting G rs fs h ps → Waiting G rs fs' h ps
  waiting_kept fs fs' zero ps e w = w
  waiting_kept fs fs' (suc k) ps e w =
      subst (λ (o : Option Frame). Held G rs fs' o k ps (Waiting G rs fs' k)) (e k (omega arith))
      (held_kept fs fs' (slice_get fs k) k ps (Waiting G rs fs k) (Waiting G rs fs' k) (λ j l. ap bare (e j (omega arith)))
      (λ qs. waiting_kept fs fs' k qs (λ j l. e j (omega arith))) w)

  -- a level whose frame is known
  pub link_in : (fs : List Frame) (n j : ℕ) (g : Frame) (ρ : Env) → slice_get fs j ≡ Some g
      → Binds G rs j g.binding g.line ρ (λ σ. (g.outer < j) × Framed G rs fs n g.outer σ) → FramesStand G rs fs j ρ
  link_in fs n j g ρ e w = (suc n, subst (λ (o : Option Frame). Link G rs o j ρ (Framed G rs fs n)) (sym e) w)

  pub waits : (fs : List Frame) (k j : ℕ) (g : Frame) (p : Item) (qs : List Item) → slice_get fs k ≡ Some g → g.rest ≡ Some j → At G rs fs g k j p → Waiting G rs fs k qs
      → Waiting G rs fs (suc k) (p ∷ qs)
  waits fs k j g p qs e t a w =
      subst (λ (o : Option Frame). Held G rs fs o k (p ∷ qs) (Waiting G rs fs k)) (sym e)
      (subst (λ (o : Option ℕ). Rest G rs fs g o k (p ∷ qs) (Waiting G rs fs k)) (sym t) (p, qs, refl, a, w))

  pub skips : (fs : List Frame) (k : ℕ) (g : Frame) (qs : List Item) → slice_get fs k ≡ Some g → g.rest ≡ None → Waiting G rs fs k qs → Waiting G rs fs (suc k) qs
  skips fs k g qs e t w =
      subst (λ (o : Option Frame). Held G rs fs o k qs (Waiting G rs fs k)) (sym e)
      (subst (λ (o : Option ℕ). Rest G rs fs g o k qs (Waiting G rs fs k)) (sym t) w)

-- the levels after a push
module _ (fs : List Frame) (k : ℕ) (t : Option ℕ) (g : Frame) (h : k + 1 < length fs) where
  abbrev pub here : Frame
  here = with_rest (get_or fs k blank) t

  pub pushed_low : (j : ℕ) → j < k → slice_get fs j ≡ slice_get (pushed fs k t g) j
  pushed_low j l =
      let n : j ≢ k + 1 = (λ e. omega arith) in
      let m : j ≢ k = (λ e. omega arith) in
      sym (get_other (set fs k here) (k + 1) j g n ∙ get_other fs k j here m)

  pub pushed_here : slice_get (pushed fs k t g) k ≡ Some here
  pushed_here =
      let n : k ≢ k + 1 = (λ e. omega arith) in
      get_other (set fs k here) (k + 1) k g n ∙ get_same fs k here (omega arith)

  pub pushed_top : slice_get (pushed fs k t g) (suc k) ≡ Some g
  pushed_top =
      let l : k + 1 < length (set fs k here) = rw length-set h in
      ap (slice_get (pushed fs k t g)) (sym (add-one k)) ∙ get_same (set fs k here) (k + 1) g l

  pub pushed_bare : (j : ℕ) → j ≤ k → bare (slice_get fs j) ≡ bare (slice_get (pushed fs k t g) j)
  pushed_bare j l =
      ⊎_elim (λ (q : j < k). ap bare (pushed_low j q))
      (λ (q : k ≤ j). let e : j ≡ k = omega arith in
      rw e (ap bare (slice_get-get_or fs k blank (omega arith)) ∙ ap bare (sym pushed_here)))
      (cases_lt j k)
