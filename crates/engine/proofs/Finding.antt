-- What one level says of a name, and what the levels around it do.
use Rattle.std.proofs.Common.{◌≡◌, ℕ, zero, suc, ◌<◌, ◌≤◌, Bool, true, false, eqb, ◌⊎◌, List, length, Some, None, Option, sym, refl, ap, ◌∙◌, subst, inl, inr, ⊎_elim, eq-eqb, ne_eqb, arith}
use Rattle.std.specs.List.{slice_get}
use Rattle.std.proofs.lemmas.Bool.{cases_eq}
use Rattle.std.proofs.lemmas.Option.{slice_get_past}
use Rattle.lines.specs.declared.records.Record.{Record}
use Rattle.lines.specs.declared.records.Declaration.{Declaration}
use Rattle.lines.specs.declared.records.Role.{Role}
use Rattle.lines.specs.declared.records.Role.TheVariants.{Declared, ValueFormal, VariableFormal, GlobalSimple, GlobalArray}
use Rattle.script.specs.Script.{only}
use Rattle.script.specs.Names.{Names, Standing, nothing, cell, cells}
use Rattle.script.specs.Apart.{own, own_value, own_variable}
use Rattle.standing.specs.Records.{own_name, RoleRight, Tells}
use Rattle.rule.specs.Machine.{Env, standing}
use Rattle.engine.specs.declared.frame.Binding.{Binding}
use Rattle.engine.specs.declared.frame.Binding.TheVariants.{Script, Sequel, Simple, Array, System, Call}
use Rattle.engine.specs.declared.frame.Frame.{Frame}
use Rattle.engine.specs.declared.frame.Stand.{Stand}
use Rattle.engine.specs.declared.frame.Stand.TheVariants.{Cell, Cells}
use Rattle.engine.specs.Frames.{Binds, Link, Framed, FramesStand, when, bound, bound_as, or_else}

-- a level that may bind the name
hit : (x y m l : ℕ) (s : Stand) (f : Names) → (m ≡ l → x ≡ y) → (x ≡ y → m ≡ l)
    → only x (or_else (Some s) (f y)) f y ≡ or_else (when (eqb m l) (Some s)) (f y)
hit x y m l s f g h =
    ⊎_elim (λ (e : m ≡ l). rw (only, eq-eqb x y (g e), eq-eqb m l e) refl) (λ (n : m ≡ l → ⊥). rw (only, ne_eqb x y (λ e. n (h e)), ne_eqb m l n) refl) (cases_eq m l)

nothing_when : (b : Bool) → when {A = Stand} b None ≡ None
nothing_when true = refl
nothing_when false = refl

-- one that cannot
miss : (x y m l : ℕ) (a : Standing) (f : Names) → (x ≡ y → ⊥) → only x a f y ≡ or_else (when (eqb m l) None) (f y)
miss x y m l a f n = rw (only, ne_eqb x y n, nothing_when (eqb m l)) refl

no_cell : {A : Type 0} (c : ℕ) → cell c ≡ nothing → A
no_cell c e = let z : ◌≡◌ {A = ℕ} 0 1 = cc in absurd (omega arith)

no_cells : {A : Type 0} (b n : ℕ) → cells b n ≡ nothing → A
no_cells b n e = let z : ◌≡◌ {A = ℕ} 0 1 = cc in absurd (omega arith)

module _ (G : Names) (rs : List Record) where
  -- what holds of a name at a level: it stands as the level says, or else as it does around it
  abbrev pub Law : ℕ → Binding → ℕ → ℕ → Role → Env → (Env → Type 0) → Type 0
  Law k b m l r ρ go =
      ((k ≡ 0) × (standing G ρ (own_name l r) ≡ or_else (bound b m l r) (G (own_name l r))))
      ⊎ ((σ : Env) × go σ × (standing G ρ (own_name l r) ≡ or_else (bound b m l r) (standing G σ (own_name l r))))

  law_simple : (c m l : ℕ) (r : Role) (f : Names) → G (own m) ≡ nothing → RoleRight G l r
      → only (own m) (cell c) f (own_name l r) ≡ or_else (bound (Simple c) m l r) (f (own_name l r))
  law_simple c m l Declared f n a = hit (own m) (own l) m l (Cell c) f (λ e. ap own e) (λ e. omega arith)
  law_simple c m l ValueFormal f n a = miss (own m) (own_value l) m l (cell c) f (λ e. omega arith)
  law_simple c m l VariableFormal f n a = miss (own m) (own_variable l) m l (cell c) f (λ e. omega arith)
  law_simple c m l (GlobalSimple x) f n a = miss (own m) (own l) m l (cell c) f (λ e. no_cell x (sym a ∙ ap G (sym e) ∙ n))
  law_simple c m l (GlobalArray x k) f n a = miss (own m) (own l) m l (cell c) f (λ e. no_cells x k (sym a ∙ ap G (sym e) ∙ n))

  law_array : (b k m l : ℕ) (r : Role) (f : Names) → G (own m) ≡ nothing → RoleRight G l r
      → only (own m) (cells b k) f (own_name l r) ≡ or_else (bound (Array b k) m l r) (f (own_name l r))
  law_array b k m l Declared f n a = hit (own m) (own l) m l (Cells b k) f (λ e. ap own e) (λ e. omega arith)
  law_array b k m l ValueFormal f n a = miss (own m) (own_value l) m l (cells b k) f (λ e. omega arith)
  law_array b k m l VariableFormal f n a = miss (own m) (own_variable l) m l (cells b k) f (λ e. omega arith)
  law_array b k m l (GlobalSimple x) f n a = miss (own m) (own l) m l (cells b k) f (λ e. no_cell x (sym a ∙ ap G (sym e) ∙ n))
  law_array b k m l (GlobalArray x j) f n a = miss (own m) (own l) m l (cells b k) f (λ e. no_cells x j (sym a ∙ ap G (sym e) ∙ n))

  past : (x y : ℕ) (a : Standing) (f : Names) → (x ≡ y → ⊥) → only x a f y ≡ f y
  past x y a f n = rw (only, ne_eqb x y n) refl

  law_call : (c v m l : ℕ) (r : Role) (f : Names)
      → only (own_variable m) (cell v) (only (own_value m) (cell c) f) (own_name l r) ≡ or_else (bound (Call c v) m l r) (f (own_name l r))
  law_call c v m l Declared f =
      past (own_variable m) (own l) (cell v) (only (own_value m) (cell c) f) (λ e. omega arith) ∙ miss (own_value m) (own l) m l (cell c) f (λ e. omega arith)
  law_call c v m l ValueFormal f =
      past (own_variable m) (own_value l) (cell v) (only (own_value m) (cell c) f) (λ e. omega arith)
      ∙ hit (own_value m) (own_value l) m l (Cell c) f (λ e. ap own_value e) (λ e. omega arith)
  law_call c v m l VariableFormal f =
      hit (own_variable m) (own_variable l) m l (Cell v) (only (own_value m) (cell c) f) (λ e. ap own_variable e) (λ e. omega arith)
      ∙ ap (or_else (when (eqb m l) (Some (Cell v)))) (past (own_value m) (own_variable l) (cell c) f (λ e. omega arith))
  law_call c v m l (GlobalSimple x) f =
      past (own_variable m) (own l) (cell v) (only (own_value m) (cell c) f) (λ e. omega arith) ∙ miss (own_value m) (own l) m l (cell c) f (λ e. omega arith)
  law_call c v m l (GlobalArray x k) f =
      past (own_variable m) (own l) (cell v) (only (own_value m) (cell c) f) (λ e. omega arith) ∙ miss (own_value m) (own l) m l (cell c) f (λ e. omega arith)

  unbound : (b : Binding) (m l : ℕ) (r : Role) (x : Standing) → bound_as b r ≡ None → x ≡ or_else (bound b m l r) x
  unbound b m l r x e = ap (λ o. or_else o x) (sym (ap (when (eqb m l)) e ∙ nothing_when (eqb m l)))

  pub law : (k : ℕ) (b : Binding) (m l : ℕ) (r : Role) (ρ : Env) (go : Env → Type 0) → Binds G rs k b m ρ go → RoleRight G l r → Law k b m l r ρ go
  law k Script m l r ρ go h a = inl (h.0, ap (λ e. standing G e (own_name l r)) h.1 ∙ unbound Script m l r (G (own_name l r)) refl)
  law k Sequel m l r ρ go h a = inr (ρ, h, unbound Sequel m l r (standing G ρ (own_name l r)) refl)
  law k (Simple c) m l r ρ go h a = inr (h.0, h.3, ap (λ e. standing G e (own_name l r)) h.1 ∙ law_simple c m l r (standing G h.0) h.2 a)
  law k (Array b n) m l r ρ go h a = inr (h.0, h.3, ap (λ e. standing G e (own_name l r)) h.1 ∙ law_array b n m l r (standing G h.0) h.2 a)
  law k System m l r ρ go h a = inr (h.2, h.6, ap (λ e. standing G e (own_name l r)) h.3 ∙ unbound System m l r (standing G h.2 (own_name l r)) refl)
  law k (Call c v) m l r ρ go h a = inr (h.0, h.2, ap (λ e. standing G e (own_name l r)) h.1 ∙ law_call c v m l r (standing G h.0))

  -- the frame that a level stands by
  pub frame_at : (fs : List Frame) (k : ℕ) (f : Frame) (n : ℕ) (ρ : Env) → slice_get fs k ≡ Some f → Framed G rs fs (suc n) k ρ
      → Binds G rs k f.binding f.line ρ (λ σ. (f.outer < k) × Framed G rs fs n f.outer σ)
  frame_at fs k f n ρ e w = subst (λ (o : Option Frame). Link G rs o k ρ (Framed G rs fs n)) e w

  pub no_frame : (fs : List Frame) (k n : ℕ) (ρ : Env) → length fs ≤ k → Framed G rs fs n k ρ → ⊥
  no_frame fs k zero ρ h w = w
  no_frame fs k (suc n) ρ h w = subst (λ (o : Option Frame). Link G rs o k ρ (Framed G rs fs n)) (slice_get_past fs k h) w

  pub frames_law : (fs : List Frame) (k : ℕ) (f : Frame) (l : ℕ) (r : Role) (ρ : Env) → slice_get fs k ≡ Some f
      → FramesStand G rs fs k ρ → RoleRight G l r → Law k f.binding f.line l r ρ (λ σ. (f.outer < k) × FramesStand G rs fs f.outer σ)
  frames_law fs k f l r ρ e w a = go w.0 w.1
    where
      go : (n : ℕ) → Framed G rs fs n k ρ → Law k f.binding f.line l r ρ (λ σ. (f.outer < k) × FramesStand G rs fs f.outer σ)
      go zero v = absurd v
      go (suc n) v =
          ⊎_elim (λ p. inl p) (λ q. inr (q.0, (q.1.0, (n, q.1.1)), q.2))
          (law k f.binding f.line l r ρ (λ σ. (f.outer < k) × Framed G rs fs n f.outer σ) (frame_at fs k f n ρ e v) a)

  settled : (s : Stand) (x y : Standing) → or_else (Some s) x ≡ or_else (Some s) y
  settled (Cell c) x y = refl
  settled (Cells b n) x y = refl

  -- the three ends of a turn of the search
  module _ (fs : List Frame) (k : ℕ) (f : Frame) (d : Declaration) (ρ : Env) (x : ℕ) (h : slice_get fs k ≡ Some f) (w : FramesStand G rs fs k ρ) (t : Tells G d x) where
    abbrev At : Standing → Type 0
    At s = standing G ρ x ≡ s

    here : standing G ρ x ≡ standing G ρ (own_name d.line d.role)
    here = ap (standing G ρ) t.0

    pub found_here : (s : Stand) → bound f.binding f.line d.line d.role ≡ Some s → standing G ρ x ≡ or_else (Some s) (G x)
    found_here s e =
        here
        ∙ (⊎_elim (λ p. p.1 ∙ ap (λ o. or_else o (G (own_name d.line d.role))) e)
        (λ q. q.2 ∙ ap (λ o. or_else o (standing G q.0 (own_name d.line d.role))) e ∙ settled s (standing G q.0 (own_name d.line d.role)) (G (own_name d.line d.role)))
        (frames_law fs k f d.line d.role ρ h w t.1)
        ∙ ap (λ z. or_else (Some s) (G z)) (sym t.0))

    pub found_nowhere : bound f.binding f.line d.line d.role ≡ None → k ≤ f.outer → standing G ρ x ≡ G x
    found_nowhere e m =
        here
        ∙ (⊎_elim (λ p. p.1 ∙ ap (λ o. or_else o (G (own_name d.line d.role))) e)
        (λ q. absurd (omega (arith, q.1.0)))
        (frames_law fs k f d.line d.role ρ h w t.1)
        ∙ ap G (sym t.0))

    pub found_around : bound f.binding f.line d.line d.role ≡ None → f.outer < k
        → (σ : Env) × FramesStand G rs fs f.outer σ × (standing G ρ x ≡ standing G σ x)
    found_around e m =
        ⊎_elim (λ p. absurd (omega (arith, p.0)))
        (λ q. (q.0, q.1.1, here ∙ (q.2 ∙ ap (λ o. or_else o (standing G q.0 (own_name d.line d.role))) e) ∙ ap (standing G q.0) (sym t.0)))
        (frames_law fs k f d.line d.role ρ h w t.1)

  -- a global's name is bound by no level
  abbrev pub Free : Role → Type 0
  Free r = (b : Binding) → bound_as b r ≡ None

  pub free_simple : (a : ℕ) → Free (GlobalSimple a)
  free_simple a Script = refl
  free_simple a Sequel = refl
  free_simple a (Simple c) = refl
  free_simple a (Array b n) = refl
  free_simple a System = refl
  free_simple a (Call c v) = refl

  pub free_array : (a k : ℕ) → Free (GlobalArray a k)
  free_array a k Script = refl
  free_array a k Sequel = refl
  free_array a k (Simple c) = refl
  free_array a k (Array b n) = refl
  free_array a k System = refl
  free_array a k (Call c v) = refl

  linked : (o : Option Frame) (fs : List Frame) (n k l : ℕ) (r : Role) (ρ : Env) → Free r → RoleRight G l r
      → ((j : ℕ) (σ : Env) → Framed G rs fs n j σ → standing G σ (own_name l r) ≡ G (own_name l r))
      → Link G rs o k ρ (Framed G rs fs n) → standing G ρ (own_name l r) ≡ G (own_name l r)
  linked None fs n k l r ρ f a go w = absurd w
  linked (Some x) fs n k l r ρ f a go w =
      ⊎_elim (λ p. p.1 ∙ sym (unbound x.binding x.line l r (G (own_name l r)) (f x.binding)))
      (λ q. q.2 ∙ sym (unbound x.binding x.line l r (standing G q.0 (own_name l r)) (f x.binding)) ∙ go x.outer q.0 q.1.1)
      (law k x.binding x.line l r ρ (λ σ. (x.outer < k) × Framed G rs fs n x.outer σ) w a)

  pub global_stays : (fs : List Frame) (n k l : ℕ) (r : Role) (ρ : Env) → Free r → RoleRight G l r
      → Framed G rs fs n k ρ → standing G ρ (own_name l r) ≡ G (own_name l r)
  global_stays fs zero k l r ρ f a w = absurd w
  global_stays fs (suc n) k l r ρ f a w = linked (slice_get fs k) fs n k l r ρ f a (λ j σ v. global_stays fs n j l r σ f a v) w

  pub simple_global : (fs : List Frame) (k l : ℕ) (ρ : Env) (x c : ℕ) → FramesStand G rs fs k ρ → Tells G (record { line = l; role = GlobalSimple c }) x → standing G ρ x ≡ cell c
  simple_global fs k l ρ x c w t = ap (standing G ρ) t.0 ∙ global_stays fs w.0 k l (GlobalSimple c) ρ (free_simple c) t.1 w.1 ∙ t.1

  pub array_global : (fs : List Frame) (k l : ℕ) (ρ : Env) (x b n : ℕ) → FramesStand G rs fs k ρ → Tells G (record { line = l; role = GlobalArray b n }) x → standing G ρ x ≡ cells b n
  array_global fs k l ρ x b n w t = ap (standing G ρ) t.0 ∙ global_stays fs w.0 k l (GlobalArray b n) ρ (free_array b n) t.1 w.1 ∙ t.1
  -- a name that is no global's stands for nothing beyond the text
