-- What a procedure's name stands for, by the levels.
use Rattle.std.proofs.Common.{◌≡◌, ℕ, zero, suc, ◌<◌, ◌≤◌, Bool, true, false, ◌||◌, eqb, ◌⊎◌, List, Some, None, Option, sym, refl, ap, ◌∙◌, subst, inl, inr, ⊎_elim, eq-eqb, ne_eqb, eqb-true, arith}
use Rattle.std.specs.List.{slice_get}
use Rattle.std.proofs.lemmas.Bool.{cases_eq, cases_Bool, or_parts, both_ways}
use Rattle.lines.specs.declared.records.Record.{Record}
use Rattle.lines.specs.declared.records.Line.{Line}
use Rattle.lines.specs.declared.records.Declaration.{Declaration}
use Rattle.script.specs.Script.{Statement, Declarations, procedure, joined, only}
use Rattle.script.specs.Names.{Names}
use Rattle.script.specs.Apart.{own, own_value, own_variable}
use Rattle.standing.specs.Standing.{declares, ProcedureOf, StandsStatement, StandsDeclarations}
use Rattle.rule.specs.Machine.{Env, system_in, Found, unknown, closure, among, procedure_at}
use Rattle.engine.specs.declared.frame.Binding.{Binding}
use Rattle.engine.specs.declared.frame.Binding.TheVariants.{Script, Sequel, Simple, Array, System, Call}
use Rattle.engine.specs.declared.frame.Frame.{Frame}
use Rattle.engine.specs.Frames.{Binds, Framed, FramesStand, is_system, Callable}
use Rattle.engine.proofs.Finding.{frame_at}

among_miss : (d : Declarations) (ρ : Env) (g : ℕ → Found) (q : ℕ) → declares d q ≡ false → among d ρ g q ≡ g q
among_miss (procedure m p x y s) ρ g q h = rw (only, h) refl
among_miss (joined d e) ρ g q h =
    let o = or_parts (declares d q) (declares e q) h in
    among_miss e ρ (among d ρ g) q o.1 ∙ among_miss d ρ g q o.0

or_left : (a b : Bool) → a || b ≡ true → b ≡ false → a ≡ true
or_left true b h f = refl
or_left false b h f = absurd (both_ways b f h)

abbrev line_of : Option Declaration → ℕ
line_of None = 0
line_of (Some d) = d.line

module _ (G : Names) (rs : List Record) where
  -- a declared procedure
  pub record Closed (s p : ℕ) (ρ : Env) (f : Found) : Type 0 where
    pub body : ℕ
    pub text : Statement
    pub said : ProcedureOf rs p s body
    pub found : f ≡ closure (own_value p) (own_variable p) text ρ
    pub stands : StandsStatement G rs text body

  among_hit : (d : Declarations) (j s p : ℕ) (ρ : Env) (g : ℕ → Found) → StandsDeclarations G rs d j s → declares d (own p) ≡ true
      → Closed s p ρ (among d ρ g (own p))
  among_hit (procedure m q x y b) j s p ρ g w h =
      let e : q ≡ own p = eqb-true q (own p) h in
      let k : j ≡ p = omega (arith, w.3, e) in
      record {
        body = w.0;
        text = b;
        said = subst (λ z. ProcedureOf rs z s w.0) k w.1;
        found = rw (only, h) (λ i. closure ((w.4 ∙ ap own_value k) i) ((w.5 ∙ ap own_variable k) i) b ρ);
        stands = w.7;
      }
  among_hit (joined d e) j s p ρ g w h =
      ⊎_elim (λ (y : declares e (own p) ≡ true). among_hit e w.1 s p ρ (among d ρ g) w.6 y)
      (λ (n : declares e (own p) ≡ false).
      let c = among_hit d w.0 s p ρ g w.4 (or_left (declares d (own p)) (declares e (own p)) h n) in
      record { body = c.body; text = c.text; said = c.said; found = among_miss e ρ (among d ρ g) (own p) n ∙ c.found; stands = c.stands })
      (cases_Bool (declares e (own p)))

  same_home : (p s t b c : ℕ) → ProcedureOf rs p s b → ProcedureOf rs p t c → s ≡ t
  same_home p s t b c w v = ap line_of (sym w.4 ∙ v.4)

  same_body : (p s t b c : ℕ) → ProcedureOf rs p s b → ProcedureOf rs p t c → b ≡ c
  same_body p s t b c w v =
      let e : Some (Line.Procedure w.0 w.1 w.2 b) ≡ Some (Line.Procedure v.0 v.1 v.2 c) = sym w.3 ∙ v.3 in cc

  -- one level: the name stands for nothing, for what the level says, or for what it does around it
  abbrev pub Turn : Bool → ℕ → ℕ → ℕ → Env → (Env → Type 0) → Type 0
  Turn true k p y ρ go = (text : Statement) × (procedure_at ρ (own p) ≡ closure (own_value p) (own_variable p) text ρ) × StandsStatement G rs text y
  Turn false k p y ρ go = ((k ≡ 0) × (procedure_at ρ (own p) ≡ unknown)) ⊎ ((σ : Env) × go σ × (procedure_at ρ (own p) ≡ procedure_at σ (own p)))

  abbrev pub Law : ℕ → Binding → ℕ → ℕ → ℕ → ℕ → Env → (Env → Type 0) → Type 0
  Law k b m h p y ρ go = Turn (is_system b (eqb m h)) k p y ρ go

  law_system : (k m h p y : ℕ) (ρ : Env) (go : Env → Type 0) → ProcedureOf rs p h y → Binds G rs k System m ρ go → Law k System m h p y ρ go
  law_system k m h p y ρ go r w =
      ⊎_elim
      (λ (e : m ≡ h).
      let o : declares w.0 (own p) ≡ true = w.5 p y (subst (λ z. ProcedureOf rs p z y) (sym e) r) in
      let c = among_hit w.0 w.1 m p (system_in w.0 w.2) (procedure_at w.2) w.4 o in
      rw (eq-eqb m h e) (
        c.text,
        ap (λ z. procedure_at z (own p)) w.3 ∙ c.found ∙ ap (closure (own_value p) (own_variable p) c.text) (sym w.3),
        subst (λ (z : ℕ). StandsStatement G rs c.text z) (same_body p m h c.body y c.said r) c.stands,
      ))
      (λ (n : m ≡ h → ⊥).
      let o : declares w.0 (own p) ≡ false =
      ⊎_elim (λ t. let c = among_hit w.0 w.1 m p ρ (procedure_at w.2) w.4 t in absurd (n (same_home p m h c.body y c.said r))) (λ t. t) (cases_Bool (declares w.0 (own p))) in
      rw (ne_eqb m h n)
      (inr (w.2, w.6, ap (λ z. procedure_at z (own p)) w.3 ∙ among_miss w.0 (system_in w.0 w.2) (procedure_at w.2) (own p) o)))
      (cases_eq m h)

  law : (b : Binding) (k m h p y : ℕ) (ρ : Env) (go : Env → Type 0) → ProcedureOf rs p h y → Binds G rs k b m ρ go → Law k b m h p y ρ go
  law Script k m h p y ρ go r w = inl (w.0, ap (λ z. procedure_at z (own p)) w.1)
  law Sequel k m h p y ρ go r w = inr (ρ, w, refl)
  law (Simple c) k m h p y ρ go r w = inr (w.0, w.3, ap (λ z. procedure_at z (own p)) w.1)
  law (Array b n) k m h p y ρ go r w = inr (w.0, w.3, ap (λ z. procedure_at z (own p)) w.1)
  law System k m h p y ρ go r w = law_system k m h p y ρ go r w
  law (Call c v) k m h p y ρ go r w = inr (w.0, w.2, ap (λ z. procedure_at z (own p)) w.1)

  -- the three ends of a turn of the search
  module _ (fs : List Frame) (k : ℕ) (f : Frame) (h p y : ℕ) (ρ : Env) (l : slice_get fs k ≡ Some f) (r : ProcedureOf rs p h y) where
    at_frame : (n : ℕ) → Framed G rs fs (suc n) k ρ → Law k f.binding f.line h p y ρ (λ σ. (f.outer < k) × Framed G rs fs n f.outer σ)
    at_frame n w = law f.binding k f.line h p y ρ (λ σ. (f.outer < k) × Framed G rs fs n f.outer σ) r (frame_at G rs fs k f n ρ l w)

    pub called_here : (n m : ℕ) → k ≤ m → is_system f.binding (eqb f.line h) ≡ true → Framed G rs fs n k ρ
        → Callable G rs fs m p y (Some k) (procedure_at ρ (own p))
    called_here zero m g e w = absurd w
    called_here (suc n) m g e w =
        let a = rw e at (at_frame n w) in
        rw a.1 (refl, refl, a.2, (suc n, w), g)

    pub called_nowhere : (n t : ℕ) → is_system f.binding (eqb f.line h) ≡ false → k ≤ f.outer → Framed G rs fs n k ρ
        → Callable G rs fs t p y None (procedure_at ρ (own p))
    called_nowhere zero t e m w = absurd w
    called_nowhere (suc n) t e m w =
        ⊎_elim (λ q. rw q.1 tt) (λ q. absurd (omega (arith, q.1.0))) (rw e at (at_frame n w))

    pub called_around : (n : ℕ) → is_system f.binding (eqb f.line h) ≡ false → f.outer < k → Framed G rs fs n k ρ
        → (σ : Env) × FramesStand G rs fs f.outer σ × (procedure_at ρ (own p) ≡ procedure_at σ (own p))
    called_around zero e m w = absurd w
    called_around (suc n) e m w =
        ⊎_elim (λ q. absurd (omega (arith, q.0))) (λ q. (q.0, (n, q.1.1), q.2)) (rw e at (at_frame n w))
