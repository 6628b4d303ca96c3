-- Each sort of statement: what its code did is what the machine does.
use Rattle.std.proofs.Common.{◌≡◌, ℕ, zero, suc, ◌+◌, ◌<◌, ◌≤◌, ◌≢◌, Bool, true, false, cond, List, [], ◌∷◌, ◌++◌, length, get_or, set, Some, None, Option, Ok, Err, IfOk, sym, refl, ap, ◌∙◌, subst, ⊎_elim, add-one, add-zero, arith}
use Rattle.std.specs.List.{slice_get}
use Rattle.std.proofs.lemmas.Bool.{cases_lt}
use Rattle.std.proofs.lemmas.Option.{slice_get-get_or}
use Rattle.kinds.specs.Arithmetic.{Arithmetic}
use Rattle.lines.specs.declared.records.Line.{Line}
use Rattle.lines.specs.declared.records.Record.{Record}
use Rattle.script.specs.Names.{Names}
use Rattle.script.specs.Script.{Statement}
use Rattle.script.specs.Apart.{own}
use Rattle.standing.specs.Standing.{StandsStatement}
use Rattle.rule.specs.Work.{Work, gives}
use Rattle.rule.specs.Fine.{Fine}
use Rattle.rule.specs.Values.{value, cell_at, holds}
use Rattle.rule.specs.Rewriting.{cleared}
use Rattle.rule.specs.Handed.{handed, handed_room}
use Rattle.rule.specs.Machine.{Env, simple_in, array_in, system_in, Item, Moved, moves, refuses, tried, deeper, stored, move, standing, Found, unknown, closure, enters, procedure_at}
use Rattle.faults.specs.declared.fault.Fault.{Fault}
use Rattle.engine.specs.declared.frame.Binding.{Binding}
use Rattle.engine.specs.declared.frame.Binding.TheVariants.{Script, Sequel, Simple, Array, System, Call}
use Rattle.engine.specs.declared.frame.Frame.{Frame}
use Rattle.faults.specs.Faults.{number_of}
use Rattle.engine.specs.Proper.{kinds_at, Proper}
use Rattle.engine.specs.Frames.{Binds, Framed, FramesStand, Callable}
use Rattle.engine.specs.Levels.{binder, binder_by, blank, with_rest, At, Waiting}
use Rattle.engine.specs.Beginning.{Answer, answered, entered, with_used, pushed, Went}
use Rattle.engine.proofs.Naming.{FineFound}
use Rattle.engine.proofs.Finding.{frame_at, no_frame}
use Rattle.engine.proofs.Acting.{OfLine}
use Rattle.engine.proofs.Pushing.{bare, get_same, get_other, frames_kept, waiting_kept, link_in, waits, skips, here, pushed_low, pushed_here, pushed_top, pushed_bare}

module _ (K : Arithmetic) (size : ℕ) (G : Names) (rs : List Record) (fs : List Frame) (k j : ℕ) (p : Item) (qs : List Item) (σ : List ℕ)
    (at : At G rs fs (get_or fs k blank) k j p) (w : Waiting G rs fs k qs) where
  abbrev u : ℕ
  u = (get_or fs k blank).used

  abbrev moved_as : Statement → Moved
  moved_as s = move K size (handed K) handed_room G s p.level p.used p.env σ

  abbrev pub moved : Moved
  moved = moved_as p.text

  abbrev pub Line_of : Line → Type 0
  Line_of l = OfLine G rs (kinds_at G p.env) l p.text j

  deeper_at : (more : ℕ) (m : Moved) → deeper size j p.level p.used more σ m ≡ deeper size j k u more σ m
  deeper_at more m = λ i. deeper size j (at.level i) (at.used i) more σ m

  pub inside : k < length fs
  inside = ⊎_elim (λ (l : k < length fs). l) (λ (l : length fs ≤ k). absurd (no_frame G rs fs k at.env.0 p.env l at.env.1)) (cases_lt k (length fs))

  binder_env : (a : Binding) (l o n : ℕ) → Binds G rs k a l p.env (λ τ. (o < k) × Framed G rs fs n o τ) → Framed G rs fs (suc n) k p.env
      → (binder_by a o k ≤ k) × FramesStand G rs fs (binder_by a o k) p.env
  binder_env Script l o n w v = (omega arith, (suc n, v))
  binder_env Sequel l o n w v = (omega (arith, w.0), (n, w.1))
  binder_env (Simple c) l o n w v = (omega arith, (suc n, v))
  binder_env (Array c m) l o n w v = (omega arith, (suc n, v))
  binder_env System l o n w v = (omega arith, (suc n, v))
  binder_env (Call c m) l o n w v = (omega arith, (suc n, v))

  -- the innermost level that bound something stands for the environment too
  bound_from : (b : ℕ) → b ≡ binder (get_or fs k blank) k → (b ≤ k) × FramesStand G rs fs b p.env
  bound_from b e = subst (λ z. (z ≤ k) × FramesStand G rs fs z p.env) (sym e) (go at.env.0 at.env.1)
    where
      go : (n : ℕ) → Framed G rs fs n k p.env → (binder (get_or fs k blank) k ≤ k) × FramesStand G rs fs (binder (get_or fs k blank) k) p.env
      go zero v = absurd v
      go (suc n) v =
          let f : Frame = get_or fs k blank in
          binder_env f.binding f.line f.outer n (frame_at G rs fs k f n p.env (slice_get-get_or fs k blank inside) v) v

  abbrev Goes : ℕ → Answer → Type 0
  Goes more r = (l : ℕ) (τ : List ℕ) (m : Moved) → deeper size l k u more τ m ≡ entered r l τ m

  module _ (fs' : List Frame) (h' : ℕ) where
    abbrev Went' : Answer → List ℕ → Moved → Type 0
    Went' r σ' m = Went G rs fs' h' r σ' j qs m

    -- a value that is not worked
    failed : (M : Moved) (f : Fault) → M ≡ refuses (number_of f) j σ → Went' (Err f) σ M
    failed M f e = subst (Went' (Err f) σ) (sym e) (refl, refl, refl)

    -- a level that is not entered
    refused : (M m : Moved) (f : Fault) (r : Answer) (more : ℕ) → M ≡ deeper size j p.level p.used more σ m → Goes more r → r ≡ Err f → Went' (Err f) σ M
    refused M m f r more e d q = failed M f (e ∙ deeper_at more m ∙ d j σ m ∙ ap (λ x. entered x j σ m) q)

    stored_so : (b : Bool) (σ' τ : List ℕ) (ms : List Item) → σ' ≡ τ → Waiting G rs fs' h' (ms ++ qs) → Went' (answered b) σ' (stored b j ms τ)
    stored_so true σ' τ ms s v = (s, v)
    stored_so false σ' τ ms s v = (refl, refl, s)

    -- one that is
    enters_so : (M : Moved) (b : Bool) (ms : List Item) (σ' τ : List ℕ) (r₀ r : Answer) (more : ℕ) → M ≡ deeper size j p.level p.used more σ (stored b j ms τ) → Goes more r₀ → r₀ ≡ Ok tt
        → r ≡ answered b → σ' ≡ τ → Waiting G rs fs' h' (ms ++ qs) → Went' r σ' M
    enters_so M b ms σ' τ r₀ r more e d q a s v =
        let m : Moved = stored b j ms τ in
        subst (Went' r σ') (sym (e ∙ deeper_at more m ∙ d j σ m ∙ ap (λ x. entered x j σ m) q))
        (subst (λ x. Went' x σ' m) (sym a) (stored_so b σ' τ ms s v))

  -- the items of a new level: the one that is begun next, above what waits below it
  module _ (t : Option ℕ) (g : Frame) (h : k + 1 < length fs) where
    above : (a : ℕ) (q : Item) (ps : List Item) → g.rest ≡ Some a → q.level ≡ suc k → q.used ≡ g.used → StandsStatement G rs q.text a
        → FramesStand G rs (pushed fs k t g) (suc k) q.env → Fine (kinds_at G q.env) q.text → Proper G q.env → Waiting G rs (pushed fs k t g) (suc k) ps
        → Waiting G rs (pushed fs k t g) (k + 2) (q ∷ ps)
    above a q ps e l v s r f o z =
        let two : suc (suc k) ≡ k + 2 = omega arith in
        subst (λ (n : ℕ). Waiting G rs (pushed fs k t g) n (q ∷ ps)) two
        (waits G rs (pushed fs k t g) (suc k) a g q ps (pushed_top fs k t g h) e (record { level = l; used = v; text = s; env = r; fine = f; proper = o }) z)

    low : Waiting G rs (pushed fs k t g) k qs
    low = waiting_kept G rs fs (pushed fs k t g) k qs (pushed_low fs k t g h) w

    around : (ρ : Env) (m : ℕ) → m ≤ k → FramesStand G rs fs m ρ → FramesStand G rs (pushed fs k t g) m ρ
    around ρ m l v = frames_kept G rs fs (pushed fs k t g) m ρ (λ i q. pushed_bare fs k t g h i (omega arith)) v

  below_none : (g : Frame) (h : k + 1 < length fs) → Waiting G rs (pushed fs k None g) (suc k) qs
  below_none g h = skips G rs (pushed fs k None g) k (here fs k None g h) qs (pushed_here fs k None g h) refl (low None g h)

  below_some : (b : ℕ) (g : Frame) (h : k + 1 < length fs) (q : Item) → q.level ≡ k → q.used ≡ u → StandsStatement G rs q.text b
      → FramesStand G rs fs k q.env → Fine (kinds_at G q.env) q.text → Proper G q.env → Waiting G rs (pushed fs k (Some b) g) (suc k) (q ∷ qs)
  below_some b g h q l v s r f o =
      waits G rs (pushed fs k (Some b) g) k b (here fs k (Some b) g h) q qs (pushed_here fs k (Some b) g h) refl
      (record { level = l; used = v; text = s; env = around (Some b) g h q.env k (omega arith) r; fine = f; proper = o }) (low (Some b) g h)

  deep : p.level + 1 ≡ suc k
  deep = add-one p.level ∙ ap suc at.level

  -- the code's frames and height are those after a push
  abbrev Pushed : List Frame → ℕ → Option ℕ → Frame → Type 0
  Pushed fs' h' t g = (k + 1 < length fs) × (h' ≡ k + 2) × (fs' ≡ pushed fs k t g)

  onto : (fs' : List Frame) (h' : ℕ) (t : Option ℕ) (g : Frame) (ps : List Item) → Pushed fs' h' t g → Waiting G rs (pushed fs k t g) (k + 2) ps → Waiting G rs fs' h' ps
  onto fs' h' t g ps d v = subst (λ x. Waiting G rs x h' ps) (sym d.2) (subst (λ n. Waiting G rs (pushed fs k t g) n ps) (sym d.1) v)

  module _ (fs' : List Frame) (h' : ℕ) (σ' : List ℕ) (r₀ r : Answer) where
    abbrev Entered : ℕ → Option ℕ → Frame → Type 0
    Entered more t g = Goes more r₀ × (r₀ ≡ Ok tt) × Pushed fs' h' t (with_used g (u + more))

    abbrev Result_is : Type 0
    Result_is = Went G rs fs' h' r σ' j qs moved

    module _ (b : ℕ) (eb : b ≡ binder (get_or fs k blank) k) where
      pub sequence_law : (first second v : ℕ) → Line_of (Line.Sequence first second)
          → Entered 0 (Some second) (record { line = j; binding = Sequel; outer = b; used = v; rest = Some first }) → r ≡ Ok tt → σ' ≡ σ → Result_is
      sequence_law first second v o d q s =
          let g : Frame = record { line = j; binding = Sequel; outer = b; used = u + 0; rest = Some first } in
          let h = d.2.0 in
          let y = bound_from b eb in
          let one : Item = record { text = o.0; level = p.level + 1; used = p.used; env = p.env } in
          let two : Item = record { text = o.1; level = p.level; used = p.used; env = p.env } in
          let a = around (Some second) g h p.env b y.0 y.1 in
          enters_so fs' h' moved true (one ∷ (two ∷ [])) σ' σ r₀ r 0 (ap moved_as o.2) d.0 d.1 q s
          (onto fs' h' (Some second) g (one ∷ (two ∷ qs)) d.2
          (above (Some second) g h first one (two ∷ qs) refl deep (at.used ∙ sym (add-zero u)) o.3
          (link_in G rs (pushed fs k (Some second) g) a.0 (suc k) g p.env (pushed_top fs k (Some second) g h) (omega (arith, y.0), a.1)) o.4 at.proper
          (below_some second g h two at.level at.used o.5 at.env o.6 at.proper)))

      pub system_law : (head body v : ℕ) → Line_of (Line.System head body)
          → Entered 0 None (record { line = j; binding = System; outer = b; used = v; rest = Some body }) → r ≡ Ok tt → σ' ≡ σ → Result_is
      system_law head body v o d q s =
          let g : Frame = record { line = j; binding = System; outer = b; used = u + 0; rest = Some body } in
          let h = d.2.0 in
          let y = bound_from b eb in
          let one : Item = record { text = o.1; level = p.level + 1; used = p.used; env = system_in o.0 p.env } in
          let a = around None g h p.env b y.0 y.1 in
          enters_so fs' h' moved true (one ∷ []) σ' σ r₀ r 0 (ap moved_as o.2) d.0 d.1 q s
          (onto fs' h' None g (one ∷ qs) d.2
          (above None g h body one qs refl deep (at.used ∙ sym (add-zero u)) o.6
          (link_in G rs (pushed fs k None g) a.0 (suc k) g one.env (pushed_top fs k None g h) (o.0, head, p.env, refl, o.3, o.4, (omega (arith, y.0), a.1))) o.7 (o.5, at.proper)
          (below_none g h)))

      pub new_simple_law : (name body v x : ℕ) → Line_of (Line.NewSimple name body) → v ≡ u
          → Entered 1 None (record { line = j; binding = Simple v; outer = b; used = v; rest = Some body }) → r ≡ answered (handed_room σ (v + 1)) → x ≡ K.zero → σ' ≡ set σ v x → Result_is
      new_simple_law name body v x o e d q c s =
          let g : Frame = record { line = j; binding = Simple v; outer = b; used = u + 1; rest = Some body } in
          let h = d.2.0 in
          let y = bound_from b eb in
          let eq : v ≡ p.used = e ∙ sym at.used in
          let one : Item = record { text = o.0; level = p.level + 1; used = p.used + 1; env = simple_in (own j) p.used p.env } in
          let a = around None g h p.env b y.0 y.1 in
          enters_so fs' h' moved (handed_room σ (p.used + 1)) (one ∷ []) σ' (set σ p.used K.zero) r₀ r 1 (ap moved_as o.1) d.0 d.1
          (q ∙ ap (λ z. answered (handed_room σ (z + 1))) eq) (s ∙ (λ i. set σ (eq i) (c i)))
          (onto fs' h' None g (one ∷ qs) d.2
          (above None g h body one qs refl deep (ap (λ z. z + 1) at.used) o.3
          (link_in G rs (pushed fs k None g) a.0 (suc k) g one.env (pushed_top fs k None g h) (p.env, ap (λ z. simple_in (own j) z p.env) (sym eq), o.2, (omega (arith, y.0), a.1))) o.4 at.proper
          (below_none g h)))

      pub new_array_law : (name n body v x : ℕ) → Line_of (Line.NewArray name n body) → v ≡ u
          → Entered n None (record { line = j; binding = Array v n; outer = b; used = v; rest = Some body }) → r ≡ answered (handed_room σ (v + n)) → x ≡ K.zero → σ' ≡ cleared n v x σ → Result_is
      new_array_law name n body v x o e d q c s =
          let g : Frame = record { line = j; binding = Array v n; outer = b; used = u + n; rest = Some body } in
          let h = d.2.0 in
          let y = bound_from b eb in
          let eq : v ≡ p.used = e ∙ sym at.used in
          let one : Item = record { text = o.0; level = p.level + 1; used = p.used + n; env = array_in (own j) p.used n p.env } in
          let a = around None g h p.env b y.0 y.1 in
          enters_so fs' h' moved (handed_room σ (p.used + n)) (one ∷ []) σ' (cleared n p.used K.zero σ) r₀ r n (ap moved_as o.1) d.0 d.1
          (q ∙ ap (λ z. answered (handed_room σ (z + n))) eq) (s ∙ (λ i. cleared n (eq i) (c i) σ))
          (onto fs' h' None g (one ∷ qs) d.2
          (above None g h body one qs refl deep (ap (λ z. z + n) at.used) o.3
          (link_in G rs (pushed fs k None g) a.0 (suc k) g one.env (pushed_top fs k None g h) (p.env, ap (λ z. array_in (own j) z n p.env) (sym eq), o.2, (omega (arith, y.0), a.1))) o.4 at.proper
          (below_none g h)))

    pub invoke_law : (F : Found) (procedure body outer c v x : ℕ) → Callable G rs fs k procedure body (Some outer) F → FineFound G F → v ≡ u
        → Entered 1 None (record { line = procedure; binding = Call v c; outer = outer; used = v; rest = Some body }) → r ≡ answered (handed_room σ (v + 1)) → σ' ≡ set σ v x
        → Went G rs fs' h' r σ' j qs (enters K size (handed K) handed_room G F j p.level p.used σ x c)
    invoke_law unknown procedure body outer c v x b f e d q s = absurd b
    invoke_law (closure y z t ρ) procedure body outer c v x b f e d q s =
        let g : Frame = record { line = procedure; binding = Call v c; outer = outer; used = u + 1; rest = Some body } in
        let h = d.2.0 in
        let eq : v ≡ p.used = e ∙ sym at.used in
        let one : Item = record { text = t; level = p.level + 1; used = p.used + 1; env = simple_in z c (simple_in y p.used ρ) } in
        let m = stored (handed_room σ (p.used + 1)) j (one ∷ []) (set σ p.used x) in
        let a = around None g h ρ outer b.4 b.3 in
        enters_so fs' h' (deeper size j p.level p.used 1 σ m) (handed_room σ (p.used + 1)) (one ∷ []) σ' (set σ p.used x) r₀ r 1 refl d.0 d.1
        (q ∙ ap (λ y. answered (handed_room σ (y + 1))) eq) (s ∙ ap (λ y. set σ y x) eq)
        (onto fs' h' None g (one ∷ qs) d.2
        (above None g h body one qs refl deep (ap (λ y. y + 1) at.used) b.2
        (link_in G rs (pushed fs k None g) a.0 (suc k) g one.env (pushed_top fs k None g h)
        (ρ, (λ i. simple_in (b.1 i) c (simple_in (b.0 i) (sym eq i) ρ)), (omega (arith, b.4), a.1))) f.0 f.1
        (below_none g h)))

  -- the same where the level is not entered
  module _ (fs' : List Frame) (h' : ℕ) (r₀ : Answer) (f : Fault) where
    abbrev Fails : ℕ → Type 0
    Fails more = Goes more r₀ × (r₀ ≡ Err f)

    abbrev Fault_is : Type 0
    Fault_is = Went G rs fs' h' (Err f) σ j qs moved

    pub sequence_fault : (first second : ℕ) → Line_of (Line.Sequence first second) → Fails 0 → Fault_is
    sequence_fault first second o d =
        let one : Item = record { text = o.0; level = p.level + 1; used = p.used; env = p.env } in
        let two : Item = record { text = o.1; level = p.level; used = p.used; env = p.env } in
        refused fs' h' moved (moves (one ∷ (two ∷ [])) σ) f r₀ 0 (ap moved_as o.2) d.0 d.1

    pub system_fault : (head body : ℕ) → Line_of (Line.System head body) → Fails 0 → Fault_is
    system_fault head body o d =
        let one : Item = record { text = o.1; level = p.level + 1; used = p.used; env = system_in o.0 p.env } in
        refused fs' h' moved (moves (one ∷ []) σ) f r₀ 0 (ap moved_as o.2) d.0 d.1

    pub invoke_fault : (F : Found) (procedure body outer c x : ℕ) → Callable G rs fs k procedure body (Some outer) F → Fails 1
        → Went G rs fs' h' (Err f) σ j qs (enters K size (handed K) handed_room G F j p.level p.used σ x c)
    invoke_fault unknown procedure body outer c x b d = absurd b
    invoke_fault (closure y z t ρ) procedure body outer c x b d =
        let one : Item = record { text = t; level = p.level + 1; used = p.used + 1; env = simple_in z c (simple_in y p.used ρ) } in
        let m = stored (handed_room σ (p.used + 1)) j (one ∷ []) (set σ p.used x) in
        refused fs' h' (deeper size j p.level p.used 1 σ m) m f r₀ 1 refl d.0 d.1

  pub invoke_never : (F : Found) (procedure body : ℕ) → Callable G rs fs k procedure body None F → FineFound G F → ⊥
  invoke_never unknown procedure body b f = f
  invoke_never (closure x y t ρ) procedure body b f = b

  module _ (fs' : List Frame) (h' : ℕ) where
    abbrev work_of : Work ℕ → Work ℕ → Moved
    work_of x y = tried j σ x (λ v. tried j σ y (λ c. stored (handed_room σ (c + 1)) j [] (set σ c v)))

    -- an assignment of the word v to the cell c, as they were worked
    pub assign_law : (σ' : List ℕ) (r : Answer) (to from v c : ℕ) (o : Line_of (Line.Assignment to from))
        → gives v ≡ value K (standing G p.env) (handed K σ) o.1 → gives c ≡ cell_at K (standing G p.env) (handed K σ) o.0
        → r ≡ answered (handed_room σ (c + 1)) → σ' ≡ set σ c v → Waiting G rs fs' h' qs → Went G rs fs' h' r σ' j qs moved
    assign_law σ' r to from v c o e f q s z =
        subst (Went G rs fs' h' r σ' j qs) ((λ i. work_of (e i) (f i)) ∙ ap moved_as (sym o.2))
        (subst (λ x. Went G rs fs' h' x σ' j qs (work_of (gives v) (gives c))) (sym q) (stored_so fs' h' (handed_room σ (c + 1)) σ' (set σ c v) [] s z))

    abbrev call_of : ℕ → Work ℕ → Work ℕ → Moved
    call_of q x y = tried j σ x (λ v. tried j σ y (λ c. enters K size (handed K) handed_room G (procedure_at p.env (own q)) j p.level p.used σ v c))

    pub call_law : (σ' : List ℕ) (r : Answer) (name from to q : ℕ) (x y : Work ℕ) (o : Line_of (Line.Call name from to)) → q ≡ (o.0).line
        → x ≡ value K (standing G p.env) (handed K σ) o.1 → y ≡ cell_at K (standing G p.env) (handed K σ) o.2
        → Went G rs fs' h' r σ' j qs (call_of q x y) → Went G rs fs' h' r σ' j qs moved
    call_law σ' r name from to q x y o l e f v = subst (Went G rs fs' h' r σ' j qs) ((λ i. call_of (l i) (e i) (f i)) ∙ ap moved_as (sym o.3)) v

    abbrev branch_of : Statement → Statement → Work Bool → Moved
    branch_of a b x = tried j σ x (λ t. moves (record { text = elim t [ true ↦ a | false ↦ b ]; level = p.level; used = p.used; env = p.env } ∷ []) σ)

    -- a statement that the level itself is to begin next
    stay_law : (t : ℕ) (q : Item) → h' ≡ k + 1 → fs' ≡ set fs k (with_rest (get_or fs k blank) (Some t)) → q.level ≡ k → q.used ≡ u
        → StandsStatement G rs q.text t → FramesStand G rs fs k q.env → Fine (kinds_at G q.env) q.text → Proper G q.env → Waiting G rs fs' h' (q ∷ qs)
    stay_law t q d f l v s r n o =
        let g : Frame = with_rest (get_or fs k blank) (Some t) in
        let under : (i : ℕ) → i < k → slice_get fs i ≡ slice_get (set fs k g) i = (λ i h. let n : i ≢ k = (λ e. omega arith) in sym (get_other fs k i g n)) in
        let same : (i : ℕ) → i ≤ k → bare (slice_get fs i) ≡ bare (slice_get (set fs k g) i) =
        (λ i h. ⊎_elim (λ (z : i < k). ap bare (under i z))
        (λ (z : k ≤ i). let e : i ≡ k = omega arith in rw e (ap bare (slice_get-get_or fs k blank inside) ∙ ap bare (sym (get_same fs k g inside)))) (cases_lt i k)) in
        let one : suc k ≡ h' = omega (arith, d) in
        subst (λ x. Waiting G rs x h' (q ∷ qs)) (sym f) (subst (λ (n : ℕ). Waiting G rs (set fs k g) n (q ∷ qs)) one
        (waits G rs (set fs k g) k t g q qs (get_same fs k g inside) refl
        (record { level = l; used = v; text = s; env = frames_kept G rs fs (set fs k g) k q.env same r; fine = n; proper = o })
        (waiting_kept G rs fs (set fs k g) k qs under w)))

    -- the part that is chosen stands at the line that is chosen
    taken : (t : Bool) (a b : Statement) (m n : ℕ) → StandsStatement G rs a m → StandsStatement G rs b n → StandsStatement G rs (elim t [ true ↦ a | false ↦ b ]) (cond t m n)
    taken true a b m n x y = x
    taken false a b m n x y = y

    taken_fine : (t : Bool) (a b : Statement) → Fine (kinds_at G p.env) a → Fine (kinds_at G p.env) b → Fine (kinds_at G p.env) (elim t [ true ↦ a | false ↦ b ])
    taken_fine true a b x y = x
    taken_fine false a b x y = y

    pub branch_law : (test chosen other n : ℕ) (t : Bool) (o : Line_of (Line.Branch test chosen other))
        → gives t ≡ holds K (standing G p.env) (handed K σ) o.0 → n ≡ cond t chosen other → h' ≡ k + 1 → fs' ≡ set fs k (with_rest (get_or fs k blank) (Some n))
        → Went G rs fs' h' (Ok tt) σ j qs moved
    branch_law test chosen other n t o e c d f =
        let one : Item = record { text = elim t [ true ↦ o.1 | false ↦ o.2 ]; level = p.level; used = p.used; env = p.env } in
        subst (Went G rs fs' h' (Ok tt) σ j qs) (sym (ap moved_as o.3 ∙ ap (branch_of o.1 o.2) (sym e))) (
          refl,
          stay_law (cond t chosen other) one d (f ∙ ap (λ z. set fs k (with_rest (get_or fs k blank) (Some z))) c) at.level at.used (taken t o.1 o.2 chosen other o.7 o.9) at.env
              (taken_fine t o.1 o.2 o.8 o.10) at.proper,
        )

    -- a level that the code enters or does not
    pub sequence_went : (b : ℕ) → b ≡ binder (get_or fs k blank) k → (r : Answer) (first second v : ℕ) → Line_of (Line.Sequence first second) → Goes 0 r
        → IfOk r (λ x. Pushed fs' h' (Some second) (with_used (record { line = j; binding = Sequel; outer = b; used = v; rest = Some first }) (u + 0)))
        → Went G rs fs' h' r σ j qs moved
    sequence_went b eb (Ok x) first second v o d f = sequence_law fs' h' σ (Ok x) (Ok x) b eb first second v o (d, refl, f) refl refl
    sequence_went b eb (Err e) first second v o d f = sequence_fault fs' h' (Err e) e first second o (d, refl)

    pub system_went : (b : ℕ) → b ≡ binder (get_or fs k blank) k → (r : Answer) (head body v : ℕ) → Line_of (Line.System head body) → Goes 0 r
        → IfOk r (λ x. Pushed fs' h' None (with_used (record { line = j; binding = System; outer = b; used = v; rest = Some body }) (u + 0)))
        → Went G rs fs' h' r σ j qs moved
    system_went b eb (Ok x) head body v o d f = system_law fs' h' σ (Ok x) (Ok x) b eb head body v o (d, refl, f) refl refl
    system_went b eb (Err e) head body v o d f = system_fault fs' h' (Err e) e head body o (d, refl)
