-- What a name is at a place of the text, what it stands for there is.
use Rattle.std.proofs.Common.{◌≡◌, ℕ, true, false, eqb, sym, refl, ap, ◌∙◌, subst, ⊎_elim, arith}
use Rattle.std.proofs.lemmas.Bool.{cases_Bool}
use Rattle.script.specs.Script.{Declarations, procedure, joined, only}
use Rattle.script.specs.Names.{Names, Standing, nothing, cell, cells, code}
use Rattle.rule.specs.Fine.{Kind, unused, a_simple, an_array, a_procedure, beyond, Kinds, with_procedures, with_formals, start_kind, Fine, FineDeclarations}
use Rattle.rule.specs.Machine.{Env, outside, simple_in, array_in, system_in, standing, Found, unknown, closure, among, procedure_at}
use Rattle.engine.specs.Proper.{kinds_at, Proper}

abbrev rank : Kind → ℕ
rank unused = 0
rank a_simple = 1
rank an_array = 2
rank a_procedure = 3
rank beyond = 4

unlike : {A : Type 0} (j k : Kind) → (rank j ≡ rank k → ⊥) → j ≡ k → A
unlike j k n e = absurd (n (ap rank e))

module _ {A : Type 0} where
  only_here : (x y : ℕ) (a : A) (f : ℕ → A) → eqb x y ≡ true → only x a f y ≡ a
  only_here x y a f e = rw (only, e) refl

  only_there : (x y : ℕ) (a : A) (f : ℕ → A) → eqb x y ≡ false → only x a f y ≡ f y
  only_there x y a f e = rw (only, e) refl

  -- a value that is not a
  beside : (x y : ℕ) (a b : A) (f : ℕ → A) → (a ≡ b → ⊥) → only x a f y ≡ b → eqb x y ≡ false
  beside x y a b f n h = ⊎_elim (λ t. absurd (n (sym (only_here x y a f t) ∙ h))) (λ t. t) (cases_Bool (eqb x y))

-- the procedures of a system are no variables and no arrays
skips : (d : Declarations) (κ : Kinds) (x : ℕ) (k : Kind) → (a_procedure ≡ k → ⊥) → with_procedures d κ x ≡ k → κ x ≡ k
skips (procedure l q y z s) κ x k n h = sym (only_there q x a_procedure κ (beside q x a_procedure k κ n h)) ∙ h
skips (joined d e) κ x k n h = skips d κ x k n (skips e (with_procedures d κ) x k n h)

abbrev CellThere : Standing → Type 0
CellThere s = (c : ℕ) × (s ≡ cell c)

abbrev CellsThere : Standing → Type 0
CellsThere s = (b : ℕ) × (n : ℕ) × (s ≡ cells b n)

module _ (G : Names) where
  start_cell : (s : Standing) → start_kind s ≡ a_simple → CellThere s
  start_cell nothing h = unlike unused a_simple (λ e. omega arith) h
  start_cell (cell c) h = (c, refl)
  start_cell (cells b n) h = unlike an_array a_simple (λ e. omega arith) h
  start_cell (code x y s) h = unlike unused a_simple (λ e. omega arith) h

  start_cells : (s : Standing) → start_kind s ≡ an_array → CellsThere s
  start_cells nothing h = unlike unused an_array (λ e. omega arith) h
  start_cells (cell c) h = unlike a_simple an_array (λ e. omega arith) h
  start_cells (cells b n) h = (b, n, refl)
  start_cells (code x y s) h = unlike unused an_array (λ e. omega arith) h

  no_start : {A : Type 0} (s : Standing) → start_kind s ≡ a_procedure → A
  no_start nothing h = unlike unused a_procedure (λ e. omega arith) h
  no_start (cell c) h = unlike a_simple a_procedure (λ e. omega arith) h
  no_start (cells b n) h = unlike an_array a_procedure (λ e. omega arith) h
  no_start (code x y s) h = unlike unused a_procedure (λ e. omega arith) h

  pub cell_there : (ρ : Env) (x : ℕ) → kinds_at G ρ x ≡ a_simple → CellThere (standing G ρ x)
  cell_there outside x h = start_cell (G x) h
  cell_there (simple_in y c ρ) x h =
      ⊎_elim (λ t. (c, only_here y x (cell c) (standing G ρ) t))
      (λ f. let r = cell_there ρ x (sym (only_there y x a_simple (kinds_at G ρ) f) ∙ h) in (r.0, only_there y x (cell c) (standing G ρ) f ∙ r.1))
      (cases_Bool (eqb y x))
  cell_there (array_in y b n ρ) x h =
      let f = beside y x an_array a_simple (kinds_at G ρ) (unlike an_array a_simple (λ e. omega arith)) h in
      let r = cell_there ρ x (sym (only_there y x an_array (kinds_at G ρ) f) ∙ h) in
      (r.0, only_there y x (cells b n) (standing G ρ) f ∙ r.1)
  cell_there (system_in d ρ) x h = cell_there ρ x (skips d (kinds_at G ρ) x a_simple (unlike a_procedure a_simple (λ e. omega arith)) h)

  pub cells_there : (ρ : Env) (x : ℕ) → kinds_at G ρ x ≡ an_array → CellsThere (standing G ρ x)
  cells_there outside x h = start_cells (G x) h
  cells_there (simple_in y c ρ) x h =
      let f = beside y x a_simple an_array (kinds_at G ρ) (unlike a_simple an_array (λ e. omega arith)) h in
      let r = cells_there ρ x (sym (only_there y x a_simple (kinds_at G ρ) f) ∙ h) in
      (r.0, r.1, only_there y x (cell c) (standing G ρ) f ∙ r.2)
  cells_there (array_in y b n ρ) x h =
      ⊎_elim (λ t. (b, n, only_here y x (cells b n) (standing G ρ) t))
      (λ f. let r = cells_there ρ x (sym (only_there y x an_array (kinds_at G ρ) f) ∙ h) in (r.0, r.1, only_there y x (cells b n) (standing G ρ) f ∙ r.2))
      (cases_Bool (eqb y x))
  cells_there (system_in d ρ) x h = cells_there ρ x (skips d (kinds_at G ρ) x an_array (unlike a_procedure an_array (λ e. omega arith)) h)

  -- a procedure whose body has its names in order
  abbrev pub FineFound : Found → Type 0
  FineFound unknown = ⊥
  FineFound (closure x y s ρ) = Fine (with_formals x y (kinds_at G ρ)) s × Proper G ρ

  among_there : (d : Declarations) (σ : Env) (g : ℕ → Found) (κ : Kinds) (q : ℕ) → FineDeclarations (kinds_at G σ) d → Proper G σ
      → (κ q ≡ a_procedure → FineFound (g q)) → with_procedures d κ q ≡ a_procedure → FineFound (among d σ g q)
  among_there (procedure l p x y s) σ g κ q f w go h =
      ⊎_elim (λ t. subst FineFound (sym (only_here p q (closure x y s σ) g t)) (f.2, w))
      (λ n. subst FineFound (sym (only_there p q (closure x y s σ) g n)) (go (sym (only_there p q a_procedure κ n) ∙ h)))
      (cases_Bool (eqb p q))
  among_there (joined d e) σ g κ q f w go h =
      among_there e σ (among d σ g) (with_procedures d κ) q f.1 w (among_there d σ g κ q f.0 w go) h

  pub procedure_there : (ρ : Env) (q : ℕ) → Proper G ρ → kinds_at G ρ q ≡ a_procedure → FineFound (procedure_at ρ q)
  procedure_there outside q w h = no_start (G q) h
  procedure_there (simple_in y c ρ) q w h =
      procedure_there ρ q w (sym (only_there y q a_simple (kinds_at G ρ) (beside y q a_simple a_procedure (kinds_at G ρ) (unlike a_simple a_procedure (λ e. omega arith)) h)) ∙ h)
  procedure_there (array_in y b n ρ) q w h =
      procedure_there ρ q w (sym (only_there y q an_array (kinds_at G ρ) (beside y q an_array a_procedure (kinds_at G ρ) (unlike an_array a_procedure (λ e. omega arith)) h)) ∙ h)
  procedure_there (system_in d ρ) q w h =
      among_there d (system_in d ρ) (procedure_at ρ) (kinds_at G ρ) q w.0 w (procedure_there ρ q w.1) h
