-- That records were accepted may be known as a fact with no proof at hand (∥ .. ∥₁). A proof is then found again: whether the lines are a script
-- is decided by the tests, and what a record tells has one value that it can have.
use Rattle.std.proofs.Common.{◌≡◌, ℕ, ◌≤◌, List, [], ◌∷◌, length, ℤ, Some, None, Option, ◌⊎◌, refl, sym, ap, ap₂, ◌∙◌, subst, inl, inr, arith}
use Rattle.std.proofs.Math.Logic.{∥∥₁_elim, ∥∥₁_map}
use Rattle.std.proofs.Math.Bridge.{le_prop}
use Rattle.std.proofs.lemmas.Bool.{cases_eq}
use mathlib.Core.HLevel.{⊥_prop}
use Rattle.lines.specs.declared.records.Line.{Line}
use Rattle.lines.specs.declared.records.Record.{Record}
use Rattle.lines.specs.declared.records.Role.{Role}
use Rattle.lines.specs.declared.records.Role.TheVariants.{Declared, ValueFormal, VariableFormal, GlobalSimple, GlobalArray}
use Rattle.lines.specs.declared.records.Declaration.{Declaration}
use Rattle.script.specs.Names.{Names, Standing, nothing, code, cell, cells}
use Rattle.script.specs.Tree.{line, part}
use Rattle.script.specs.Lists.{Any}
use Rattle.script.specs.Apart.{Scope, found, globals_of, own, own_value, own_variable}
use Rattle.script.specs.Around.{Naming, naming, procedures_of, scope_at, silent, uses_simple, uses_array, uses_procedure, opens_simple, opens_array, opens_system, opens_body, joins}
use Rattle.script.specs.IsScript.{IsScript}
use Rattle.script.proofs.Verdict.{one_verdict}
use Rattle.standing.specs.Records.{Belongs, RoleRight, SystemOf, Tells, Told, declaration_in, own_name, record_at}
use Rattle.acceptance.specs.Sheet.{lines_of}
use Rattle.acceptance.specs.Scripts.{Accepted}

-- ## Facts that are found again

impossible : {A P : Type 0} → ∥ P ∥₁ → (P → ⊥) → A
impossible t n = absurd (∥∥₁_elim t ⊥_prop n)

decided : {P : Type 0} → P ⊎ (P → ⊥) → ∥ P ∥₁ → P
decided (inl p) t = p
decided (inr n) t = impossible t n

same_number : (a b : ℕ) → ∥ a ≡ b ∥₁ → a ≡ b
same_number a b = decided (cases_eq a b)

listed_or_not : (n : ℕ) (rs : List (ℕ × ℕ)) → Any (λ r. r.0 ≡ n) rs ⊎ (Any (λ r. r.0 ≡ n) rs → ⊥)
listed_or_not n [] = inr (λ h. h)
listed_or_not n (r ∷ rs) = go (cases_eq r.0 n) (listed_or_not n rs)
  where
    go : (r.0 ≡ n) ⊎ (r.0 ≡ n → ⊥) → Any (λ r. r.0 ≡ n) rs ⊎ (Any (λ r. r.0 ≡ n) rs → ⊥)
        → Any (λ r. r.0 ≡ n) (r ∷ rs) ⊎ (Any (λ r. r.0 ≡ n) (r ∷ rs) → ⊥)
    go (inl e) k = inl (inl e)
    go (inr e) (inl k) = inl (inr k)
    go (inr e) (inr k) = inr (λ h. elim h [ inl x ↦ e x | inr x ↦ k x ])

-- ## What a name stands for

zero_one : ◌≡◌ {A = ℕ} 0 1 → ⊥
zero_one e = omega arith

no_standing : (s : Standing) → ∥ s ≡ nothing ∥₁ → s ≡ nothing
no_standing nothing t = refl
no_standing (cell c) t = impossible t (λ e. zero_one cc)
no_standing (cells b n) t = impossible t (λ e. zero_one cc)
no_standing (code x y s) t = impossible t (λ e. zero_one cc)

one_cell : (s : Standing) (c : ℕ) → ∥ s ≡ cell c ∥₁ → s ≡ cell c
one_cell nothing c t = impossible t (λ e. zero_one cc)
one_cell (cell d) c t = ap cell (same_number d c (∥∥₁_map t (λ e. cc)))
one_cell (cells b n) c t = impossible t (λ e. zero_one cc)
one_cell (code x y s) c t = impossible t (λ e. zero_one cc)

some_cells : (s : Standing) (c m : ℕ) → ∥ s ≡ cells c m ∥₁ → s ≡ cells c m
some_cells nothing c m t = impossible t (λ e. zero_one cc)
some_cells (cell d) c m t = impossible t (λ e. zero_one cc)
some_cells (cells b n) c m t = ap₂ cells (same_number b c (∥∥₁_map t (λ e. cc))) (same_number n m (∥∥₁_map t (λ e. cc)))
some_cells (code x y s) c m t = impossible t (λ e. zero_one cc)

right_role : (G : Names) (l : ℕ) (r : Role) → ∥ RoleRight G l r ∥₁ → RoleRight G l r
right_role G l Declared t = no_standing (G (own l)) t
right_role G l ValueFormal t = no_standing (G (own_value l)) t
right_role G l VariableFormal t = no_standing (G (own_variable l)) t
right_role G l (GlobalSimple c) t = one_cell (G (own l)) c t
right_role G l (GlobalArray b n) t = some_cells (G (own l)) b n t

-- ## What a record tells

some_same : (d e : Declaration) → ◌≡◌ {A = Option Declaration} (Some d) (Some e) → d ≡ e
some_same d e h = cc

none_told : (o : Option Declaration) → ∥ o ≡ None ∥₁ → o ≡ None
none_told None t = refl
none_told (Some d) t = impossible t (λ e. zero_one cc)

system_same : (a b c d : ℕ) → ◌≡◌ {A = Line} (Line.System a b) (Line.System c d) → c ≡ a
system_same a b c d e = cc

module _ (ls : List Line) where
  abbrev G : Names
  G = (globals_of ls).names

  told_of : (d : Declaration) (x : ℕ) → Told ls (Some d) x → Tells G d x
  told_of d x w = subst (λ e. Tells G e x) (sym (some_same d w.0 w.1)) w.2

  one_told : (o : Option Declaration) (x : ℕ) → ∥ Told ls o x ∥₁ → Told ls o x
  one_told None x t = impossible t (λ w. let e : ◌≡◌ {A = Option Declaration} None (Some w.0) = w.1 in zero_one cc)
  one_told (Some d) x t = (
    d,
    refl,
    (
      same_number x (own_name d.line d.role) (∥∥₁_map t (λ w. (told_of d x w).0)),
      right_role G d.line d.role (∥∥₁_map t (λ w. (told_of d x w).1)),
    ),
  )

  module _ (s n : ℕ) where
    abbrev ListedBy : ℕ → Type 0
    ListedBy a = Any (λ r. r.0 ≡ n) (procedures_of (part (line ls) a))

    no_system : (l : Line) → line ls s ≡ l → ((a b : ℕ) → l ≡ Line.System a b → ⊥) → ∥ SystemOf ls s n ∥₁ → SystemOf ls s n
    no_system l e h t = impossible t (λ w. h w.0 w.1 (sym e ∙ w.2))

    one_system : (l : Line) → line ls s ≡ l → ∥ SystemOf ls s n ∥₁ → SystemOf ls s n
    one_system (Line.System a b) e t =
        let same : (w : SystemOf ls s n) → ◌≡◌ {A = Line} (Line.System a b) (Line.System w.0 w.1) = λ w. sym e ∙ w.2 in
        let listed : (w : SystemOf ls s n) → ListedBy a = λ w. subst ListedBy (system_same a b w.0 w.1 (same w)) w.3 in
        (a, b, e, decided (listed_or_not n (procedures_of (part (line ls) a))) (∥∥₁_map t listed))
    one_system (Line.Global a b) e t = no_system (Line.Global a b) e (λ p q h. zero_one cc) t
    one_system (Line.Constant z) e t = no_system (Line.Constant z) e (λ p q h. zero_one cc) t
    one_system (Line.Simple a) e t = no_system (Line.Simple a) e (λ p q h. zero_one cc) t
    one_system (Line.Element a b) e t = no_system (Line.Element a b) e (λ p q h. zero_one cc) t
    one_system (Line.Operation o a b) e t = no_system (Line.Operation o a b) e (λ p q h. zero_one cc) t
    one_system (Line.Comparison r a b) e t = no_system (Line.Comparison r a b) e (λ p q h. zero_one cc) t
    one_system (Line.Choice a b c) e t = no_system (Line.Choice a b c) e (λ p q h. zero_one cc) t
    one_system (Line.Truth b) e t = no_system (Line.Truth b) e (λ p q h. zero_one cc) t
    one_system (Line.Negation a) e t = no_system (Line.Negation a) e (λ p q h. zero_one cc) t
    one_system (Line.Implication a b) e t = no_system (Line.Implication a b) e (λ p q h. zero_one cc) t
    one_system (Line.Assignment a b) e t = no_system (Line.Assignment a b) e (λ p q h. zero_one cc) t
    one_system (Line.Sequence a b) e t = no_system (Line.Sequence a b) e (λ p q h. zero_one cc) t
    one_system (Line.Branch a b c) e t = no_system (Line.Branch a b c) e (λ p q h. zero_one cc) t
    one_system (Line.Call a b c) e t = no_system (Line.Call a b c) e (λ p q h. zero_one cc) t
    one_system (Line.NewSimple a b) e t = no_system (Line.NewSimple a b) e (λ p q h. zero_one cc) t
    one_system (Line.NewArray a b c) e t = no_system (Line.NewArray a b c) e (λ p q h. zero_one cc) t
    one_system (Line.Procedure a b c d) e t = no_system (Line.Procedure a b c d) e (λ p q h. zero_one cc) t
    one_system (Line.Join a b) e t = no_system (Line.Join a b) e (λ p q h. zero_one cc) t

  abbrev Opened : Option Declaration → ℕ → Type 0
  Opened o n = (m : ℕ) × (o ≡ Some (record { line = m; role = Declared })) × SystemOf ls m n

  one_opened : (o : Option Declaration) (n : ℕ) → ∥ Opened o n ∥₁ → Opened o n
  one_opened None n t = impossible t (λ w. let e : ◌≡◌ {A = Option Declaration} None (Some (record { line = w.0; role = Declared })) = w.1 in zero_one cc)
  one_opened (Some d) n t = go d.role refl
    where
      line_of : (w : Opened (Some d) n) → w.0 ≡ d.line
      line_of w = sym (ap (λ d. d.line) (some_same d (record { line = w.0; role = Declared }) w.1))

      role_of : (w : Opened (Some d) n) → d.role ≡ Declared
      role_of w = ap (λ d. d.role) (some_same d (record { line = w.0; role = Declared }) w.1)

      go : (r : Role) → d.role ≡ r → Opened (Some d) n
      go Declared e = (d.line, ap (λ r. Some (record { line = d.line; role = r })) e, one_system d.line n (line ls d.line) refl (∥∥₁_map t (λ w. subst (λ s. SystemOf ls s n) (line_of w) w.2)))
      go ValueFormal e = impossible t (λ w. let h : ValueFormal ≡ Declared = sym e ∙ role_of w in zero_one cc)
      go VariableFormal e = impossible t (λ w. let h : VariableFormal ≡ Declared = sym e ∙ role_of w in zero_one cc)
      go (GlobalSimple c) e = impossible t (λ w. let h : GlobalSimple c ≡ Declared = sym e ∙ role_of w in zero_one cc)
      go (GlobalArray b m) e = impossible t (λ w. let h : GlobalArray b m ≡ Declared = sym e ∙ role_of w in zero_one cc)

  belongs_again : (n : ℕ) (s : Scope) (g : Naming) (o : Option Declaration) → ∥ Belongs ls n s g o ∥₁ → Belongs ls n s g o
  belongs_again n s silent o t = none_told o t
  belongs_again n s (uses_simple a) o t = one_told o (found s.simples a) t
  belongs_again n s (uses_array a) o t = one_told o (found s.arrays a) t
  belongs_again n s (uses_procedure a) o t = one_told o (found s.procs a) t
  belongs_again n s (opens_simple a) o t = none_told o t
  belongs_again n s (opens_array a) o t = none_told o t
  belongs_again n s (opens_system a) o t = none_told o t
  belongs_again n s (opens_body q x y) o t = one_opened o n t
  belongs_again n s (joins a b) o t = none_told o t

-- ## Accepted records

module _ (low high : ℤ) where
  script_again : (ls : List Line) → ∥ IsScript low high ls ∥₁ → IsScript low high ls
  script_again ls t = elim (one_verdict low high ls) [ inl v ↦ v.0 | inr v ↦ impossible t v.4 ]

  pub accepted_again : (rs : List Record) → ∥ Accepted low high rs ∥₁ → Accepted low high rs
  accepted_again rs t =
      let ls = lines_of rs in
      let belongs : (n : ℕ) → n ≤ length ls → Belongs ls n (scope_at (line ls) (length ls) (globals_of ls).scope n) (naming (line ls n)) (declaration_in (record_at rs n)) =
      λ n q. belongs_again ls n (scope_at (line ls) (length ls) (globals_of ls).scope n) (naming (line ls n)) (declaration_in (record_at rs n))
      (∥∥₁_map t (λ a. (a.resolved).belongs n q)) in
      record {
        few = ∥∥₁_elim t le_prop (λ a. a.few);
        script = script_again ls (∥∥₁_map t (λ a. a.script));
        resolved = record { lines = refl; belongs = belongs };
      }
