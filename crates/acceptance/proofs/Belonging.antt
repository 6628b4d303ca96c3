-- What the program computes for the records of a script's lines is what the records of an accepted sheet tell.
use Rattle.std.proofs.Common.{◌≡◌, ℕ, zero, suc, ◌+◌, ◌<◌, ◌≤◌, Bool, true, false, List, [], ◌∷◌, ◌++◌, map, length, get_or, is_some, ℤ, Some, None, Option, sym, refl, ap, ◌∙◌, subst, inl, inr, arith}
use Rattle.std.proofs.lemmas.Bool.{both_ways, cases_eq, cases_lt}
use Rattle.lines.specs.declared.records.Line.{Line}
use Rattle.lines.specs.declared.records.Role.TheVariants.{Declared}
use Rattle.lines.specs.declared.records.Declaration.{Declaration}
use Rattle.lines.specs.declared.records.Record.{Record}
use Rattle.script.specs.Tree.{Part, grow, grown, line, other, part}
use Rattle.script.specs.Apart.{Scope, found, globals_of, past_globals}
use Rattle.script.specs.Lists.{Any, Each, times}
use Rattle.script.specs.Fields.{Field, class_of, fields, fits, is_nothing, is_statement, of_declarations}
use Rattle.script.specs.Around.{Naming, joins, naming, opens_array, opens_body, opens_simple, opens_system, procedures_of, scope_at, silent, uses_array, uses_procedure, uses_simple}
use Rattle.script.specs.IsScript.{IsScript}
use Rattle.script.specs.Tests.{among, declared_by, procedures_by}
use Rattle.script.proofs.Lists.{each_map, each_zip, times_each}
use Rattle.script.proofs.Grow.{grow_at}
use Rattle.script.proofs.Globals.{front_of}
use Rattle.script.proofs.Naming.{Told as IsLine, passed, procedures_same, told}
use Rattle.script.proofs.Form.{InForm, each_named, names_of, some_part}
use Rattle.script.proofs.Spread.{Behind, around_named, behind}
use Rattle.script.proofs.Under.{list_step, scope_listed}
use Rattle.script.proofs.Steps.{ScopedPart}
use Rattle.script.proofs.Finds.{named_where}
use Rattle.script.proofs.Accept.{listed_same, scoped_lines, the_form}
use Rattle.standing.specs.Records.{Belongs, Resolved, SystemOf, Told, declaration_in, own_name, record_at}
use Rattle.acceptance.specs.declared.declared.Sought.{Sought}
use Rattle.acceptance.specs.declared.declared.Sought.TheVariants.{Simple, Array, Procedure}
use Rattle.acceptance.specs.Scopes.{at, declaration_at, declared_around, of_system, system_at, system_by, told_by}
use Rattle.acceptance.proofs.Innermost.{among_pick, found_pick, known, own_of, pick, scope_picks}
use Rattle.acceptance.proofs.Roles.{Holds, Right, declared_right}

-- ## Names that are used

-- a name among those of a scope belongs to the declaration that has the first of that name
told_first : (ls : List Line) (ps : List (ℕ × ℕ)) (a : ℕ) (o : Option Declaration)
    → among ps a ≡ true → pick ps a ≡ own_of o → Holds (Right (globals_of ls).names) o → Told ls o (found ps a)
told_first ls ps a None h e r = absurd (both_ways (among ps a) (among_pick ps a ∙ ap is_some e) h)
told_first ls ps a (Some d) h e r = (d, refl, (found_pick ps a (own_name d.line d.role) e, r))

-- ## Declarations that are named

-- the lines at which fields want declarations
abbrev wanted : List Field → List ℕ
wanted [] = []
wanted (f ∷ fs) = elim (fits f.0 of_declarations) [ true ↦ f.1 ∷ wanted fs | false ↦ wanted fs ]

-- those are the lines whose procedures a line passes on
wanted_passed : (l : Line) → passed (naming l) ≡ wanted (fields l)
wanted_passed (Line.Global a b) = refl
wanted_passed (Line.Constant z) = refl
wanted_passed (Line.Simple a) = refl
wanted_passed (Line.Element a b) = refl
wanted_passed (Line.Operation o a b) = refl
wanted_passed (Line.Comparison r a b) = refl
wanted_passed (Line.Choice a b c) = refl
wanted_passed (Line.Truth b) = refl
wanted_passed (Line.Negation a) = refl
wanted_passed (Line.Implication a b) = refl
wanted_passed (Line.Assignment a b) = refl
wanted_passed (Line.Sequence a b) = refl
wanted_passed (Line.Branch a b c) = refl
wanted_passed (Line.Call a b c) = refl
wanted_passed (Line.NewSimple a b) = refl
wanted_passed (Line.NewArray a b c) = refl
wanted_passed (Line.System a b) = refl
wanted_passed (Line.Procedure a b c d) = refl
wanted_passed (Line.Join a b) = refl

-- what holds of those holds of the line of every field that declarations fit
each_wanted : (P : ℕ → Type 0) (fs : List Field) → Each P (wanted fs) → Each (λ f. fits f.0 of_declarations ≡ true → P f.1) fs
each_wanted P [] e = tt
each_wanted P (f ∷ fs) e = let w = go (fits f.0 of_declarations) e in (w.0, each_wanted P fs w.1)
  where
    go : (b : Bool) → Each P (elim b [ true ↦ f.1 ∷ wanted fs | false ↦ wanted fs ]) → (b ≡ true → P f.1) × Each P (wanted fs)
    go true e = (λ w. e.0, e.1)
    go false e = (λ w. absurd (both_ways false refl w), e)

-- what is among some is among them and more
module _ {A : Type 0} (P : A → Type 0) where
  any_left : (us vs : List A) → Any P us → Any P (us ++ vs)
  any_left [] vs h = absurd h
  any_left (u ∷ us) vs (inl h) = inl h
  any_left (u ∷ us) vs (inr h) = inr (any_left us vs h)

  any_right : (us vs : List A) → Any P vs → Any P (us ++ vs)
  any_right [] vs h = h
  any_right (u ∷ us) vs h = inr (any_right us vs h)

-- ## A script's lines

module _ (low high : ℤ) (ls : List Line) (script : IsScript low high ls) where
  abbrev L : ℕ → Line
  L = line ls

  abbrev N : ℕ
  N = length ls

  abbrev G : ℕ
  G = past_globals ls

  abbrev outer : Scope
  outer = (globals_of ls).scope

  abbrev here : ℕ → Scope
  here n = scope_at L N outer n

  front : (n : ℕ) → n < G → is_nothing (class_of (L n)) ≡ true
  front = front_of ls

  form : InForm L N G
  form = the_form low high ls script

  -- a name that the scope of line n has belongs to the declaration that is found around the line
  told_around : (k : Sought) (a n : ℕ) → among (known k (here n)) a ≡ true → Told ls (declared_around k a ls n) (found (known k (here n)) a)
  told_around k a n h = told_first ls (known k (here n)) a (declared_around k a ls n) h
      (ap (λ s. pick (known k s) a) (sym (scope_listed L N G front form outer n)) ∙ scope_picks a k ls n) (declared_right ls k a n)

  -- declarations stand behind the globals, and not last
  declarations_behind : (n : ℕ) → class_of (L n) ≡ of_declarations → G ≤ n
  declarations_behind n c = elim (cases_lt n G) [ inl w ↦ absurd (both_ways (is_nothing (class_of (L n))) (ap is_nothing c) (front n w)) | inr w ↦ w ]

  declarations_before : (n : ℕ) → n ≤ N → class_of (L n) ≡ of_declarations → n < N
  declarations_before n q c = elim (cases_eq n N) [
    | inl e ↦ absurd (both_ways (is_statement (class_of (L n))) (ap is_statement c) (ap (λ j. is_statement (class_of (L j))) e ∙ form.ends))
    | inr e ↦ omega arith
  ]

  -- the procedures of declarations, from those of the declarations that they join
  procedures_as : (n : ℕ) (l : Line) → n ≤ N → L n ≡ l → class_of l ≡ of_declarations
      → procedures_of (part L n) ≡ procedures_by (λ m. procedures_of (part L m)) n (naming l)
  procedures_as n l q e c =
      list_step n (grow grown L n) (L n) (some_part L N G front form n (declarations_behind n (ap class_of e ∙ c)) q)
      ∙ (procedures_same (λ m. procedures_of (before m)) (λ m. procedures_of (part L m)) n (naming (L n)) (listed_same before (part L) (L n) parts)
      ∙ ap (λ k. procedures_by (λ m. procedures_of (part L m)) n (naming k)) e)
    where
      before : ℕ → Part
      before m = get_or (grow grown L n) m other

      parts : Each (λ m. before m ≡ part L m) (names_of L n)
      parts = each_map (Behind L N G front form n) (λ m. before m ≡ part L m) (λ m b. grow_at grown L other n m b.1) (names_of L n) (behind L N G front form n q)

  -- what holds of the lines whose procedures line u passes on holds of all declarations that it names
  all_declarations : (P : ℕ → Type 0) (u : ℕ) → u ≤ N → Each P (passed (naming (L u)))
      → Each (λ m. class_of (L m) ≡ of_declarations → P m) (names_of L u)
  all_declarations P u q e = each_named (λ m. class_of (L m) ≡ of_declarations → P m) (fields (L u))
      (each_zip (λ f. (f.1 < u) × (fits f.0 (class_of (L f.1)) ≡ true)) (λ f. fits f.0 of_declarations ≡ true → P f.1)
      (λ f. class_of (L f.1) ≡ of_declarations → P f.1) (λ f h w c. w (ap (fits f.0) (sym c) ∙ h.1))
      (fields (L u)) (form.fit u q) (each_wanted P (fields (L u)) (subst (Each P) (wanted_passed (L u)) e)))

  -- the procedure on line p
  module _ (p : ℕ) where
    abbrev Has : List (ℕ × ℕ) → Type 0
    Has rs = Any (λ r. r.0 ≡ p) rs

    -- line n has the procedure
    abbrev At : ℕ → Type 0
    At n = Has (procedures_of (part L n))

    -- the system that line n is joined in has the procedure
    abbrev InSystem : ℕ → Type 0
    InSystem n = (m : ℕ) × (system_at ls n ≡ Some m) × SystemOf ls m p

    -- The procedure is passed on by line u: u is its system, or it is joined in the system that u is joined in. One or the other is told by what
    -- line u does with names.
    passes : (u : ℕ) → u ≤ N → (class_of (L u) ≡ of_declarations → At u → InSystem u) → (g : Naming) → IsLine (L u) g
        → Each (λ n. At n → system_at ls n ≡ system_by u g (system_at ls u) → InSystem n) (passed g)
    passes u q outward silent t = tt
    passes u q outward (uses_simple a) t = tt
    passes u q outward (uses_array a) t = tt
    passes u q outward (uses_procedure a) t = tt
    passes u q outward (opens_simple a) t = tt
    passes u q outward (opens_array a) t = tt
    passes u q outward (opens_system a) t = ((λ h e. (u, e, (a, t.0, t.1, h))), tt)
    passes u q outward (opens_body f x y) t = tt
    passes u q outward (joins a b) t = ((λ h. joined a (any_left (λ r. r.0 ≡ p) rs qs h)), ((λ h. joined b (any_right (λ r. r.0 ≡ p) rs qs h)), tt))
      where
        rs : List (ℕ × ℕ)
        rs = procedures_of (part L a)

        qs : List (ℕ × ℕ)
        qs = procedures_of (part L b)

        joined : (n : ℕ) → Has (rs ++ qs) → system_at ls n ≡ system_at ls u → InSystem n
        joined n h e = let w : InSystem u = outward (ap class_of t) (subst Has (sym (procedures_as u (Line.Join a b) q t refl)) h) in (w.0, e ∙ w.1, w.2)

    -- u is the line that names line n
    named_by : (n u : ℕ) → u ≤ N → 1 ≤ times n (names_of L u) → (n < u → class_of (L u) ≡ of_declarations → At u → InSystem u)
        → class_of (L n) ≡ of_declarations → At n → InSystem n
    named_by n u q t outward c h =
        let b : Behind L N G front form u n = times_each (Behind L N G front form u) n (names_of L u) (behind L N G front form u q) t in
        let P : ℕ → Type 0 = λ m. At m → system_at ls m ≡ system_by u (naming (L u)) (system_at ls u) → InSystem m in
        times_each (λ m. class_of (L m) ≡ of_declarations → P m) n (names_of L u)
        (all_declarations P u q (passes u q (outward b.1) (naming (L u)) (told (L u)))) t
        c h (around_named L N G front form (λ m l s. system_by m (naming l) s) None u n q t)

    -- Declarations are always named: by their system, or by further declarations, which stand behind them. So k steps are enough where no
    -- more lines than that are left.
    in_system : (k n : ℕ) → N < n + k → n ≤ N → class_of (L n) ≡ of_declarations → At n → InSystem n
    in_system zero n r q c h = absurd (omega arith)
    in_system (suc k) n r q c h =
        let w = (named_where L N n (suc N)).0 (form.used n (declarations_before n q c) (declarations_behind n c)) in
        named_by n w.0 (omega (arith, w.1)) w.2 (λ b. in_system k w.0 (omega arith) (omega (arith, w.1))) c h

  procedure_told : (n a x y b : ℕ) → n ≤ N → L n ≡ Line.Procedure a x y b
      → (m : ℕ) × (of_system (system_at ls n) ≡ Some (at m Declared)) × SystemOf ls m n
  procedure_told n a x y b q e =
      let h : At n n = subst (Has n) (sym (procedures_as n (Line.Procedure a x y b) q e refl)) (inl refl) in
      let w : InSystem n n = in_system n (suc N) n (omega arith) q (ap class_of e) h in
      (w.0, ap of_system w.1, w.2)

  belongs_at : (n : ℕ) → n ≤ N → Belongs ls n (here n) (naming (L n)) (declaration_at ls n)
  belongs_at n q = go (naming (L n)) (told (L n)) ((scoped_lines L N G front form outer).1 (subst (ScopedPart outer) (sym script.is) script.scoped) n q)
    where
      go : (g : Naming) → IsLine (L n) g → declared_by (here n) g ≡ true → Belongs ls n (here n) g (told_by ls n g)
      go silent t h = refl
      go (uses_simple a) t h = told_around Simple a n h
      go (uses_array a) t h = told_around Array a n h
      go (uses_procedure a) t h = told_around Procedure a n h
      go (opens_simple a) t h = refl
      go (opens_array a) t h = refl
      go (opens_system a) t h = refl
      go (opens_body a x y) t h = procedure_told n a x y t.0 q t.1
      go (joins a b) t h = refl

-- records that have the lines of a script, each with the declaration that the program computes for it, are resolved
pub belonging : (low high : ℤ) (ls : List Line) → IsScript low high ls → (rs : List Record)
    → map (λ r. r.line) rs ≡ ls
    → ((n : ℕ) → 0 < n → n ≤ length ls → declaration_in (record_at rs n) ≡ declaration_at ls n)
    → Resolved ls rs
belonging low high ls s rs lines h = record {
  lines = lines;
  belongs = λ n q. subst (Belongs ls n (here low high ls s n) (naming (line ls n))) (sym (same n q)) (belongs_at low high ls s n q);
}
  where
    same : (n : ℕ) → n ≤ length ls → declaration_in (record_at rs n) ≡ declaration_at ls n
    same zero q = refl
    same (suc n) q = h (suc n) (omega arith) q
