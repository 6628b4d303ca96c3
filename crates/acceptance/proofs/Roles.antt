-- The declarations that are found have the right roles: a global's has its cells, and any other is of no global.
use Rattle.std.proofs.Common.{◌≡◌, ℕ, zero, suc, ◌+◌, ◌<◌, ◌≤◌, Bool, true, false, eqb, List, [], ◌∷◌, length, get_or, Some, None, Option, sym, refl, ap, ◌∙◌, subst, inl, inr, arith}
use Rattle.std.proofs.lemmas.Bool.{both_ways, cases_lt, eq-eqb, ne_eqb}
use Rattle.std.specs.Option.{option_or}
use Rattle.lines.specs.declared.records.Line.{Line}
use Rattle.lines.specs.declared.records.Declaration.{Declaration}
use Rattle.script.specs.Script.{only}
use Rattle.script.specs.Names.{Names, nothing, cell, cells}
use Rattle.script.specs.Tree.{grow, line}
use Rattle.script.specs.Lists.{Each}
use Rattle.script.specs.Fields.{class_of, is_nothing}
use Rattle.script.specs.Apart.{Globals, global_of, globals_from, globals_of, heads, no_globals, own, own_value, own_variable}
use Rattle.script.specs.Around.{handed, naming, user}
use Rattle.script.specs.Tests.{procedures_at, under}
use Rattle.script.proofs.Lists.{each_append}
use Rattle.script.proofs.Grow.{grow_at, grow_beyond}
use Rattle.script.proofs.Globals.{front_of}
use Rattle.standing.specs.Records.{RoleRight}
use Rattle.acceptance.specs.declared.declared.Sought.{Sought}
use Rattle.acceptance.specs.declared.declared.Sought.TheVariants.{Simple, Array, Procedure}
use Rattle.acceptance.specs.Scopes.{Entry, cells_of, declared_around, declared_from, entries, global_declared, global_entries, global_entry, last_declared, procedure_entries, when}

-- P holds of what is there
abbrev pub Holds : {A : Type 0} → (A → Type 0) → Option A → Type 0
Holds P None = Unit {0}
Holds P (Some a) = P a

holds_or : {A : Type 0} (P : A → Type 0) (o p : Option A) → Holds P o → Holds P p → Holds P (option_or o p)
holds_or P None p h k = k
holds_or P (Some a) p h k = h

holds_when : {A : Type 0} (P : A → Type 0) (b : Bool) (a : A) → P a → Holds P (when b a)
holds_when P true a h = h
holds_when P false a h = tt

pub holds_last : (P : Declaration → Type 0) (es : List Entry) (a : ℕ) → Each (λ e. P e.1) es → Holds P (last_declared es a)
holds_last P [] a h = tt
holds_last P (e ∷ es) a h = holds_or P (last_declared es a) (when (eqb e.0 a) e.1) (holds_last P es a h.1) (holds_when P (eqb e.0 a) e.1 h.0)

-- ## What the globals' names stand for

other_name : {A : Type 0} (x y : ℕ) (a : A) (f : ℕ → A) → ¬ (x ≡ y) → only x a f y ≡ f y
other_name {A} x y a f h = go (eqb x y) (ne_eqb x y h)
  where
    go : (b : Bool) → b ≡ false → elim b [ true ↦ a | false ↦ f y ] ≡ f y
    go true e = absurd (both_ways true e refl)
    go false e = refl

same_name : {A : Type 0} (x : ℕ) (a : A) (f : ℕ → A) → only x a f x ≡ a
same_name {A} x a f = go (eqb x x) (eq-eqb x x refl)
  where
    go : (b : Bool) → b ≡ true → elim b [ true ↦ a | false ↦ f x ] ≡ a
    go true e = refl
    go false e = absurd (both_ways false refl e)

-- a global's own name
abbrev OwnFrom : ℕ → ℕ → Type 0
OwnFrom n y = (m : ℕ) → n ≤ m → ¬ (own m ≡ y)

one_stays : (n x b y : ℕ) (g : Globals) → ¬ (own n ≡ y) → (global_of n x b g).names y ≡ g.names y
one_stays n x zero y g h = other_name (own n) y (cell g.taken) g.names h
one_stays n x (suc b) y g h = other_name (own n) y (cells g.taken (suc b)) g.names h

names_stay : (n : ℕ) (gs : List (ℕ × ℕ)) (g : Globals) (y : ℕ) → OwnFrom n y → (globals_from n gs g).names y ≡ g.names y
names_stay n [] g y h = refl
names_stay n (p ∷ ps) g y h = names_stay (suc n) ps (global_of n p.0 p.1 g) y (λ m q. h m (omega arith)) ∙ one_stays n p.0 p.1 y g (h n (omega arith))

-- those from line n on stand only for own names of lines from n on, and below the end
pub names_none : (n : ℕ) (gs : List (ℕ × ℕ)) (g : Globals) (y : ℕ) → ((m : ℕ) → n ≤ m → m < n + length gs → ¬ (own m ≡ y)) → (globals_from n gs g).names y ≡ g.names y
names_none n [] g y h = refl
names_none n (p ∷ ps) g y h =
    names_none (suc n) ps (global_of n p.0 p.1 g) y (λ m q r. h m (omega arith) (omega arith)) ∙ one_stays n p.0 p.1 y g (h n (omega arith) (omega arith))

module _ (ls : List Line) where
  abbrev G : Names
  G = (globals_of ls).names

  pub no_global_here : (l : ℕ) → is_nothing (class_of (line ls l)) ≡ false → G (own l) ≡ nothing
  no_global_here l h = names_none 1 (heads ls) no_globals (own l) (λ m q r e. both_ways (is_nothing (class_of (line ls l))) h (front_of ls l (omega arith)))

  -- 0 is no name of its own of a line
  pub no_name : G 0 ≡ nothing
  no_name = names_none 1 (heads ls) no_globals 0 (λ m q r e. omega arith)

  pub no_value : (l : ℕ) → G (own_value l) ≡ nothing
  no_value l = names_none 1 (heads ls) no_globals (own_value l) (λ m q r e. omega arith)

  pub no_variable : (l : ℕ) → G (own_variable l) ≡ nothing
  no_variable l = names_none 1 (heads ls) no_globals (own_variable l) (λ m q r e. omega arith)

-- ## Roles

abbrev pub Right : Names → Declaration → Type 0
Right G d = RoleRight G d.line d.role

global_right : (k : Sought) (n x b : ℕ) (ps : List (ℕ × ℕ)) (g : Globals)
    → Each (λ e. Right (globals_from (suc n) ps (global_of n x b g)).names e.1) (global_entry k n g.taken x b)
global_right Simple n x zero ps g = (names_stay (suc n) ps (global_of n x zero g) (own n) (λ m q e. omega arith) ∙ same_name (own n) (cell g.taken) g.names, tt)
global_right Simple n x (suc b) ps g = tt
global_right Array n x zero ps g = tt
global_right Array n x (suc b) ps g = (names_stay (suc n) ps (global_of n x (suc b) g) (own n) (λ m q e. omega arith) ∙ same_name (own n) (cells g.taken (suc b)) g.names, tt)
global_right Procedure n x b ps g = tt

pub taken_more : (n x b : ℕ) (g : Globals) → (global_of n x b g).taken ≡ g.taken + cells_of b
taken_more n x zero g = refl
taken_more n x (suc b) g = refl

pub globals_right : (k : Sought) (n : ℕ) (gs : List (ℕ × ℕ)) (g : Globals) → Each (λ e. Right (globals_from n gs g).names e.1) (global_entries k n g.taken gs)
globals_right k n [] g = tt
globals_right k n (p ∷ ps) g =
    let P : Entry → Type 0 = λ e. Right (globals_from (suc n) ps (global_of n p.0 p.1 g)).names e.1 in
    each_append P (global_entry k n g.taken p.0 p.1) (global_entries k (suc n) (g.taken + cells_of p.1) ps) (global_right k n p.0 p.1 ps g)
    (subst (λ c. Each P (global_entries k (suc n) c ps)) (taken_more n p.0 p.1 g) (globals_right k (suc n) ps (global_of n p.0 p.1 g)))

-- procedures stand on lines that are no globals
module _ (L : ℕ → Line) where
  abbrev OfText : List (ℕ × ℕ) → Type 0
  OfText rs = Each (λ r. is_nothing (class_of (L r.0)) ≡ false) rs

  module _ (d : ℕ) (h : (m : ℕ) → m < d → OfText (under L m)) where
    before : (m : ℕ) → OfText (get_or (grow procedures_at L d) m [])
    before m = elim (cases_lt m d) [
      | inl w ↦ subst OfText (sym (grow_at procedures_at L [] d m w)) (h m w)
      | inr w ↦ subst OfText (sym (grow_beyond procedures_at L [] d m w)) tt
    ]

    of_text_line : (l : Line) → L d ≡ l → OfText (procedures_at d (grow procedures_at L d) l)
    of_text_line (Line.Global a b) e = tt
    of_text_line (Line.Constant z) e = tt
    of_text_line (Line.Simple a) e = tt
    of_text_line (Line.Element a b) e = tt
    of_text_line (Line.Operation o a b) e = tt
    of_text_line (Line.Comparison r a b) e = tt
    of_text_line (Line.Choice a b c) e = tt
    of_text_line (Line.Truth b) e = tt
    of_text_line (Line.Negation a) e = tt
    of_text_line (Line.Implication a b) e = tt
    of_text_line (Line.Assignment a b) e = tt
    of_text_line (Line.Sequence a b) e = tt
    of_text_line (Line.Branch a b c) e = tt
    of_text_line (Line.Call a b c) e = tt
    of_text_line (Line.NewSimple a b) e = tt
    of_text_line (Line.NewArray a b c) e = tt
    of_text_line (Line.System a b) e = tt
    of_text_line (Line.Procedure a b c f) e = (ap (λ l. is_nothing (class_of l)) e, tt)
    of_text_line (Line.Join a b) e = each_append (λ r. is_nothing (class_of (L r.0)) ≡ false) (get_or (grow procedures_at L d) a []) (get_or (grow procedures_at L d) b []) (before a) (before b)

  of_text : (k d : ℕ) → d < k → OfText (under L d)
  of_text zero d q = absurd (omega arith)
  of_text (suc k) d q = of_text_line d (λ m w. of_text k m (omega arith)) (L d) refl

module _ (ls : List Line) where
  procedures_right : (rs : List (ℕ × ℕ)) → OfText (line ls) rs → Each (λ e. Right (globals_of ls).names e.1) (procedure_entries rs)
  procedures_right [] h = tt
  procedures_right (r ∷ rs) h = (no_global_here ls r.0 h.0, procedures_right rs h.1)

  entries_right : (k : Sought) (p : ℕ) (l : Line) → line ls p ≡ l → Each (λ e. Right (globals_of ls).names e.1) (entries k (under (line ls)) p (naming l))
  entries_right Simple p (Line.Global a b) e = tt
  entries_right Simple p (Line.Constant z) e = tt
  entries_right Simple p (Line.Simple a) e = tt
  entries_right Simple p (Line.Element a b) e = tt
  entries_right Simple p (Line.Operation o a b) e = tt
  entries_right Simple p (Line.Comparison r a b) e = tt
  entries_right Simple p (Line.Choice a b c) e = tt
  entries_right Simple p (Line.Truth b) e = tt
  entries_right Simple p (Line.Negation a) e = tt
  entries_right Simple p (Line.Implication a b) e = tt
  entries_right Simple p (Line.Assignment a b) e = tt
  entries_right Simple p (Line.Sequence a b) e = tt
  entries_right Simple p (Line.Branch a b c) e = tt
  entries_right Simple p (Line.Call a b c) e = tt
  entries_right Simple p (Line.NewSimple a b) e = (no_global_here ls p (ap (λ l. is_nothing (class_of l)) e), tt)
  entries_right Simple p (Line.NewArray a b c) e = tt
  entries_right Simple p (Line.System a b) e = tt
  entries_right Simple p (Line.Procedure a b c d) e = (no_value ls p, (no_variable ls p, tt))
  entries_right Simple p (Line.Join a b) e = tt
  entries_right Array p (Line.Global a b) e = tt
  entries_right Array p (Line.Constant z) e = tt
  entries_right Array p (Line.Simple a) e = tt
  entries_right Array p (Line.Element a b) e = tt
  entries_right Array p (Line.Operation o a b) e = tt
  entries_right Array p (Line.Comparison r a b) e = tt
  entries_right Array p (Line.Choice a b c) e = tt
  entries_right Array p (Line.Truth b) e = tt
  entries_right Array p (Line.Negation a) e = tt
  entries_right Array p (Line.Implication a b) e = tt
  entries_right Array p (Line.Assignment a b) e = tt
  entries_right Array p (Line.Sequence a b) e = tt
  entries_right Array p (Line.Branch a b c) e = tt
  entries_right Array p (Line.Call a b c) e = tt
  entries_right Array p (Line.NewSimple a b) e = tt
  entries_right Array p (Line.NewArray a b c) e = (no_global_here ls p (ap (λ l. is_nothing (class_of l)) e), tt)
  entries_right Array p (Line.System a b) e = tt
  entries_right Array p (Line.Procedure a b c d) e = tt
  entries_right Array p (Line.Join a b) e = tt
  entries_right Procedure p (Line.Global a b) e = tt
  entries_right Procedure p (Line.Constant z) e = tt
  entries_right Procedure p (Line.Simple a) e = tt
  entries_right Procedure p (Line.Element a b) e = tt
  entries_right Procedure p (Line.Operation o a b) e = tt
  entries_right Procedure p (Line.Comparison r a b) e = tt
  entries_right Procedure p (Line.Choice a b c) e = tt
  entries_right Procedure p (Line.Truth b) e = tt
  entries_right Procedure p (Line.Negation a) e = tt
  entries_right Procedure p (Line.Implication a b) e = tt
  entries_right Procedure p (Line.Assignment a b) e = tt
  entries_right Procedure p (Line.Sequence a b) e = tt
  entries_right Procedure p (Line.Branch a b c) e = tt
  entries_right Procedure p (Line.Call a b c) e = tt
  entries_right Procedure p (Line.NewSimple a b) e = tt
  entries_right Procedure p (Line.NewArray a b c) e = tt
  entries_right Procedure p (Line.System a b) e = procedures_right (under (line ls) a) (of_text (line ls) (suc a) a (omega arith))
  entries_right Procedure p (Line.Procedure a b c d) e = tt
  entries_right Procedure p (Line.Join a b) e = tt

  module _ (k : Sought) (a : ℕ) where
    pub global_right_there : Holds (Right (globals_of ls).names) (global_declared k a ls)
    global_right_there = holds_last (Right (globals_of ls).names) (global_entries k 1 0 (heads ls)) a (globals_right k 1 (heads ls) no_globals)

    from_right : (f n : ℕ) → Holds (Right (globals_of ls).names) (declared_from k a ls f n)
    from_right zero n = global_right_there
    from_right (suc f) n = go (user (line ls) (suc (length ls)) n) (from_right f (user (line ls) (suc (length ls)) n))
      where
        go : (u : ℕ) → Holds (Right (globals_of ls).names) (declared_from k a ls f u)
            → Holds (Right (globals_of ls).names) (handed (λ p l o. option_or (last_declared (entries k (under (line ls)) p (naming l)) a) o) (global_declared k a ls) (line ls) (length ls) u (declared_from k a ls f u))
        go zero h = global_right_there
        go (suc u) h = holds_or (Right (globals_of ls).names) (last_declared (entries k (under (line ls)) (suc u) (naming (line ls (suc u)))) a) (declared_from k a ls f (suc u))
            (holds_last (Right (globals_of ls).names) (entries k (under (line ls)) (suc u) (naming (line ls (suc u)))) a (entries_right k (suc u) (line ls (suc u)) refl)) h

    pub declared_right : (n : ℕ) → Holds (Right (globals_of ls).names) (declared_around k a ls n)
    declared_right n = from_right (length ls) n
