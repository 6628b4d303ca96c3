-- What a line does with names says which line it is.
use Rattle.std.proofs.Common.{◌≡◌, ℕ, List, [], ◌∷◌, ◌++◌, refl, ap, subst, ap₂}
use Rattle.lines.specs.declared.records.Line.{Line}
use Rattle.script.specs.Apart.{Scope}
use Rattle.script.specs.Lists.{Each}
use Rattle.script.specs.Fields.{fields, named_in}
use Rattle.script.specs.Around.{Naming, fellows_by, inside_by, joins, naming, opens_array, opens_body, opens_simple, opens_system, silent, uses_array, uses_procedure, uses_simple, with_listed}
use Rattle.script.specs.Tests.{procedures_by}

abbrev pub Told : Line → Naming → Type 0
Told l silent = Unit {0}
Told l (uses_simple a) = l ≡ Line.Simple a
Told l (uses_array a) = (b : ℕ) × (l ≡ Line.Element a b)
Told l (uses_procedure a) = (b c : ℕ) × (l ≡ Line.Call a b c)
Told l (opens_simple a) = Unit {0}
Told l (opens_array a) = Unit {0}
Told l (opens_system a) = (b : ℕ) × (l ≡ Line.System a b)
Told l (opens_body q x y) = (b : ℕ) × (l ≡ Line.Procedure q x y b)
Told l (joins a b) = l ≡ Line.Join a b

pub told : (l : Line) → Told l (naming l)
told (Line.Global a b) = tt
told (Line.Constant k) = tt
told (Line.Simple a) = refl
told (Line.Element a b) = (b, refl)
told (Line.Operation o a b) = tt
told (Line.Comparison r a b) = tt
told (Line.Choice a b c) = tt
told (Line.Truth b) = tt
told (Line.Negation a) = tt
told (Line.Implication a b) = tt
told (Line.Assignment a b) = tt
told (Line.Sequence a b) = tt
told (Line.Branch a b c) = tt
told (Line.Call a b c) = (b, c, refl)
told (Line.NewSimple a b) = tt
told (Line.NewArray a b c) = tt
told (Line.System a b) = (b, refl)
told (Line.Procedure a b c d) = (d, refl)
told (Line.Join a b) = refl

-- the lines whose procedures a line passes on
abbrev pub passed : Naming → List ℕ
passed silent = []
passed (uses_simple a) = []
passed (uses_array a) = []
passed (uses_procedure a) = []
passed (opens_simple a) = []
passed (opens_array a) = []
passed (opens_system a) = a ∷ []
passed (opens_body q x y) = []
passed (joins a b) = a ∷ b ∷ []

pub passed_named : (P : ℕ → Type 0) (l : Line) → Each P (named_in (fields l)) → Each P (passed (naming l))
passed_named P l e = go (naming l) (told l)
  where
    go : (k : Naming) → Told l k → Each P (passed k)
    go silent t = tt
    go (uses_simple a) t = tt
    go (uses_array a) t = tt
    go (uses_procedure a) t = tt
    go (opens_simple a) t = tt
    go (opens_array a) t = tt
    go (opens_system a) t = ((subst (λ l. Each P (named_in (fields l))) t.1 e).0, tt)
    go (opens_body q x y) t = tt
    go (joins a b) t = subst (λ l. Each P (named_in (fields l))) t e

-- what a line makes of the procedures passed on is the same where they are
module _ (Q R : ℕ → List (ℕ × ℕ)) where
  abbrev Same : Naming → Type 0
  Same k = Each (λ m. Q m ≡ R m) (passed k)

  pub procedures_same : (n : ℕ) (k : Naming) → Same k → procedures_by Q n k ≡ procedures_by R n k
  procedures_same n silent e = refl
  procedures_same n (uses_simple a) e = refl
  procedures_same n (uses_array a) e = refl
  procedures_same n (uses_procedure a) e = refl
  procedures_same n (opens_simple a) e = refl
  procedures_same n (opens_array a) e = refl
  procedures_same n (opens_system a) e = refl
  procedures_same n (opens_body q x y) e = refl
  procedures_same n (joins a b) e = ap₂ ◌++◌ e.0 e.1.0

  pub inside_same : (n : ℕ) (k : Naming) (s : Scope) → Same k → inside_by Q n k s ≡ inside_by R n k s
  inside_same n silent s e = refl
  inside_same n (uses_simple a) s e = refl
  inside_same n (uses_array a) s e = refl
  inside_same n (uses_procedure a) s e = refl
  inside_same n (opens_simple a) s e = refl
  inside_same n (opens_array a) s e = refl
  inside_same n (opens_system a) s e = ap (λ r. with_listed r s) e.0
  inside_same n (opens_body q x y) s e = refl
  inside_same n (joins a b) s e = refl

  pub fellows_same : (k : Naming) (qs : List (ℕ × ℕ)) → Same k → fellows_by Q k qs ≡ fellows_by R k qs
  fellows_same silent qs e = refl
  fellows_same (uses_simple a) qs e = refl
  fellows_same (uses_array a) qs e = refl
  fellows_same (uses_procedure a) qs e = refl
  fellows_same (opens_simple a) qs e = refl
  fellows_same (opens_array a) qs e = refl
  fellows_same (opens_system a) qs e = e.0
  fellows_same (opens_body q x y) qs e = refl
  fellows_same (joins a b) qs e = refl
