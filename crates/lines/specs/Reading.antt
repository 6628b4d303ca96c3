-- One line of a sheet: what it says, or why it is refused.
use Rattle.std.specs.Prelude.{ℕ, Bool, false, cond, List, [], ◌∷◌, Some, None, Ok, Err, Option, Result, ◌==◌}
use Rattle.text.specs.Fields.{fields}
use Rattle.text.specs.Spelling.{number}
use Rattle.lines.specs.declared.sorts.Sort.{Sort}
use Rattle.lines.specs.declared.records.Line.{Line}
use Rattle.lines.specs.declared.refusals.Cause.{Cause}
use Rattle.lines.specs.declared.refusals.Cause.TheVariants.{Form, Field, Kind}
use Rattle.lines.specs.Sorts.{sort_of}
use Rattle.lines.specs.Lines.{line_of}

-- what is made of six fields, and something else where there are not just six
abbrev pub of_six : {A : Type 0} → A → (List ℕ → List ℕ → List ℕ → List ℕ → List ℕ → List ℕ → A) → List (List ℕ) → A
of_six other f [] = other
of_six other f (n ∷ []) = other
of_six other f (n ∷ k ∷ []) = other
of_six other f (n ∷ k ∷ a ∷ []) = other
of_six other f (n ∷ k ∷ a ∷ b ∷ []) = other
of_six other f (n ∷ k ∷ a ∷ b ∷ c ∷ []) = other
of_six other f (n ∷ k ∷ a ∷ b ∷ c ∷ d ∷ []) = f n k a b c d
of_six other f (n ∷ k ∷ a ∷ b ∷ c ∷ d ∷ e ∷ es) = other

abbrev pub equals : ℕ → Option ℕ → Bool
equals n None = false
equals n (Some m) = m == n

-- the field spells the number n of a line
abbrev pub is_number : ℕ → List ℕ → Bool
is_number n field = equals n (number 2048 field)

-- the sort of line that a kind field stands for, which is one known character
abbrev pub kind_of : List ℕ → Option Sort
kind_of [] = None
kind_of (c ∷ []) = sort_of c
kind_of (c ∷ d ∷ cs) = None

-- a value, or a refusal where there is none
abbrev pub or_refused : {A B : Type 0} → Option A → Cause → (A → Result B Cause) → Result B Cause
or_refused None cause f = Err cause
or_refused (Some a) cause f = f a

-- What line n says, or the first of its faults in this order: not six fields, a wrong first field, an unknown kind, another field out of its range.
abbrev pub line_reading : ℕ → List ℕ → Result Line Cause
line_reading n l =
    of_six (Err Form)
    (λ first kind a b c d. cond (is_number n first) (or_refused (kind_of kind) Kind (λ sort. or_refused (line_of sort a b c d) Field Ok)) (Err Field))
    (fields l)
