-- From the lines of a sheet to its script: the lines' parts are grown in line order, each from those of earlier lines.
use Rattle.std.specs.Prelude.{ℕ, zero, suc, List, [], ◌∷◌, ◌++◌, slice_index_or}
use Rattle.lines.specs.declared.records.Line.{Line}
use Rattle.script.specs.Script.{Place, simple, element, Expression, constant, word_of, work, choose, Condition, truth, compared, negated, implies}
use Rattle.script.specs.Script.{Statement, assign, both, branch, call, new_simple, new_array, system, Declarations, procedure, joined}

-- what a line is, with the lines that it names: `other` where it is no part of a script
pub data Part : Type 0 where
  place : Place → Part
  expression : Expression → Part
  condition : Condition → Part
  statement : Statement → Part
  declarations : Declarations → Part
  other : Part

abbrev pub as_place : Part → (Place → Part) → Part
as_place (place p) f = f p
as_place (expression e) f = other
as_place (condition c) f = other
as_place (statement s) f = other
as_place (declarations d) f = other
as_place other f = other

abbrev pub as_expression : Part → (Expression → Part) → Part
as_expression (place p) f = f (word_of p)
as_expression (expression e) f = f e
as_expression (condition c) f = other
as_expression (statement s) f = other
as_expression (declarations d) f = other
as_expression other f = other

abbrev pub as_condition : Part → (Condition → Part) → Part
as_condition (place p) f = other
as_condition (expression e) f = other
as_condition (condition c) f = f c
as_condition (statement s) f = other
as_condition (declarations d) f = other
as_condition other f = other

abbrev pub as_statement : Part → (Statement → Part) → Part
as_statement (place p) f = other
as_statement (expression e) f = other
as_statement (condition c) f = other
as_statement (statement s) f = f s
as_statement (declarations d) f = other
as_statement other f = other

abbrev pub as_declarations : Part → (Declarations → Part) → Part
as_declarations (place p) f = other
as_declarations (expression e) f = other
as_declarations (condition c) f = other
as_declarations (statement s) f = other
as_declarations (declarations d) f = f d
as_declarations other f = other

-- the part that line n is, from the parts of the lines before it (line m at place m; no line is 0)
abbrev pub grown : ℕ → List Part → Line → Part
grown n ps (Line.Global a b) = other
grown n ps (Line.Constant k) = expression (constant k)
grown n ps (Line.Simple a) = place (simple a)
grown n ps (Line.Element a b) = as_expression (slice_index_or ps b other) (λ i. place (element a i))
grown n ps (Line.Operation o a b) = as_expression (slice_index_or ps a other) (λ e. as_expression (slice_index_or ps b other) (λ f. expression (work o e f)))
grown n ps (Line.Comparison r a b) = as_expression (slice_index_or ps a other) (λ e. as_expression (slice_index_or ps b other) (λ f. condition (compared r e f)))
grown n ps (Line.Choice a b c) =
    as_condition (slice_index_or ps a other) (λ t. as_expression (slice_index_or ps b other) (λ e. as_expression (slice_index_or ps c other) (λ f. expression (choose t e f))))
grown n ps (Line.Truth b) = condition (truth b)
grown n ps (Line.Negation a) = as_condition (slice_index_or ps a other) (λ t. condition (negated t))
grown n ps (Line.Implication a b) = as_condition (slice_index_or ps a other) (λ t. as_condition (slice_index_or ps b other) (λ u. condition (implies t u)))
grown n ps (Line.Assignment a b) = as_place (slice_index_or ps a other) (λ p. as_expression (slice_index_or ps b other) (λ e. statement (assign n p e)))
grown n ps (Line.Sequence a b) = as_statement (slice_index_or ps a other) (λ s. as_statement (slice_index_or ps b other) (λ t. statement (both n s t)))
grown n ps (Line.Branch a b c) =
    as_condition (slice_index_or ps a other) (λ t. as_statement (slice_index_or ps b other) (λ s. as_statement (slice_index_or ps c other) (λ u. statement (branch n t s u))))
grown n ps (Line.Call a b c) = as_expression (slice_index_or ps b other) (λ e. as_place (slice_index_or ps c other) (λ p. statement (call n a e p)))
grown n ps (Line.NewSimple a b) = as_statement (slice_index_or ps b other) (λ s. statement (new_simple n a s))
grown n ps (Line.NewArray a b c) = as_statement (slice_index_or ps c other) (λ s. statement (new_array n a b s))
grown n ps (Line.System a b) = as_declarations (slice_index_or ps a other) (λ d. as_statement (slice_index_or ps b other) (λ s. statement (system n d s)))
grown n ps (Line.Procedure a b c d) = as_statement (slice_index_or ps d other) (λ s. declarations (procedure n a b c s))
grown n ps (Line.Join a b) = as_declarations (slice_index_or ps a other) (λ d. as_declarations (slice_index_or ps b other) (λ e. declarations (joined d e)))

-- Lines are numbered from 1; in place 0, and behind the last, there is as good as none: a line that names nothing and that none can name.
abbrev pub nought : Line
nought = Line.Global 0 0

abbrev pub line : List Line → ℕ → Line
line ls n = slice_index_or (nought ∷ ls) n nought

-- something of each line, in line order, each from what the lines before it have (line m's at place m)
module _ {A : Type 0} (step : ℕ → List A → Line → A) (L : ℕ → Line) where
  abbrev pub grow : ℕ → List A
  grow zero = []
  grow (suc n) = let g = grow n in g ++ (step n g (L n) ∷ [])

  abbrev pub at_line : ℕ → A
  at_line n = step n (grow n) (L n)

-- the part of the tree that line n is
abbrev pub part : (ℕ → Line) → ℕ → Part
part = at_line grown
