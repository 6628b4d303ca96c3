-- What each line is in the text, and which lines it names.
use Rattle.std.specs.Prelude.{ℕ, Bool, not, ◌&&◌, ◌||◌, List, [], ◌∷◌, ◌++◌, ◌==◌, slice_index_or}
use Rattle.lines.specs.declared.records.Line.{Line}
use Rattle.script.specs.Tree.{at_line}

-- what a line is in the text; a global is no part of it
pub data Class : Type 0 where
  of_nothing of_place of_expression of_condition of_statement of_declarations : Class

abbrev pub class_of : Line → Class
class_of (Line.Global a b) = of_nothing
class_of (Line.Constant k) = of_expression
class_of (Line.Simple a) = of_place
class_of (Line.Element a b) = of_place
class_of (Line.Operation o a b) = of_expression
class_of (Line.Comparison r a b) = of_condition
class_of (Line.Choice a b c) = of_expression
class_of (Line.Truth b) = of_condition
class_of (Line.Negation a) = of_condition
class_of (Line.Implication a b) = of_condition
class_of (Line.Assignment a b) = of_statement
class_of (Line.Sequence a b) = of_statement
class_of (Line.Branch a b c) = of_statement
class_of (Line.Call a b c) = of_statement
class_of (Line.NewSimple a b) = of_statement
class_of (Line.NewArray a b c) = of_statement
class_of (Line.System a b) = of_statement
class_of (Line.Procedure a b c d) = of_declarations
class_of (Line.Join a b) = of_declarations

-- the classes told apart by numbers, of no meaning but that
abbrev rank : Class → ℕ
rank of_nothing = 0
rank of_place = 1
rank of_expression = 2
rank of_condition = 3
rank of_statement = 4
rank of_declarations = 5

abbrev pub same_class : Class → Class → Bool
same_class c d = rank c == rank d

-- a global is nothing in the text
abbrev pub is_nothing : Class → Bool
is_nothing c = same_class c of_nothing

-- the class wanted, the class at hand: they are the same, or a variable stands for the expression that its word is
abbrev pub fits : Class → Class → Bool
fits w c = not (is_nothing c) && (same_class w c || (same_class w of_expression && same_class c of_place))

abbrev pub is_statement : Class → Bool
is_statement c = fits of_statement c

-- a field of a line that names another line: the class wanted there, and that line's number
abbrev pub Field : Type 0
Field = Class × ℕ

abbrev pub fields : Line → List Field
fields (Line.Global a b) = []
fields (Line.Constant k) = []
fields (Line.Simple a) = []
fields (Line.Element a b) = (of_expression, b) ∷ []
fields (Line.Operation o a b) = (of_expression, a) ∷ (of_expression, b) ∷ []
fields (Line.Comparison r a b) = (of_expression, a) ∷ (of_expression, b) ∷ []
fields (Line.Choice a b c) = (of_condition, a) ∷ (of_expression, b) ∷ (of_expression, c) ∷ []
fields (Line.Truth b) = []
fields (Line.Negation a) = (of_condition, a) ∷ []
fields (Line.Implication a b) = (of_condition, a) ∷ (of_condition, b) ∷ []
fields (Line.Assignment a b) = (of_place, a) ∷ (of_expression, b) ∷ []
fields (Line.Sequence a b) = (of_statement, a) ∷ (of_statement, b) ∷ []
fields (Line.Branch a b c) = (of_condition, a) ∷ (of_statement, b) ∷ (of_statement, c) ∷ []
fields (Line.Call a b c) = (of_expression, b) ∷ (of_place, c) ∷ []
fields (Line.NewSimple a b) = (of_statement, b) ∷ []
fields (Line.NewArray a b c) = (of_statement, c) ∷ []
fields (Line.System a b) = (of_declarations, a) ∷ (of_statement, b) ∷ []
fields (Line.Procedure a b c d) = (of_statement, d) ∷ []
fields (Line.Join a b) = (of_declarations, a) ∷ (of_declarations, b) ∷ []

-- the lines that fields name
abbrev pub named_in : List Field → List ℕ
named_in [] = []
named_in (f ∷ fs) = f.1 ∷ named_in fs

-- the lines of the trees at the lines ms, one after another; ts has the tree of each line
abbrev pub gathered : List (List ℕ) → List ℕ → List ℕ
gathered ts [] = []
gathered ts (m ∷ ms) = slice_index_or ts m [] ++ gathered ts ms

-- the tree at line n, from those of the lines before it
abbrev pub tree_of : ℕ → List (List ℕ) → Line → List ℕ
tree_of n ts l = n ∷ gathered ts (named_in (fields l))

-- the lines of the tree at line n: its own, and those of the trees at the lines that it names
abbrev pub tree : (ℕ → Line) → ℕ → List ℕ
tree = at_line tree_of
