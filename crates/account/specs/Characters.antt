-- The character that stands for the kind of a line.
use Rattle.std.specs.Prelude.{ℕ, Bool, true, false, List, count_by, nat_eq}
use Rattle.lines.specs.declared.records.Line.{Line}
use Rattle.lines.specs.declared.records.Record.{Record}
use Rattle.lines.specs.Sorts.{operator_character, relation_character}

-- t f
abbrev pub truth_character : Bool → ℕ
truth_character true = 116
truth_character false = 102

-- g k x a, the operators, the relations, ?, t f, ! > s ; i p v r e d &
abbrev pub character_of : Line → ℕ
character_of (Line.Global a b) = 103
character_of (Line.Constant k) = 107
character_of (Line.Simple a) = 120
character_of (Line.Element a b) = 97
character_of (Line.Operation o a b) = operator_character o
character_of (Line.Comparison r a b) = relation_character r
character_of (Line.Choice a b c) = 63
character_of (Line.Truth v) = truth_character v
character_of (Line.Negation a) = 33
character_of (Line.Implication a b) = 62
character_of (Line.Assignment a b) = 115
character_of (Line.Sequence a b) = 59
character_of (Line.Branch a b c) = 105
character_of (Line.Call a b c) = 112
character_of (Line.NewSimple a b) = 118
character_of (Line.NewArray a b c) = 114
character_of (Line.System a b) = 101
character_of (Line.Procedure a b c d) = 100
character_of (Line.Join a b) = 38

-- how many of the records are of that kind
abbrev pub count_of : ℕ → List Record → ℕ
count_of character records = count_by (λ r. nat_eq (character_of r.line) character) records
