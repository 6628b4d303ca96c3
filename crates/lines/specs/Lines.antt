-- What a line of each sort says, from its four fields.
use Rattle.std.specs.Prelude.{ℕ, List, Some, Option}
use Rattle.lines.specs.declared.sorts.ExpressionSort.{ExpressionSort}
use Rattle.lines.specs.declared.sorts.ExpressionSort.TheVariants as Word
use Rattle.lines.specs.declared.sorts.ConditionSort.{ConditionSort}
use Rattle.lines.specs.declared.sorts.ConditionSort.TheVariants as Test
use Rattle.lines.specs.declared.sorts.StatementSort.{StatementSort}
use Rattle.lines.specs.declared.sorts.StatementSort.TheVariants as Act
use Rattle.lines.specs.declared.sorts.DeclarationSort.{DeclarationSort}
use Rattle.lines.specs.declared.sorts.DeclarationSort.TheVariants as Declares
use Rattle.lines.specs.declared.sorts.Sort.{Sort}
use Rattle.lines.specs.declared.records.Line.{Line}
use Rattle.lines.specs.Ranges.{given, no_fields, a_name, a_constant, one_line, two_lines, three_lines, name_and_length, name_and_line, name_and_two_lines, name_length_line, three_names_and_line}

abbrev pub expression_line : ExpressionSort → List ℕ → List ℕ → List ℕ → List ℕ → Option Line
expression_line Word.Constant a b c d = given (a_constant a b c d) (λ z. Some (Line.Constant z))
expression_line Word.Simple a b c d = given (a_name a b c d) (λ n. Some (Line.Simple n))
expression_line Word.Element a b c d = given (name_and_line a b c d) (λ p. Some (Line.Element p.0 p.1))
expression_line (Word.Operation o) a b c d = given (two_lines a b c d) (λ p. Some (Line.Operation o p.0 p.1))
expression_line Word.Choice a b c d = given (three_lines a b c d) (λ p. Some (Line.Choice p.0 p.1 p.2))

abbrev pub condition_line : ConditionSort → List ℕ → List ℕ → List ℕ → List ℕ → Option Line
condition_line (Test.Truth v) a b c d = given (no_fields a b c d) (λ _. Some (Line.Truth v))
condition_line (Test.Comparison r) a b c d = given (two_lines a b c d) (λ p. Some (Line.Comparison r p.0 p.1))
condition_line Test.Negation a b c d = given (one_line a b c d) (λ l. Some (Line.Negation l))
condition_line Test.Implication a b c d = given (two_lines a b c d) (λ p. Some (Line.Implication p.0 p.1))

abbrev pub statement_line : StatementSort → List ℕ → List ℕ → List ℕ → List ℕ → Option Line
statement_line Act.Assignment a b c d = given (two_lines a b c d) (λ p. Some (Line.Assignment p.0 p.1))
statement_line Act.Sequence a b c d = given (two_lines a b c d) (λ p. Some (Line.Sequence p.0 p.1))
statement_line Act.Branch a b c d = given (three_lines a b c d) (λ p. Some (Line.Branch p.0 p.1 p.2))
statement_line Act.Call a b c d = given (name_and_two_lines a b c d) (λ p. Some (Line.Call p.0 p.1 p.2))
statement_line Act.NewSimple a b c d = given (name_and_line a b c d) (λ p. Some (Line.NewSimple p.0 p.1))
statement_line Act.NewArray a b c d = given (name_length_line a b c d) (λ p. Some (Line.NewArray p.0 p.1 p.2))
statement_line Act.System a b c d = given (two_lines a b c d) (λ p. Some (Line.System p.0 p.1))

abbrev pub declaration_line : DeclarationSort → List ℕ → List ℕ → List ℕ → List ℕ → Option Line
declaration_line Declares.Procedure a b c d = given (three_names_and_line a b c d) (λ p. Some (Line.Procedure p.0 p.1 p.2 p.3))
declaration_line Declares.Join a b c d = given (two_lines a b c d) (λ p. Some (Line.Join p.0 p.1))

-- the line that four fields of that sort say, or nothing where one of them is no number of its range
abbrev pub line_of : Sort → List ℕ → List ℕ → List ℕ → List ℕ → Option Line
line_of Sort.Global a b c d = given (name_and_length a b c d) (λ p. Some (Line.Global p.0 p.1))
line_of (Sort.Expression s) a b c d = expression_line s a b c d
line_of (Sort.Condition s) a b c d = condition_line s a b c d
line_of (Sort.Statement s) a b c d = statement_line s a b c d
line_of (Sort.Declaration s) a b c d = declaration_line s a b c d
