-- What the program's classes and fields of lines stand for.
use Rattle.std.specs.Prelude.{List, [], ◌∷◌, Some, None, Option}
use Rattle.acceptance.specs.declared.classes.Class.{Class}
use Rattle.acceptance.specs.declared.classes.Class.TheVariants.{Place, Expression, Condition, Statement, Declarations}
use Rattle.acceptance.specs.declared.classes.LineField.{LineField}
use Rattle.acceptance.specs.declared.classes.LineFields.{LineFields}
use Rattle.acceptance.specs.declared.classes.LineFields.TheVariants.{Zero, One, Two, Three}
use Rattle.script.specs.Fields.{Class as Meant, Field, of_nothing, of_place, of_expression, of_condition, of_statement, of_declarations}

-- no class: the line is nothing in the text
abbrev pub class_meant : Option Class → Meant
class_meant None = of_nothing
class_meant (Some Place) = of_place
class_meant (Some Expression) = of_expression
class_meant (Some Condition) = of_condition
class_meant (Some Statement) = of_statement
class_meant (Some Declarations) = of_declarations

abbrev pub field_meant : LineField → Field
field_meant f = (class_meant (Some f.wanted), f.line)

abbrev pub fields_meant : LineFields → List Field
fields_meant Zero = []
fields_meant (One f) = field_meant f ∷ []
fields_meant (Two f g) = field_meant f ∷ field_meant g ∷ []
fields_meant (Three f g h) = field_meant f ∷ field_meant g ∷ field_meant h ∷ []
