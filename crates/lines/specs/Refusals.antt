-- The refusals of a sheet's text and lines: the number and the meaning of each.
use Rattle.std.specs.Prelude.{ℕ, List, codes}
use Rattle.lines.specs.declared.refusals.Cause.{Cause}
use Rattle.lines.specs.declared.refusals.Cause.TheVariants.{TextSize, Form, Field, Kind, Room}

abbrev pub number_of : Cause → ℕ
number_of TextSize = 1
number_of Form = 2
number_of Field = 3
number_of Kind = 4
number_of Room = 5

abbrev pub meaning_of : Cause → List ℕ
meaning_of TextSize = codes "the sheet has no byte, or more than 65536"
meaning_of Form = codes "the line does not end, or has not just six fields"
meaning_of Field = codes "a field is not a number of its range"
meaning_of Kind = codes "the kind is not one known character"
meaning_of Room = codes "the line is past 2048, or no record is left for it"
