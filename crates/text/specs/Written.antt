-- Lines that are written for a reader: a letter and three numbers, as `f,0,0,4`.
use Rattle.std.specs.Prelude.{ℕ, ◌+◌, cond, List, [], ◌∷◌, ◌++◌, length, take, drop, Some, None, decimal, codes, Option, nat_lt}
use Rattle.text.specs.declared.written.WrittenLine.{WrittenLine}
use Rattle.text.specs.declared.written.WriteCause.{WriteCause}
use Rattle.text.specs.declared.written.WriteCause.TheVariants.{BufferTooShort}

-- the number of a cause for which a line is not written
abbrev pub number_of : WriteCause → ℕ
number_of BufferTooShort = 20

-- what it means, in plain words
abbrev pub meaning_of : WriteCause → List ℕ
meaning_of BufferTooShort = codes "the buffer is too short for the line"

-- the bytes of a line: its letter, each number after a comma (44), spelled as a sheet's numbers are, and byte 10
abbrev pub spelling : WrittenLine → List ℕ
spelling l = l.letter ∷ (44 ∷ decimal l.first) ++ ((44 ∷ decimal l.second) ++ ((44 ∷ decimal l.third) ++ 10 ∷ []))

-- what a line prints as: its bytes, where its letter is one of ASCII; of another letter nothing is said
abbrev pub printed : WrittenLine → Option (List ℕ)
printed l = cond (nat_lt l.letter 128) (Some (spelling l)) None

-- a buffer with these bytes from the place `at` on, and else as it was
abbrev pub placed : ℕ → List ℕ → List ℕ → List ℕ
placed at bytes buffer = take at buffer ++ (bytes ++ drop (at + length bytes) buffer)
