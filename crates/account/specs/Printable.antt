-- As much of a text as can be printed: its bytes up to the first that is none of the printable ones, 32 to 126.
use Rattle.std.specs.Prelude.{ℕ, Bool, ◌&&◌, List, take, nat_le}
use Rattle.std.specs.List.{prefix_len}

abbrev pub is_printable : ℕ → Bool
is_printable b = nat_le 32 b && nat_le b 126

abbrev pub printable_front : List ℕ → List ℕ
printable_front text = take (prefix_len is_printable text) text
