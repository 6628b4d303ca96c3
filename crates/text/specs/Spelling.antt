-- Numbers as a sheet spells them: in decimal, with no leading zero and no plus, a minus before the negative ones, and no minus before 0.
-- `decimal n` and `signed_decimal z` are the library's spellings of a whole number from 0 and of an integer.
use Rattle.std.specs.Prelude.{◌≡◌, ℕ, zero, suc, ◌^◌, ◌<◌, ◌≤◌, Bool, false, cond, not, ◌&&◌, List, [], ◌∷◌, ℤ, pos, negsuc, Some, None, decimal, Option, ◌==◌, ◌≢◌, nat_le}
use Rattle.std.specs.Int.Signed.{mag}
use Rattle.std.specs.Fmt.{signed_decimal}
use Rattle.std.specs.Str.Parse.{digits_value}
use Rattle.std.specs.Str.{all_ascii_digits}

-- What a field says as a number of at most `most`: the number whose spelling it is, or nothing where it is the spelling of none.
abbrev pub SaysNumber : ℕ → List ℕ → Option ℕ → Type 0
SaysNumber most field (Some n) = (field ≡ decimal n) × (n ≤ most)
SaysNumber most field None = (n : ℕ) → n ≤ most → field ≢ decimal n

-- The same of an integer from -2^31 to 2^31 - 1 (the magnitude of -n - 1 is n).
abbrev pub SaysInteger : List ℕ → Option ℤ → Type 0
SaysInteger field (Some z) = (field ≡ signed_decimal z) × (mag z < 2 ^ 31)
SaysInteger field None = (z : ℤ) → mag z < 2 ^ 31 → field ≢ signed_decimal z

-- Both as functions, for other definitions to compute with.

-- one digit, or several with no zero in front
abbrev pub spelled : List ℕ → Bool
spelled [] = false
spelled (c ∷ []) = all_ascii_digits (c ∷ [])
spelled (c ∷ d ∷ cs) = not (c == 48) && all_ascii_digits (c ∷ d ∷ cs)

-- the number that a field spells, if it is at most `most`
abbrev pub number : ℕ → List ℕ → Option ℕ
number most field = cond (spelled field && nat_le (digits_value 10 field) most) (Some (digits_value 10 field)) None

abbrev pub negative : Option ℕ → Option ℤ
negative None = None
negative (Some zero) = None
negative (Some (suc n)) = Some (negsuc n)

abbrev pub positive : Option ℕ → Option ℤ
positive None = None
positive (Some n) = Some (pos n)

-- the integer that a field spells (45 is the minus)
abbrev pub integer : List ℕ → Option ℤ
integer [] = None
integer (c ∷ cs) = cond (c == 45) (negative (number 2147483648 cs)) (positive (number 2147483647 (c ∷ cs)))
