-- The line of text that spells a case: an operation, two words and what they are to give, parted by single spaces.
use Rattle.std.specs.Prelude.{◌≡◌, ℕ, ◌-◌, ◌<◌, ◌⊎◌, Bool, true, false, List, ℤ, pos, negsuc, Some, Ok, Err, Result, ◌==◌, codes, length}
use Rattle.std.specs.List.{position_or_len, before_first, after_first}
use Rattle.std.specs.Str.Parse.{IsNumeral, signed_digits_value, without_leading_sign}
use Rattle.kinds.specs.declared.fault.ArithmeticFault.{ArithmeticFault}
use Rattle.kinds.specs.declared.fault.ArithmeticFault.TheVariants.{OutOfRange, ZeroDivisor}
use Rattle.vectors.specs.declared.answer.Value.{Value}
use Rattle.vectors.specs.declared.answer.Value.TheVariants.{Word, Truth}
use Rattle.vectors.specs.declared.answer.Operation.{Operation}
use Rattle.vectors.specs.declared.answer.Operation.TheVariants.{Add, Subtract, Multiply, Divide, Equal, Less}
use Rattle.vectors.specs.declared.unread.Unread.{Unread}
use Rattle.vectors.specs.declared.case.Case.{Case}
use Rattle.vectors.specs.Cases.{truth}
use Rattle.vectors.specs.Names.{name_of}

-- the word of a number from -2147483648 to 4294967295: itself, and of a negative one 4294967296 more (`negsuc n` is -(n + 1))
abbrev pub WordOf : ℤ → ℕ → Type 0
WordOf (pos n) w = (n < 4294967296) × (w ≡ n)
WordOf (negsuc n) w = (n < 2147483648) × (w ≡ 4294967295 - n)

-- a text says a word by its number in decimal, with a sign in front or none
abbrev pub SaysWord : List ℕ → ℕ → Type 0
SaysWord text w = IsNumeral 10 (without_leading_sign text) × WordOf (signed_digits_value 10 text) w

abbrev pub compares : Operation → Bool
compares Add = false
compares Subtract = false
compares Multiply = false
compares Divide = false
compares Equal = true
compares Less = true

-- a comparison's answer is 1 or 0, and any other operation's a word
abbrev pub Valued : Operation → ℕ → Value → Type 0
Valued o w (Word v) = (compares o ≡ false) × (v ≡ w)
Valued o w (Truth t) = (compares o ≡ true) × (truth w ≡ Some (Truth t))

abbrev pub SaysAnswer : Operation → List ℕ → Result Value ArithmeticFault → Type 0
SaysAnswer o text (Err OutOfRange) = text ≡ codes "out"
SaysAnswer o text (Err ZeroDivisor) = (text ≡ codes "zero") ⊎ (text ≡ codes "nan")
SaysAnswer o text (Ok v) = (w : ℕ) × SaysWord text w × Valued o w v

-- the parts before and after the first space, of a text that has one
abbrev pub is_space : ℕ → Bool
is_space b = b == 32

abbrev pub HasSpace : List ℕ → Type 0
HasSpace text = position_or_len is_space text < length text

abbrev pub first : List ℕ → List ℕ
first text = before_first is_space text

abbrev pub rest : List ℕ → List ℕ
rest text = after_first is_space text

-- the case is one of the operation, and the texts say its two words and what is wanted
abbrev pub IsSaid : Operation → List ℕ → List ℕ → List ℕ → Case → Type 0
IsSaid o a b answer c = (c.operation ≡ o) × SaysWord a c.a × SaysWord b c.b × SaysAnswer o answer c.wanted

-- the line spells the case
abbrev pub Spells : List ℕ → Case → Type 0
Spells line c =
    HasSpace line × HasSpace (rest line) × HasSpace (rest (rest line)) × (first line ≡ name_of c.operation)
    × IsSaid c.operation (first (rest line)) (first (rest (rest line))) (rest (rest (rest line))) c

-- a case is read from a line that spells it, and from no other
abbrev pub IsSpelled : List ℕ → Result Case Unread → Type 0
IsSpelled line (Ok c) = Spells line c
IsSpelled line (Err _) = (c : Case) → Spells line c → ⊥
