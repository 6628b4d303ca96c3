-- What the spelling of a number is like, and what `parse` reads of it.
use Rattle.std.proofs.Common.{◌≡◌, ℕ, zero, suc, ◌^◌, ◌<◌, ◌≤◌, Bool, true, false, cond, ◌&&◌, eqb, leb, List, [], ◌∷◌, length, get_or, ℤ, pos, negsuc, Some, None, Ok, Err, IsUtf8, decimal, Option, Result, sym, refl, ap, ◌∙◌, subst, arith, rules}
use Rattle.std.specs.Str.Parse.{AllDigits, digits_value, ParsesUnsigned}
use Rattle.std.specs.Str.{all_ascii_digits}
use Rattle.std.specs.Result.{result_ok}
use Rattle.text.specs.Spelling.{SaysNumber, SaysInteger, spelled, number, integer, negative, positive}
use Rattle.std.specs.List.{between}
use Rattle.std.proofs.lemmas.Slice.{first_rest}
use Rattle.std.proofs.lemmas.Str.Parse.{IsNumeralModel, numerals_by_value, tells_digits, tells_all_ascii_digits, digit_at, parse_plain}
use Rattle.std.proofs.lemmas.Result.{OkIff-at_ok}
use Rattle.std.proofs.lemmas.Fmt.{decimal_injective, digits_value-decimal, decimal_nonempty, digits_decimal, first_decimal, decimal_digit, decimal-digits_value, parse-decimal, IsAscii-decimal}
use Rattle.std.proofs.lemmas.Str.{IsUtf8-from_ascii}

own : IsNumeralModel (AllDigits 10) (digits_value 10)
own = numerals_by_value _ tells_digits

pub decimal_utf8 : (bs : List ℕ) (n : ℕ) → n < 2 ^ 64 → bs ≡ decimal n → IsUtf8 bs
decimal_utf8 bs n h e = rw e (IsUtf8-from_ascii _ (IsAscii-decimal n h))

pub decimal_plus : (bs : List ℕ) (n : ℕ) → n < 2 ^ 64 → bs ≡ decimal n → (0 < length bs) × (get_or bs 0 0 ≡ 43 → ⊥)
decimal_plus bs n h e = rw e (decimal_nonempty n h, λ p. omega (arith, digit_at (decimal n) 0 (digits_decimal own n h) (decimal_nonempty n h)))

zero_short : (n : ℕ) → n < 2 ^ 64 → get_or (decimal n) 0 0 ≡ 48 → length (decimal n) ≡ 1
zero_short zero h p = ap length (decimal_digit 0 (omega arith))
zero_short (suc n) h p = absurd (omega (arith, first_decimal (suc n) (omega arith) h))

pub decimal_zero : (bs : List ℕ) (n : ℕ) → n < 2 ^ 64 → bs ≡ decimal n → get_or bs 0 0 ≡ 48 → length bs ≡ 1
decimal_zero bs n h e = rw e (zero_short n h)

-- what `parse` reads of a text with no plus and no zero in front is its number
pub reads_decimal : {E : Type 0} (ts bs : List ℕ) (r : Result ℕ E) (n : ℕ) → ts ≡ bs → ParsesUnsigned 64 10 ts r → (get_or bs 0 0 ≡ 43 → ⊥) → (get_or bs 0 0 ≡ 48 → length bs ≡ 1) → r ≡ Ok n → bs ≡ decimal n
reads_decimal ts bs r n t h p z e =
    let q = OkIff-at_ok r _ _ n (parse_plain own 64 bs r (rw t at h) p) e in
    sym (ap decimal q.1 ∙ decimal-digits_value own bs q.0.0 q.0.1 z q.0.2)

-- and it reads each decimal text
pub reads_back : {E : Type 0} (ts bs : List ℕ) (r : Result ℕ E) (n : ℕ) → ts ≡ bs → ParsesUnsigned 64 10 ts r → n < 2 ^ 64 → bs ≡ decimal n → r ≡ Ok n
reads_back ts bs r n t h l e = parse-decimal 64 n ts r l l (t ∙ e) h

owned : IsNumeralModel (λ ds. all_ascii_digits ds ≡ true) (digits_value 10)
owned = numerals_by_value _ tells_all_ascii_digits

spelled_parts : (bs : List ℕ) → spelled bs ≡ true → (all_ascii_digits bs ≡ true) × (0 < length bs) × (get_or bs 0 0 ≡ 48 → length bs ≡ 1)
spelled_parts [] h = let z : ◌≡◌ {A = ℕ} 0 1 = cc in absurd (omega arith)
spelled_parts (c ∷ []) h = (h, omega arith, λ _. refl)
spelled_parts (c ∷ d ∷ cs) h = (grind (arith, rules), omega arith, λ e. grind (arith, rules))

spelled_from : (bs : List ℕ) → all_ascii_digits bs ≡ true → 0 < length bs → (get_or bs 0 0 ≡ 48 → length bs ≡ 1) → spelled bs ≡ true
spelled_from [] a l z = absurd (omega arith)
spelled_from (c ∷ []) a l z = a
spelled_from (c ∷ d ∷ cs) a l z = grind (arith, rules)

read_by : (most : ℕ) (bs : List ℕ) (b : Bool) → most < 2 ^ 64 → spelled bs && leb (digits_value 10 bs) most ≡ b → SaysNumber most bs (cond b (Some (digits_value 10 bs)) None)
read_by most bs true m e =
    let s : spelled bs ≡ true = grind (arith, rules) in
    let l : digits_value 10 bs ≤ most = grind (arith, rules) in
    let p = spelled_parts bs s in
    (sym (decimal-digits_value owned bs p.0 p.1 p.2 (omega arith)), l)
read_by most bs false m e = λ n l t.
    let d : all_ascii_digits bs ≡ true = rw t (digits_decimal owned n (omega arith)) in
    let v : digits_value 10 bs ≡ n = rw t (digits_value-decimal owned n (omega arith)) in
    let s = spelled_from bs d (decimal_plus bs n (omega arith) t).0 (decimal_zero bs n (omega arith) t) in
    grind (arith, rules)

-- the number that is read is the one whose text it is
pub says_number : (most : ℕ) (bs : List ℕ) → most < 2 ^ 64 → SaysNumber most bs (number most bs)
says_number most bs m = read_by most bs _ m refl

pub number_once : (most : ℕ) (bs : List ℕ) (r s : Option ℕ) → most < 2 ^ 64 → SaysNumber most bs r → SaysNumber most bs s → r ≡ s
number_once most bs (Some x) (Some y) m p q = ap Some (decimal_injective x y (omega arith) (omega arith) (sym p.0 ∙ q.0))
number_once most bs (Some x) None m p q = absurd (q x p.1 p.0)
number_once most bs None (Some y) m p q = absurd (p y q.1 q.0)
number_once most bs None None m p q = refl

pub both_number : (most : ℕ) (bs : List ℕ) (r : Option ℕ) → most < 2 ^ 64 → SaysNumber most bs r → SaysNumber most bs r × (r ≡ number most bs)
both_number most bs r m h = (h, number_once most bs r (number most bs) m h (says_number most bs m))

-- the first byte of a number's spelling is a digit, and so no minus
decimal_front : (n c : ℕ) (cs : List ℕ) → n < 2 ^ 64 → c ≡ 45 → c ∷ cs ≡ decimal n → ⊥
decimal_front n c cs l m e =
    let g : get_or (decimal n) 0 0 ≡ 45 = ap (λ xs. get_or xs 0 0) (sym e) ∙ m in
    omega (arith, digit_at (decimal n) 0 (digits_decimal own n l) (decimal_nonempty n l))

no_negative : (c : ℕ) (cs : List ℕ) → c ≡ 45 → ((n : ℕ) → suc n ≤ 2147483648 → cs ≡ decimal (suc n) → ⊥) → SaysInteger (c ∷ cs) None
no_negative c cs m h (pos n) l e = decimal_front n c cs (omega arith) m e
no_negative c cs m h (negsuc n) l e = h n (omega arith) (cc)

after_minus : (c : ℕ) (cs : List ℕ) (r : Option ℕ) → c ≡ 45 → SaysNumber 2147483648 cs r → SaysInteger (c ∷ cs) (negative r)
after_minus c cs None m h = no_negative c cs m (λ n. h (suc n))
after_minus c cs (Some zero) m h = no_negative c cs m (λ n l e. omega (arith, decimal_injective 0 (suc n) (omega arith) (omega arith) (sym h.0 ∙ e)))
after_minus c cs (Some (suc n)) m h = (rw (m, h.0) refl, omega arith)

no_positive : (c : ℕ) (cs : List ℕ) → (c ≡ 45 → ⊥) → SaysNumber 2147483647 (c ∷ cs) None → SaysInteger (c ∷ cs) None
no_positive c cs m h (pos n) l e = h n (omega arith) e
no_positive c cs m h (negsuc n) l e = m (cc)

with_none : (c : ℕ) (cs : List ℕ) (r : Option ℕ) → (c ≡ 45 → ⊥) → SaysNumber 2147483647 (c ∷ cs) r → SaysInteger (c ∷ cs) (positive r)
with_none c cs None m h = no_positive c cs m h
with_none c cs (Some n) m h = (h.0, omega arith)

integer_by : (c : ℕ) (cs : List ℕ) (b : Bool) → eqb c 45 ≡ b → SaysInteger (c ∷ cs) (cond b (negative (number 2147483648 cs)) (positive (number 2147483647 (c ∷ cs))))
integer_by c cs true e = after_minus c cs _ (grind (arith, rules)) (says_number 2147483648 cs (omega arith))
integer_by c cs false e = with_none c cs _ (grind (arith, rules)) (says_number 2147483647 (c ∷ cs) (omega arith))

empty_says_none : SaysInteger [] None
empty_says_none (pos n) l e = omega (arith, decimal_nonempty n (omega arith), ap length e)
empty_says_none (negsuc n) l e = omega (arith, ap length e)

-- the integer that is read is the one whose spelling it is
pub says_integer : (bs : List ℕ) → SaysInteger bs (integer bs)
says_integer [] = empty_says_none
says_integer (c ∷ cs) = integer_by c cs _ refl

-- what the code does with a minus in front
pub minus_read : (bs : List ℕ) → 0 < length bs → get_or bs 0 0 ≡ 45 → integer bs ≡ negative (number 2147483648 (between 1 (length bs) bs))
minus_read [] l e = absurd (omega arith)
minus_read (c ∷ cs) l e =
    let r : cs ≡ between 1 (length (c ∷ cs)) (c ∷ cs) = cc (first_rest (c ∷ cs) 0 l) in
    rw e (ap (λ xs. negative (number 2147483648 xs)) r)

pub integer_says : (bs : List ℕ) (r : Option ℤ) → r ≡ integer bs → SaysInteger bs r
integer_says bs r e = subst (SaysInteger bs) (sym e) (says_integer bs)

-- The steps of a chain of `ok` and `?`: a result that gave a value, and one that gave none.
pub ok_said : {T E : Type 0} (r : Result T E) (x : T) → Some x ≡ result_ok r → r ≡ Ok x
ok_said (Ok y) x h = cc
ok_said (Err y) x h = let z : ◌≡◌ {A = ℕ} 0 1 = cc in absurd (omega arith)

pub err_said : {T E : Type 0} (r : Result T E) → None ≡ result_ok r → (e : E) × (r ≡ Err e)
err_said (Ok x) h = let z : ◌≡◌ {A = ℕ} 0 1 = cc in absurd (omega arith)
err_said (Err e) h = (e, refl)

pub number_says : (most : ℕ) (bs : List ℕ) (r : Option ℕ) → most < 2 ^ 64 → r ≡ number most bs → SaysNumber most bs r
number_says most bs r m e = rw e (says_number most bs m)

pub no_value : {T E : Type 0} (r : Result T E) (x : T) → None ≡ result_ok r → r ≡ Ok x → ⊥
no_value (Ok y) x h e = let z : ◌≡◌ {A = ℕ} 0 1 = cc in omega arith
no_value (Err y) x h e = let z : ◌≡◌ {A = ℕ} 0 1 = cc in omega arith

-- a field that no number spells
pub spells_none : (most : ℕ) (bs : List ℕ) (r : Option ℕ) → most < 2 ^ 64 → r ≡ None → ((n : ℕ) → n ≤ most → bs ≡ decimal n → ⊥) → SaysNumber most bs r × (r ≡ number most bs)
spells_none most bs r m e h = rw e (both_number most bs None m h)
