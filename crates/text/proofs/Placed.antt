-- Bytes put into a buffer one after another.
use Rattle.std.proofs.Common.{◌≡◌, ℕ, suc, ◌+◌, ◌/◌, ◌%◌, ◌^◌, ◌<◌, ◌≤◌, List, [], ◌∷◌, ◌++◌, length, take, drop, set, decimal, sym, ap, ◌∙◌, append_assoc, arith}
use Rattle.std.proofs.lemmas.List.{length-append, length-take-le, take_at, drop_at, drop-drop, take-append-drop, set_split, length_push}
use Rattle.std.proofs.lemmas.Fmt.{decimal_digit, decimal_step}
use Rattle.text.specs.declared.written.WrittenLine.{WrittenLine}
use Rattle.text.specs.Written.{placed, spelling}

pub placed_set : (at b : ℕ) (old : List ℕ) → at < length old → set old at b ≡ placed at (b ∷ []) old
placed_set at b old l = let e : at + 1 ≡ suc at = omega arith in rw e (set_split old at b l)

-- bytes with what was before them, and what was after their end
pub placed_between : (at end start : ℕ) (bs old b : List ℕ) → start + length bs ≡ end → end ≡ at + length bs
    → take start b ≡ take start old → drop start b ≡ bs ++ drop end old → b ≡ placed at bs old
placed_between at end start bs old b s e before written =
    let same : start ≡ at = omega arith in
    sym (take-append-drop start b) ∙ (ap (λ f. f ++ drop start b) before ∙ (ap (λ t. take start old ++ t) written
    ∙ (ap (λ k. take k old ++ (bs ++ drop end old)) same ∙ ap (λ k. take at old ++ (bs ++ drop k old)) e)))

-- more bytes right after those that were put
pub placed_more : (at next : ℕ) (xs ys old : List ℕ) → next ≡ at + length xs → next ≤ length old → placed next ys (placed at xs old) ≡ placed at (xs ++ ys) old
placed_more at next xs ys old n l =
    let p = take at old ++ xs in
    let r = drop (at + length xs) old in
    let e : length p ≡ at + length xs = length-append (take at old) xs ∙ ap (λ k. k + length xs) (length-take-le at old (omega arith)) in
    let w : take at old ++ (xs ++ r) ≡ p ++ r = sym (append_assoc (take at old) xs r) in
    let front : take (at + length xs) (placed at xs old) ≡ p = ap (take (at + length xs)) w ∙ take_at p r (at + length xs) e in
    let back : drop (at + length xs + length ys) (placed at xs old) ≡ drop (at + length xs + length ys) old =
    ap (drop (at + length xs + length ys)) w ∙ (sym (drop-drop (length ys) (at + length xs) (p ++ r)) ∙ (ap (drop (length ys)) (drop_at p r (at + length xs) e) ∙ drop-drop (length ys) (at + length xs) old)) in
    let m : at + length xs + length ys ≡ at + length (xs ++ ys) = omega (arith, length-append xs ys) in
    rw n (ap (λ f. f ++ (ys ++ drop (at + length xs + length ys) (placed at xs old))) front
    ∙ (ap (λ t. p ++ (ys ++ t)) (back ∙ ap (λ k. drop k old) m)
    ∙ (append_assoc (take at old) xs (ys ++ drop (at + length (xs ++ ys)) old)
    ∙ ap (λ t. take at old ++ t) (sym (append_assoc xs ys (drop (at + length (xs ++ ys)) old))))))

pub digits_one : (n : ℕ) → n < 10 → length (decimal n) ≡ 1
digits_one n l = ap length (decimal_digit n l)

pub digits_more : (n : ℕ) → 10 ≤ n → n < 2 ^ 64 → length (decimal n) ≡ length (decimal (n / 10)) + 1
digits_more n l h = ap length (decimal_step n l h) ∙ length_push (decimal (n / 10)) (48 + n % 10)

pub two_digits_more : (n : ℕ) → 100 ≤ n → n < 2 ^ 64 → length (decimal n) ≡ length (decimal (n / 100)) + 2
two_digits_more n l h =
    let e : length (decimal (n / 10 / 10)) ≡ length (decimal (n / 100)) = ap (λ k. length (decimal k)) (omega arith) in
    omega (arith, digits_more n (omega arith) h, digits_more (n / 10) (omega arith) (omega arith), e)

pub four_digits_more : (n : ℕ) → 10000 ≤ n → n < 2 ^ 64 → length (decimal n) ≡ length (decimal (n / 10000)) + 4
four_digits_more n l h =
    let e : length (decimal (n / 100 / 100)) ≡ length (decimal (n / 10000)) = ap (λ k. length (decimal k)) (omega arith) in
    omega (arith, two_digits_more n (omega arith) h, two_digits_more (n / 100) (omega arith) (omega arith), e)

pub length_spelling : (w : WrittenLine) → length (spelling w) ≡ 5 + length (decimal w.first) + length (decimal w.second) + length (decimal w.third)
length_spelling w = simp length-append (omega arith)

-- what is put in order from the front of a buffer
next_placed : (next : ℕ) (xs ys old b c : List ℕ) → b ≡ placed 0 xs old → c ≡ placed next ys b → next ≡ 0 + length xs → next ≤ length old → c ≡ placed 0 (xs ++ ys) old
next_placed next xs ys old b c p h e l = h ∙ (ap (placed next ys) p ∙ placed_more 0 next xs ys old e l)

-- a line's letter, fields and byte 10 put one after another
pub line_placed : (w : WrittenLine) (old b c d : List ℕ) (at next last : ℕ) → length (spelling w) ≤ length old
    → b ≡ placed 1 (44 ∷ decimal w.first) (set old 0 w.letter) → at ≡ 1 + (1 + length (decimal w.first))
    → c ≡ placed at (44 ∷ decimal w.second) b → next ≡ at + (1 + length (decimal w.second))
    → d ≡ placed next (44 ∷ decimal w.third) c → last ≡ next + (1 + length (decimal w.third)) → length d ≡ length old
    → set d last 10 ≡ placed 0 (spelling w) old
line_placed w old b c d at next last fits pb eb pc ec pd ed kept =
    let n = length_spelling w in
    let f = 44 ∷ decimal w.first in
    let g = 44 ∷ decimal w.second in
    let h = 44 ∷ decimal w.third in
    let letter = w.letter ∷ [] in
    let s1 = placed_set 0 w.letter old (omega arith) in
    let s2 = next_placed 1 letter f old _ b s1 pb (omega arith) (omega arith) in
    let s3 = next_placed at (letter ++ f) g old b c s2 pc (omega arith) (omega arith) in
    let s4 = next_placed next (letter ++ f ++ g) h old c d s3 pd (omega (arith, length-append f g)) (omega arith) in
    let s5 = next_placed last (letter ++ f ++ g ++ h) (10 ∷ []) old d _ s4 (placed_set last 10 d (omega arith)) (omega (arith, length-append f g, length-append (f ++ g) h)) (omega arith) in
    let whole : letter ++ f ++ g ++ h ++ 10 ∷ [] ≡ spelling w = simp append_assoc in
    s5 ∙ ap (λ bs. placed 0 bs old) whole
