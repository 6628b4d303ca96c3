-- The lines of a text, from where its first byte 10 is.
use Rattle.std.proofs.Common.{◌≡◌, ℕ, zero, suc, ◌+◌, ◌-◌, ◌<◌, false, eqb, List, [], ◌∷◌, ◌++◌, length, Some, None, refl, ap, ◌∙◌, arith, rules}
use Rattle.std.specs.List.{slice_get}
use Rattle.text.specs.Cutting.{Absent, CutAt}
use Rattle.text.specs.Lines.{closed, unclosed, rows, if_closed}

rows_closed : (xs ys : List ℕ) → Absent 10 xs → rows (xs ++ 10 ∷ ys) ≡ closed xs ∷ rows ys
rows_closed [] ys h = refl
rows_closed (x ∷ xs) ys h =
    let t = rows_closed xs ys (λ k l. h (suc k) (omega arith)) in
    let n = h 0 (omega arith) in
    let e : eqb x 10 ≡ false = grind (arith, rules) in
    rw (e, t) refl

pub rows_cut : (text front back : List ℕ) → CutAt 10 text front back → rows text ≡ closed front ∷ rows back
rows_cut text front back c = ap rows c.whole ∙ rows_closed front back c.lacks

pub rows_unclosed : (xs : List ℕ) → 0 < length xs → Absent 10 xs → rows xs ≡ unclosed xs ∷ []
rows_unclosed [] l h = absurd (omega arith)
rows_unclosed (x ∷ []) l h = let n = h 0 (omega arith) in grind (arith, rules)
rows_unclosed (x ∷ y ∷ xs) l h =
    let t = rows_unclosed (y ∷ xs) (omega arith) (λ k m. h (suc k) (omega arith)) in
    let n = h 0 (omega arith) in
    let e : eqb x 10 ≡ false = grind (arith, rules) in
    rw (e, t) refl

-- in a text without a byte 10 no line is closed
pub none_closed : (xs : List ℕ) (k : ℕ) → Absent 10 xs → if_closed (slice_get (rows xs) k) ≡ None
none_closed [] k h = refl
none_closed (x ∷ xs) zero h = rw (rows_unclosed (x ∷ xs) (omega arith) h) refl
none_closed (x ∷ xs) (suc k) h = rw (rows_unclosed (x ∷ xs) (omega arith) h) refl

-- past the first of the lines, with `passed` of them behind
pub past_first : (text front back : List ℕ) (number passed : ℕ) → passed < number → CutAt 10 text front back → slice_get (rows text) (number - passed) ≡ slice_get (rows back) (number - (passed + 1))
past_first text front back number passed l c =
    let s : number - passed ≡ suc (number - (passed + 1)) = omega arith in
    rw (s, rows_cut text front back c) refl

pub first_closed : (text front back : List ℕ) (k : ℕ) → k ≡ 0 → CutAt 10 text front back → if_closed (slice_get (rows text) k) ≡ Some front
first_closed text front back k z c = rw (z, rows_cut text front back c) refl
