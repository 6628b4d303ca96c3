-- How long a line is.
use Rattle.std.proofs.Common.{◌≡◌, ℕ, ◌^◌, ◌<◌, ◌≤◌, Bool, true, cond, [], ◌∷◌, ◌++◌, length, Ok, Err, Result, decimal, sym, refl, ap, ◌∙◌, subst, length-append, arith}
use Rattle.std.proofs.lemmas.Fmt.{length-decimal-le}
use Rattle.std.specs.Result.{IsOk}
use Rattle.text.specs.Written.{spelling}
use Rattle.text.specs.declared.written.WrittenLine.{WrittenLine}

ten_digits : (n : ℕ) → n < 2 ^ 32 → length (decimal n) ≤ 10
ten_digits n h = length-decimal-le 10 n (omega arith) (omega (arith, h)) (omega (arith, h))

pub short : (l : WrittenLine) → l.first < 2 ^ 32 → l.second < 2 ^ 32 → l.third < 2 ^ 32 → length (spelling l) ≤ 35
short l f s t =
    let a = decimal l.first in let b = decimal l.second in let c = decimal l.third in
    let x = length-append (l.letter ∷ 44 ∷ a) ((44 ∷ b) ++ ((44 ∷ c) ++ 10 ∷ [])) in
    let y = length-append (44 ∷ b) ((44 ∷ c) ++ 10 ∷ []) in
    let z = length-append (44 ∷ c) (10 ∷ []) in
    let p = ten_digits l.first f in let q = ten_digits l.second s in let r = ten_digits l.third t in
    omega (arith, x, y, z, p, q, r)

pub fits : {T E : Type 0} (r : Result T E) (x : T) (y : E) (b : Bool) → r ≡ cond b (Ok x) (Err y) → b ≡ true → IsOk r
fits r x y b e t = subst IsOk (sym (e ∙ ap (λ c. cond c (Ok x) (Err y)) t)) refl
