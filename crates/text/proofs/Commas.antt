-- The fields of a line, from where its first comma is.
use Rattle.std.proofs.Common.{◌≡◌, ℕ, suc, ◌<◌, true, false, cond, eqb, List, [], ◌∷◌, ◌++◌, length, Some, None, Option, refl, ap, ◌∙◌, arith, rules, MatchOption}
use Rattle.text.specs.Cutting.{Absent, CutAt}
use Rattle.text.specs.Fields.{onto, fields}

pub fields_last : (xs : List ℕ) → Absent 44 xs → fields xs ≡ xs ∷ []
fields_last [] h = refl
fields_last (x ∷ xs) h =
    let t = fields_last xs (λ k l. h (suc k) (omega arith)) in
    let n = h 0 (omega arith) in
    let e : eqb x 44 ≡ false = grind (arith, rules) in
    rw (e, t) refl

fields_first : (xs ys : List ℕ) → Absent 44 xs → fields (xs ++ 44 ∷ ys) ≡ xs ∷ fields ys
fields_first [] ys h = refl
fields_first (x ∷ xs) ys h =
    let t = fields_first xs ys (λ k l. h (suc k) (omega arith)) in
    let n = h 0 (omega arith) in
    let e : eqb x 44 ≡ false = grind (arith, rules) in
    rw (e, t) refl

pub fields_cut : (line front back : List ℕ) → CutAt 44 line front back → fields line ≡ front ∷ fields back
fields_cut line front back c = ap fields c.whole ∙ fields_first front back c.lacks

onto_some : (x : ℕ) (ls : List (List ℕ)) → 0 < length ls → 0 < length (onto x ls)
onto_some x [] l = l
onto_some x (y ∷ ys) l = omega arith

-- a line has at least one field
pub fields_some : (xs : List ℕ) → 0 < length (fields xs)
fields_some [] = omega arith
fields_some (x ∷ xs) = elim (eqb x 44) as (λ b. 0 < length (cond b ([] ∷ fields xs) (onto x (fields xs)))) [ true ↦ omega arith | false ↦ onto_some x (fields xs) (fields_some xs) ]

-- what is known of the answer of a cut at a comma, as fields
pub first_by : {X : Type 0} (line : List ℕ) (front back : X → List ℕ) (o : Option X) → MatchOption o (Absent 44 line) (λ p. CutAt 44 line (front p) (back p)) → MatchOption o (fields line ≡ line ∷ []) (λ p. fields line ≡ front p ∷ fields (back p))
first_by line front back None h = fields_last line h
first_by line front back (Some p) h = fields_cut line (front p) (back p) h
