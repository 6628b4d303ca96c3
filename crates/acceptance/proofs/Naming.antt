-- Whether a line is named, and the counts that the tests take.
use Rattle.std.proofs.Common.{◌≡◌, ℕ, zero, suc, ◌+◌, Bool, true, false, not, ◌||◌, eqb, ltb, List, [], ◌∷◌, ◌++◌, sym, refl, ap, ◌∙◌, ap₂, arith}
use Rattle.std.proofs.lemmas.Bool.{lt-ltb, ne_eqb}
use Rattle.std.proofs.Math.Bool.{or_assoc, or_comm}
use Rattle.lines.specs.declared.records.Line.{Line}
use Rattle.script.specs.Fields.{fields, named_in}
use Rattle.script.specs.Lists.{one, times}
use Rattle.script.specs.Tests.{again, any_below, named}
use Rattle.acceptance.specs.Naming.{stands, stands_again}

one_or : (b : Bool) (t : ℕ) → ltb 0 (one b + t) ≡ (b || ltb 0 t)
one_or true t = lt-ltb 0 (one true + t) (omega arith)
one_or false t = let e : 0 + t ≡ t = omega arith in ap (ltb 0) e

pub stands_times : (m : ℕ) (xs : List ℕ) → stands m xs ≡ ltb 0 (times m xs)
stands_times m [] = refl
stands_times m (x ∷ xs) = ap (λ b. eqb x m || b) (stands_times m xs) ∙ sym (one_or (eqb x m) (times m xs))

pub again_stands : (before ms : List ℕ) → stands_again before ms ≡ again before ms
again_stands before [] = refl
again_stands before (m ∷ ms) = ap₂ ◌||◌ (stands_times m before) (again_stands (m ∷ before) ms)

none_count : (t : ℕ) → not (ltb 0 t) ≡ eqb t 0
none_count zero = refl
none_count (suc t) = ap not (lt-ltb 0 (suc t) (omega arith)) ∙ sym (ne_eqb (suc t) 0 (λ e. omega arith))

pub none_named : (m : ℕ) (xs : List ℕ) → not (stands m xs) ≡ eqb (times m xs) 0
none_named m xs = ap not (stands_times m xs) ∙ none_count (times m xs)

stands_append : (m : ℕ) (xs ys : List ℕ) → stands m (xs ++ ys) ≡ (stands m xs || stands m ys)
stands_append m [] ys = refl
stands_append m (x ∷ xs) ys = ap (λ b. eqb x m || b) (stands_append m xs ys) ∙ sym (or_assoc (eqb x m) (stands m xs) (stands m ys))

-- a line below n names m
pub any_names : (L : ℕ → Line) (m n : ℕ) → any_below (λ k. stands m (named_in (fields (L k)))) n ≡ stands m (named L n)
any_names L m zero = refl
any_names L m (suc n) =
    ap (λ b. stands m (named_in (fields (L n))) || b) (any_names L m n)
    ∙ (or_comm (stands m (named_in (fields (L n)))) (stands m (named L n)) ∙ sym (stands_append m (named L n) (named_in (fields (L n)))))
