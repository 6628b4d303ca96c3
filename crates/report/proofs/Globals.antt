-- The lines of the globals, one more at a time.
use Rattle.std.proofs.Common.{◌≡◌, ℕ, zero, suc, ◌+◌, ◌-◌, ◌<◌, ◌≤◌, List, ◌++◌, length, get_or, drop, slice_index, sym, refl, ap, ◌∙◌, add-one, arith}
use Rattle.std.proofs.lemmas.List.{append_assoc, append-nil, at_drop_all}
use Rattle.lines.specs.declared.records.Line.{Line}
use Rattle.lines.specs.declared.records.Record.{Record}
use Rattle.script.specs.Apart.{heads}
use Rattle.acceptance.specs.Sheet.{lines_of}
use Rattle.acceptance.specs.Scopes.{cells_of}
use Rattle.acceptance.proofs.Listing.{blank, heads_more, heads_stop}
use Rattle.report.specs.Rows.{element_rows, global_rows, row, rows_from}

-- ## An array

module _ (words : List ℕ) (a first i n : ℕ) where
  element_turn : i < n → element_rows words a i (first + i) (n - i) ≡ row 97 a i (slice_index words (first + i)) ++ element_rows words a (i + 1) (first + (i + 1)) (n - (i + 1))
  element_turn h =
      let m = n - (i + 1) in
      let e : n - i ≡ suc m = omega arith in
      let f : suc (first + i) ≡ first + (i + 1) = omega arith in
      ap (λ k. element_rows words a i (first + i) k) e
      ∙ (λ j. row 97 a i (slice_index words (first + i)) ++ element_rows words a (sym (add-one i) j) (f j) m)

  module _ (was all : List ℕ) (inv : (was ++ element_rows words a i (first + i) (n - i)) ≡ all) where
    pub element_more : (now : List ℕ) (w : ℕ) → i < n → w ≡ slice_index words (first + i) → now ≡ was ++ row 97 a i w
        → (now ++ element_rows words a (i + 1) (first + (i + 1)) (n - (i + 1))) ≡ all
    element_more now w h e p =
        let rest = element_rows words a (i + 1) (first + (i + 1)) (n - (i + 1)) in
        ap (λ xs. xs ++ rest) (p ∙ ap (λ x. was ++ row 97 a i x) e)
        ∙ (append_assoc was (row 97 a i (slice_index words (first + i))) rest
        ∙ (ap (λ xs. was ++ xs) (sym (element_turn h)) ∙ inv))

    pub elements_end : n ≤ i → was ≡ all
    elements_end h =
        let e : n - i ≡ 0 = omega arith in
        sym (append-nil was) ∙ (ap (λ k. was ++ element_rows words a i (first + i) k) (sym e) ∙ inv)

-- ## A global

pub is_simple : (words : List ℕ) (c a n : ℕ) → n ≡ 0 → global_rows words c a n ≡ row 120 a 0 (slice_index words c)
is_simple words c a zero h = refl
is_simple words c a (suc n) h = absurd (omega (arith, h))

pub is_array : (words : List ℕ) (c a n : ℕ) → (n ≡ 0 → ⊥) → global_rows words c a n ≡ element_rows words a 0 c n
is_array words c a zero h = absurd (h refl)
is_array words c a (suc n) h = refl

pub one_cell : (n : ℕ) → n ≡ 0 → cells_of n ≡ 1
one_cell zero h = refl
one_cell (suc n) h = absurd (omega (arith, h))

pub some_cells : (n : ℕ) → (n ≡ 0 → ⊥) → cells_of n ≡ n
some_cells zero h = absurd (h refl)
some_cells (suc n) h = refl

-- ## All globals

module _ (words : List ℕ) (rs : List Record) (i first : ℕ) (was all : List ℕ) (inv : (was ++ rows_from words first (heads (lines_of (drop i rs)))) ≡ all) where
  module _ (q : i < length rs) where
    pub global_more : (a b : ℕ) → (get_or rs i blank).line ≡ Line.Global a b → (now : List ℕ) → now ≡ was ++ global_rows words first a b
        → (now ++ rows_from words (first + cells_of b) (heads (lines_of (drop (i + 1) rs)))) ≡ all
    global_more a b e now h =
        let rest = rows_from words (first + cells_of b) (heads (lines_of (drop (i + 1) rs))) in
        let there = global_rows words first a b in
        ap (λ xs. xs ++ rest) h
        ∙ (append_assoc was there rest
        ∙ (ap (λ gs. was ++ rows_from words first gs) (sym (heads_more rs i blank q a b e)) ∙ inv))

    pub globals_stop : ((a b : ℕ) → (get_or rs i blank).line ≡ Line.Global a b → ⊥) → was ≡ all
    globals_stop h = sym (append-nil was) ∙ (ap (λ gs. was ++ rows_from words first gs) (sym (heads_stop rs i blank q h)) ∙ inv)

  pub globals_end : length rs ≤ i → was ≡ all
  globals_end q = sym (append-nil was) ∙ (ap (λ gs. was ++ rows_from words first gs) (sym (at_drop_all (λ us. heads (lines_of us)) rs i q)) ∙ inv)
