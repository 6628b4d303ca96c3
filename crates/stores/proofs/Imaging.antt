-- The words of a list of bytes: how many there are, what one is, and what a write of one does.
use Rattle.std.proofs.Common.{◌≡◌, ℕ, zero, suc, ◌+◌, ◌*◌, ◌/◌, ◌%◌, ◌^◌, ◌<◌, ◌≤◌, List, [], ◌∷◌, ◌++◌, map, w32, length, get_or, take, drop, set, Some, None, Option, sym, refl, ap, ◌∙◌, arith, length-set}
use lib.Seq.{take-set-lt}
use borrow.Rule.Slice.PartMut.{put_mid}
use Rattle.std.specs.List.{slice_get}
use Rattle.std.specs.Option.{option_map, IfSome}
use Rattle.std.specs.Int.{from_le_bytes, to_le_bytes}
use Rattle.std.specs.Simd.{first_chunks}
use Rattle.std.proofs.lemmas.Option.{slice_get-map, slice_get_within, get_or_from_slice_get}
use Rattle.std.proofs.lemmas.List.{drop-set-lt, get_or-take, take-map}
use Rattle.stores.proofs.Capped.{within, used}
use Rattle.stores.specs.Images.{word_of, byte_of, words_of, image_words, image_rest, word_at, with_word}

-- four bytes a word, and at most three left over
pub count_of : (bytes : List ℕ) → (4 * length (words_of bytes) ≤ length bytes) × (length bytes < 4 * length (words_of bytes) + 4)
count_of [] = (omega arith, omega arith)
count_of (a ∷ []) = (omega arith, omega arith)
count_of (a ∷ b ∷ []) = (omega arith, omega arith)
count_of (a ∷ b ∷ c ∷ []) = (omega arith, omega arith)
count_of (a ∷ b ∷ c ∷ d ∷ bytes) = let h = count_of bytes in (omega arith, omega arith)

pub quarter : (bytes : List ℕ) → length bytes / 4 ≡ length (words_of bytes)
quarter bytes = let h = count_of bytes in omega arith

-- the bytes of cell i + 1 are those of cell i after the first four bytes
pub four : (i : ℕ) → 4 * suc i ≡ suc (suc (suc (suc (4 * i))))
four i = omega arith

suc_and : (m n : ℕ) → suc m + n ≡ suc (m + n)
suc_and m n = omega arith

four_and : (m n : ℕ) → suc (suc (suc (suc m))) + n ≡ suc (suc (suc (suc (m + n))))
four_and m n = omega arith

-- the words are those of the chunks of four bytes
words_chunks : (k : ℕ) (bytes : List ℕ) → k ≡ length (words_of bytes) → map (from_le_bytes w32) (first_chunks 4 k bytes) ≡ words_of bytes
words_chunks zero [] e = refl
words_chunks zero (a ∷ []) e = refl
words_chunks zero (a ∷ b ∷ []) e = refl
words_chunks zero (a ∷ b ∷ c ∷ []) e = refl
words_chunks zero (a ∷ b ∷ c ∷ d ∷ bytes) e = absurd (omega arith)
words_chunks (suc k) [] e = absurd (omega arith)
words_chunks (suc k) (a ∷ []) e = absurd (omega arith)
words_chunks (suc k) (a ∷ b ∷ []) e = absurd (omega arith)
words_chunks (suc k) (a ∷ b ∷ c ∷ []) e = absurd (omega arith)
words_chunks (suc k) (a ∷ b ∷ c ∷ d ∷ bytes) e =
    let h : k ≡ length (words_of bytes) = omega arith in
    ap (λ l. word_of a b c d ∷ l) (words_chunks k bytes h)

-- a chunk among the first ones is a word of the image
pub chunk_load :
    (bytes : List ℕ) (size k i : ℕ)
    → size ≡ length (image_words bytes)
    → k ≡ length bytes / 4
    → option_map (from_le_bytes w32) (slice_get (take size (first_chunks 4 k bytes)) i) ≡ slice_get (image_words bytes) i
chunk_load bytes size k i e f =
    let chunks = first_chunks 4 k bytes in
    sym (slice_get-map (from_le_bytes w32) (take size chunks) i)
    ∙ ap (λ l. slice_get l i) (sym (take-map (from_le_bytes w32) size chunks) ∙ ap (take size) (words_chunks k bytes (f ∙ quarter bytes)) ∙ used 65536 size (words_of bytes) e)

pub words_get : (bytes : List ℕ) (i : ℕ) → i < length (words_of bytes) → get_or (words_of bytes) i 0 ≡ word_at bytes i
words_get [] i h = absurd (omega arith)
words_get (a ∷ []) i h = absurd (omega arith)
words_get (a ∷ b ∷ []) i h = absurd (omega arith)
words_get (a ∷ b ∷ c ∷ []) i h = absurd (omega arith)
words_get (a ∷ b ∷ c ∷ d ∷ bytes) zero h = refl
words_get (a ∷ b ∷ c ∷ d ∷ bytes) (suc i) h =
    let k : i < length (words_of bytes) = omega arith in simp (four_and, four) (words_get bytes i k)

-- a word is made of its four bytes
parts : (w : ℕ) → w < 2 ^ 32 → w % 256 + w / 256 % 256 * 256 + w / 65536 % 256 * 65536 + w / 16777216 * 16777216 ≡ w
parts w h = omega arith

whole : (w : ℕ) → w < 2 ^ 32 → word_of (byte_of 0 w) (byte_of 1 w) (byte_of 2 w) (byte_of 3 w) ≡ w
whole w h =
    let top : w / 16777216 % 256 ≡ w / 16777216 = omega arith in
    let low : w / 1 % 256 ≡ w % 256 = omega arith in
    simp (top, low) (parts w h)

words_set :
    (bytes : List ℕ) (i w : ℕ)
    → i < length (words_of bytes)
    → words_of (with_word bytes i w) ≡ set (words_of bytes) i (word_of (byte_of 0 w) (byte_of 1 w) (byte_of 2 w) (byte_of 3 w))
words_set [] i w h = absurd (omega arith)
words_set (a ∷ []) i w h = absurd (omega arith)
words_set (a ∷ b ∷ []) i w h = absurd (omega arith)
words_set (a ∷ b ∷ c ∷ []) i w h = absurd (omega arith)
words_set (a ∷ b ∷ c ∷ d ∷ bytes) zero w h = refl
words_set (a ∷ b ∷ c ∷ d ∷ bytes) (suc i) w h =
    let k : i < length (words_of bytes) = omega arith in
    simp (four_and, four) (ap (λ l. word_of a b c d ∷ l) (words_set bytes i w k))

-- a cell of the image lies whole in the bytes
pub cell_within : (bytes : List ℕ) (i : ℕ) → i < length (image_words bytes) → (4 * i + 3 < length bytes) × (i < 65536)
cell_within bytes i h =
    let k = within 65536 i (words_of bytes) h in
    let c = count_of bytes in
    (omega arith, omega arith)

-- a part of four bytes that is written over
four_set :
    (n : ℕ) (xs : List ℕ) (p q r s : ℕ)
    → n + 3 < length xs
    → take n xs ++ (p ∷ q ∷ r ∷ s ∷ drop 4 (drop n xs)) ≡ set (set (set (set xs n p) (n + 1) q) (n + 2) r) (n + 3) s
four_set n [] p q r s h = absurd (omega arith)
four_set zero (a ∷ []) p q r s h = absurd (omega arith)
four_set zero (a ∷ b ∷ []) p q r s h = absurd (omega arith)
four_set zero (a ∷ b ∷ c ∷ []) p q r s h = absurd (omega arith)
four_set zero (a ∷ b ∷ c ∷ d ∷ xs) p q r s h = refl
four_set (suc n) (a ∷ xs) p q r s h =
    let k : n + 3 < length xs = omega arith in simp suc_and (ap (λ l. a ∷ l) (four_set n xs p q r s k))

bytes_written : (w : ℕ) → to_le_bytes w32 w ≡ byte_of 0 w ∷ byte_of 1 w ∷ byte_of 2 w ∷ byte_of 3 w ∷ []
bytes_written w = let low : w % 256 ≡ w / 1 % 256 = omega arith in ap (λ b. b ∷ byte_of 1 w ∷ byte_of 2 w ∷ byte_of 3 w ∷ []) low

pub cell_written :
    (bytes new : List ℕ) (i w k : ℕ)
    → i < length (image_words bytes)
    → k ≡ 4
    → new ≡ to_le_bytes w32 w
    → put_mid (4 * i) k bytes new ≡ with_word bytes i w
cell_written bytes new i w k h e f =
    let c : 4 * i + 3 < length bytes = (cell_within bytes i h).0 in
    (λ j. put_mid (4 * i) (e j) bytes ((f ∙ bytes_written w) j)) ∙ four_set (4 * i) bytes (byte_of 0 w) (byte_of 1 w) (byte_of 2 w) (byte_of 3 w) c

-- the word that a load gives is that of the cell's four bytes
pub load_bytes : (bytes : List ℕ) (i : ℕ) (r : Option ℕ) → r ≡ slice_get (image_words bytes) i → IfSome r (λ w. w ≡ word_at bytes i)
load_bytes bytes i None e = tt
load_bytes bytes i (Some w) e =
    let k = within 65536 i (words_of bytes) (slice_get_within (image_words bytes) i w (sym e)) in
    sym (get_or_from_slice_get (image_words bytes) i w 0 (sym e)) ∙ get_or-take 65536 (words_of bytes) i 0 k.0 ∙ words_get bytes i k.1

pub image_put :
    (bytes : List ℕ) (i w : ℕ) → i < length (image_words bytes) → w < 2 ^ 32 → image_words (with_word bytes i w) ≡ set (image_words bytes) i w
image_put bytes i w h f =
    let k = within 65536 i (words_of bytes) h in
    ap (take 65536) (words_set bytes i w k.1 ∙ ap (set (words_of bytes) i) (whole w f)) ∙ take-set-lt 65536 (words_of bytes) i w k.0

past_cell : (n i w : ℕ) (bytes : List ℕ) → 4 * i + 3 < n → drop n (with_word bytes i w) ≡ drop n bytes
past_cell n i w bytes h =
    drop-set-lt n (set (set (set bytes (4 * i) (byte_of 0 w)) (4 * i + 1) (byte_of 1 w)) (4 * i + 2) (byte_of 2 w)) (4 * i + 3) (byte_of 3 w) h
    ∙ drop-set-lt n (set (set bytes (4 * i) (byte_of 0 w)) (4 * i + 1) (byte_of 1 w)) (4 * i + 2) (byte_of 2 w) (omega arith)
    ∙ drop-set-lt n (set bytes (4 * i) (byte_of 0 w)) (4 * i + 1) (byte_of 1 w) (omega arith)
    ∙ drop-set-lt n bytes (4 * i) (byte_of 0 w) (omega arith)

pub image_kept :
    (bytes : List ℕ) (i w : ℕ) → i < length (image_words bytes) → w < 2 ^ 32 → image_rest (with_word bytes i w) ≡ image_rest bytes
image_kept bytes i w h f =
    let e = ap length (image_put bytes i w h f) ∙ length-set (image_words bytes) i w in
    rw e (past_cell (4 * length (image_words bytes)) i w bytes (omega arith))
