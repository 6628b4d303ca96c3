-- The owner's memory after a store's life, from the store's words and what lay past them: for whoever lends memory to a store.
use Rattle.std.proofs.Common.{◌≡◌, ℕ, zero, suc, ◌*◌, ◌<◌, List, [], ◌∷◌, ◌++◌, length, get_or, take, drop, sym, refl, ◌∙◌, arith}
use Rattle.std.proofs.lemmas.List.{take-append-drop}
use Rattle.stores.proofs.Imaging.{four}
use Rattle.stores.specs.Tables.{table_words, table_rest}
use Rattle.stores.specs.Images.{word_of, byte_of, words_of, image_words, image_rest, bytes_of}

-- a slice of words, from what it was before and the words now
pub whole_table :
    (cells before words : List ℕ) → table_words cells ≡ words → table_rest cells ≡ table_rest before → cells ≡ words ++ table_rest before
whole_table cells before words w r = sym (take-append-drop 65536 cells) ∙ (λ j. w j ++ r j)

-- the four bytes of the word that they mean
lowest : (a b c d : ℕ) → a < 256 → b < 256 → c < 256 → d < 256 → byte_of 0 (word_of a b c d) ≡ a
lowest a b c d p q r s = omega arith

low : (a b c d : ℕ) → a < 256 → b < 256 → c < 256 → d < 256 → byte_of 1 (word_of a b c d) ≡ b
low a b c d p q r s = omega arith

high : (a b c d : ℕ) → a < 256 → b < 256 → c < 256 → d < 256 → byte_of 2 (word_of a b c d) ≡ c
high a b c d p q r s = omega arith

highest : (a b c d : ℕ) → a < 256 → b < 256 → c < 256 → d < 256 → byte_of 3 (word_of a b c d) ≡ d
highest a b c d p q r s = omega arith

-- bytes are those of the first n words that they mean, and what lies past these
spelled :
    (n : ℕ) (bytes : List ℕ)
    → ((k : ℕ) → get_or bytes k 0 < 256)
    → bytes ≡ bytes_of (take n (words_of bytes)) ++ drop (4 * length (take n (words_of bytes))) bytes
spelled zero bytes f = refl
spelled (suc n) [] f = refl
spelled (suc n) (a ∷ []) f = refl
spelled (suc n) (a ∷ b ∷ []) f = refl
spelled (suc n) (a ∷ b ∷ c ∷ []) f = refl
spelled (suc n) (a ∷ b ∷ c ∷ d ∷ bytes) f =
    let p = f 0 in
    let q = f 1 in
    let r = f 2 in
    let s = f 3 in
    let tail = spelled n bytes (λ k. f (suc (suc (suc (suc k))))) in
    rw four (λ j. sym (lowest a b c d p q r s) j ∷ sym (low a b c d p q r s) j ∷ sym (high a b c d p q r s) j ∷ sym (highest a b c d p q r s) j ∷ tail j)

-- a slice of bytes, from what it was before and the words now
pub whole_image :
    (bytes before words : List ℕ)
    → ((k : ℕ) → get_or bytes k 0 < 256)
    → image_words bytes ≡ words
    → image_rest bytes ≡ image_rest before
    → bytes ≡ bytes_of words ++ image_rest before
whole_image bytes before words f w r = spelled 65536 bytes f ∙ (λ j. bytes_of (w j) ++ r j)
