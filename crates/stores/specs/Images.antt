-- An image: a lent slice of bytes as a store, four bytes a cell, the lowest byte of the word first.
use Rattle.std.specs.Prelude.{ℕ, ◌+◌, ◌*◌, ◌/◌, ◌%◌, ◌^◌, List, [], ◌∷◌, length, take, drop, slice_index, slice_set, Ok, Err, Result}
use Rattle.stores.specs.declared.store.NoSuchCell.{NoSuchCell}
use Rattle.stores.specs.Lent.{Lent}

-- The word that four bytes mean, given from the lowest to the highest.
abbrev pub word_of : ℕ → ℕ → ℕ → ℕ → ℕ
word_of a b c d = a + b * 256 + c * 65536 + d * 16777216

-- Byte k of a word, byte 0 the lowest.
abbrev pub byte_of : ℕ → ℕ → ℕ
byte_of k word = word / 256 ^ k % 256

-- The words that a list of bytes means: each four bytes a word, from the front. One to three bytes left at the end mean none.
abbrev pub words_of : List ℕ → List ℕ
words_of [] = []
words_of (a ∷ []) = []
words_of (a ∷ b ∷ []) = []
words_of (a ∷ b ∷ c ∷ []) = []
words_of (a ∷ b ∷ c ∷ d ∷ bytes) = word_of a b c d ∷ words_of bytes

-- The store's words: the first 65,536 that the bytes mean, or all of them where there are fewer.
abbrev pub image_words : List ℕ → List ℕ
image_words bytes = take 65536 (words_of bytes)

-- What the slice holds past the store.
abbrev pub image_rest : List ℕ → List ℕ
image_rest bytes = drop (4 * length (image_words bytes)) bytes

-- What a put keeps, of a slice that lies in a loan.
abbrev pub image_lent : ℕ → List ℕ → Lent
image_lent loan bytes = record { loan = loan; rest = image_rest bytes }

-- The word that the four bytes of a cell mean.
abbrev pub word_at : List ℕ → ℕ → ℕ
word_at bytes at =
    word_of (slice_index bytes (4 * at)) (slice_index bytes (4 * at + 1)) (slice_index bytes (4 * at + 2)) (slice_index bytes (4 * at + 3))

-- The bytes with the four of a cell replaced by those of a word.
abbrev pub with_word : List ℕ → ℕ → ℕ → List ℕ
with_word bytes at word =
    slice_set (slice_set (slice_set (slice_set bytes (4 * at) (byte_of 0 word)) (4 * at + 1) (byte_of 1 word)) (4 * at + 2) (byte_of 2 word)) (4 * at + 3) (byte_of 3 word)

-- The bytes after a put, by its answer: one that is refused changes no byte.
abbrev pub bytes_after : List ℕ → ℕ → ℕ → Result (Unit {0}) NoSuchCell → List ℕ
bytes_after bytes at word (Ok _) = with_word bytes at word
bytes_after bytes at word (Err _) = bytes

-- The bytes that words are written as.
abbrev pub bytes_of : List ℕ → List ℕ
bytes_of [] = []
bytes_of (word ∷ words) = byte_of 0 word ∷ byte_of 1 word ∷ byte_of 2 word ∷ byte_of 3 word ∷ bytes_of words
