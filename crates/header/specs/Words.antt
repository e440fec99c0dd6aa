-- "Words are big-endian on the wire": header words from bytes, and back.
use Rattle.std.specs.Prelude.{ℕ, ◌+◌, List, [], ◌∷◌, get_or}
use Rattle.ground.specs.Pick.{pick}
use Rattle.ground.specs.Field.{field, place}
use Rattle.header.specs.Kind.{has_four_words}
use Rattle.header.specs.declared.words.Header.{Header}

-- "missing bytes count as 0"
abbrev pub byte_at : List ℕ → ℕ → ℕ
byte_at s i = get_or s i 0

-- four bytes as a word, the first the highest
abbrev pub joined : ℕ → ℕ → ℕ → ℕ → ℕ
joined a b c d = place 24 a + place 16 b + place 8 c + d

-- the word whose first byte stands at `at`
unfoldable pub word_at : List ℕ → ℕ → ℕ
word_at s at = joined (byte_at s at) (byte_at s (at + 1)) (byte_at s (at + 2)) (byte_at s (at + 3))

-- the fourth word: only "if byte 0 has bit 5 set, else 0"
abbrev pub fourth_word : List ℕ → ℕ
fourth_word s = pick (has_four_words (byte_at s 0)) (word_at s 12) 0

-- the header words: the first three words of the packet, and the fourth
abbrev pub header_of : List ℕ → Header
header_of s = record { w0 = word_at s 0; w1 = word_at s 4; w2 = word_at s 8; w3 = fourth_word s }

-- a word's four bytes, big-endian
abbrev pub word_bytes : ℕ → List ℕ
word_bytes w = field 24 8 w ∷ field 16 8 w ∷ field 8 8 w ∷ field 0 8 w ∷ []
