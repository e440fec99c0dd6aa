-- Writing a packet over the start of a buffer.
use Rattle.std.specs.Prelude.{ℕ, ◌+◌, List, [], ◌++◌, length, take, drop, leb}
use Rattle.ground.specs.Pick.{pick}
use Rattle.header.specs.Kind.{has_four_words}
use Rattle.header.specs.Words.{word_bytes}
use Rattle.header.specs.Fields.{kind}
use Rattle.header.specs.declared.words.Header.{Header}

-- the first three words, which every header has
abbrev pub three_words : Header → List ℕ
three_words h = word_bytes h.w0 ++ (word_bytes h.w1 ++ word_bytes h.w2)

-- a header's own bytes: three words, or four
unfoldable pub header_list : Header → List ℕ
header_list h = three_words h ++ pick (has_four_words (kind h)) (word_bytes h.w3) []

-- "header, then" data
abbrev pub packet_list : Header → List ℕ → List ℕ
packet_list h payload = header_list h ++ payload

-- the bytes xs written into o from place `at` on, "unchanged beyond"; where they do not fit, nothing is written
unfoldable pub over : List ℕ → ℕ → List ℕ → List ℕ
over o at xs = pick (leb (at + length xs) (length o)) (take at o ++ (xs ++ drop (at + length xs) o)) o

-- how many bytes of xs are written into a buffer of n: all, or none where they do not fit
abbrev pub written_bytes : ℕ → List ℕ → ℕ
written_bytes n xs = pick (leb (length xs) n) (length xs) 0
