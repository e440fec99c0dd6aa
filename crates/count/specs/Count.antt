-- "Byte count" and lower address of a read, and the completion that answers one which is refused.
use Rattle.std.specs.Prelude.{ℕ, ◌+◌, ◌-◌, ◌*◌, ◌%◌, ◌^◌, Bool, eqb}
use Rattle.ground.specs.Pick.{pick}
use Rattle.ground.specs.Field.{field, place}
use Rattle.header.specs.Kind.{completion}
use Rattle.header.specs.Fields.{traffic_class, attributes, dwords, requester_id, tag, last_enables, first_enables, address}
use Rattle.header.specs.declared.words.Header.{Header}

-- byte `i` of a dword is enabled
abbrev pub enabled : ℕ → ℕ → Bool
enabled i e = eqb (field i 1 e) 1

-- the place of "the lowest enabled byte"; 0 where none is (R-1: "the low two bits of the lower address are 0")
abbrev pub lowest : ℕ → ℕ
lowest e = pick (enabled 0 e) 0 (pick (enabled 1 e) 1 (pick (enabled 2 e) 2 (pick (enabled 3 e) 3 0)))

-- the place of "the highest enabled byte"; 0 where none is
abbrev pub highest : ℕ → ℕ
highest e = pick (enabled 3 e) 3 (pick (enabled 2 e) 2 (pick (enabled 1 e) 1 0))

-- "Byte count": at Length 1 from the lowest place to the highest, so 1 where no byte is enabled (R-1: "the byte count is 1");
-- above 1 all bytes, less what either end leaves out
unfoldable pub byte_count_of : ℕ → ℕ → ℕ → ℕ
byte_count_of n first last =
    pick (eqb n 1)
    (highest first - lowest first + 1)
    (4 * n - lowest first - (3 - highest last))

-- the byte count of a read
abbrev pub byte_count : Header → ℕ
byte_count h = byte_count_of (dwords h) (first_enables h) (last_enables h)

-- "address bits 6:2 and the place of the lowest enabled byte"
abbrev pub lower_address : Header → ℕ
lower_address h = place 2 (field 2 5 (address h)) + lowest (first_enables h)

-- the status of an answer to a refused read: unsupported request
abbrev pub unsupported_request : ℕ
unsupported_request = 1

-- an answered read's word 0: the kind, "the read's TC and Attr 13:12"
abbrev pub answer_word_0 : Header → ℕ
answer_word_0 h = place 24 completion + place 20 (traffic_class h) + place 12 (attributes h)

-- its word 1: completer, "status 1, BCM 0, byte count", and "4,096 is written 0"
abbrev pub answer_word_1 : Header → ℕ → ℕ
answer_word_1 h completer = place 16 completer + place 13 unsupported_request + byte_count h % 2 ^ 12

-- its word 2: the read's "requester ID, tag, lower address"
abbrev pub answer_word_2 : Header → ℕ
answer_word_2 h = place 16 (requester_id h) + place 8 (tag h) + lower_address h

-- the answer, three words
abbrev pub answer_to : Header → ℕ → Header
answer_to h completer = record { w0 = answer_word_0 h; w1 = answer_word_1 h completer; w2 = answer_word_2 h; w3 = 0 }
