-- "Headers used": every field of a header by its name.
use Rattle.std.specs.Prelude.{ℕ, ◌+◌, ◌*◌, ◌^◌, Bool, List, eqb, drop}
use Rattle.ground.specs.Pick.{pick}
use Rattle.ground.specs.Field.{field, place}
use Rattle.header.specs.Kind.{has_data, has_four_words, header_bytes}
use Rattle.header.specs.Words.{header_of}
use Rattle.header.specs.declared.words.Header.{Header}

-- word 0: "kind in 31:24"
abbrev pub kind : Header → ℕ
kind h = field 24 8 h.w0

-- "TC 22:20"
abbrev pub traffic_class : Header → ℕ
traffic_class h = field 20 3 h.w0

-- "TD 15"
abbrev pub has_digest : Header → Bool
has_digest h = eqb (field 15 1 h.w0) 1

-- "EP 14"
abbrev pub is_poisoned : Header → Bool
is_poisoned h = eqb (field 14 1 h.w0) 1

-- "Attr 13:12"
abbrev pub attributes : Header → ℕ
attributes h = field 12 2 h.w0

-- "AT 11:10"
abbrev pub address_type : Header → ℕ
address_type h = field 10 2 h.w0

-- "Length 9:0"
abbrev pub length_field : Header → ℕ
length_field h = field 0 10 h.w0

-- "Length .. in dwords, 0 meaning 1,024"
abbrev pub dwords : Header → ℕ
dwords h = pick (eqb (length_field h) 0) (2 ^ 10) (length_field h)

-- "4 × Length bytes" of data, or none: of a kind without data the Length is not read
abbrev pub data_bytes : Header → ℕ
data_bytes h = pick (has_data (kind h)) (4 * dwords h) 0

-- the whole packet's length: header, then data
abbrev pub total_bytes : Header → ℕ
total_bytes h = header_bytes (kind h) + data_bytes h

-- a packet's data: what follows its header
abbrev pub data_of : List ℕ → List ℕ
data_of s = drop (header_bytes (kind (header_of s))) s

-- request word 1: "requester ID 31:16"
abbrev pub requester_id : Header → ℕ
requester_id h = field 16 16 h.w1

-- "tag 15:8"
abbrev pub tag : Header → ℕ
tag h = field 8 8 h.w1

-- "last enables 7:4"
abbrev pub last_enables : Header → ℕ
last_enables h = field 4 4 h.w1

-- "first enables 3:0"
abbrev pub first_enables : Header → ℕ
first_enables h = field 0 4 h.w1

-- the address: "high word first where there are two"
abbrev pub high_word : Header → ℕ
high_word h = pick (has_four_words (kind h)) h.w2 0

-- the address: its low word, the only one of a 32-bit address
abbrev pub low_word : Header → ℕ
low_word h = pick (has_four_words (kind h)) h.w3 h.w2

-- "its lowest two bits are no part of the address"
abbrev pub address : Header → ℕ
address h = place 32 (high_word h) + place 2 (field 2 30 (low_word h))

-- those two bits, which are carried
abbrev pub below_address : Header → ℕ
below_address h = field 0 2 (low_word h)

-- completion word 1: "completer ID 31:16"
abbrev pub completer_id : Header → ℕ
completer_id h = field 16 16 h.w1

-- "status 15:13"
abbrev pub status : Header → ℕ
status h = field 13 3 h.w1

-- "BCM 12"
abbrev pub byte_count_modified : Header → ℕ
byte_count_modified h = field 12 1 h.w1

-- "byte count 11:0", as it is written: 4,096 is 0
abbrev pub byte_count_field : Header → ℕ
byte_count_field h = field 0 12 h.w1

-- completion word 2: "requester ID 31:16"
abbrev pub completion_requester_id : Header → ℕ
completion_requester_id h = field 16 16 h.w2

-- "tag 15:8"
abbrev pub completion_tag : Header → ℕ
completion_tag h = field 8 8 h.w2

-- "lower address 6:0"
abbrev pub lower_address_field : Header → ℕ
lower_address_field h = field 0 7 h.w2
