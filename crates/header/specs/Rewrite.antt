-- The rewritten fields of a packet that crosses: each says which field becomes what, and keeps every other bit.
use Rattle.std.specs.Prelude.{ℕ, ◌^◌, leb}
use Rattle.ground.specs.Pick.{pick}
use Rattle.ground.specs.Field.{field, with_field}
use Rattle.header.specs.Fields.{low_word}
use Rattle.header.specs.declared.words.Header.{Header}

-- the low address word: its lowest two bits are no part of the address, and are kept
abbrev pub low_word_for : Header → ℕ → ℕ
low_word_for h a = with_field 2 30 (low_word h) (field 2 30 a)

-- the request in a 64-bit header: bit 29 of word 0 is bit 5 of the kind
abbrev pub in64 : Header → ℕ → Header
in64 h a = record { w0 = with_field 29 1 h.w0 1; w1 = h.w1; w2 = field 32 32 a; w3 = low_word_for h a }

-- the request in a 32-bit header
abbrev pub in32 : Header → ℕ → Header
in32 h a = record { w0 = with_field 29 1 h.w0 0; w1 = h.w1; w2 = low_word_for h a; w3 = 0 }

-- a request with the address a, "in a 64-bit header exactly if that is 2^32 or more"
unfoldable pub readdressed : Header → ℕ → Header
readdressed h a = pick {A = Header} (leb (2 ^ 32) a) (in64 h a) (in32 h a)

-- a request with another requester ID
abbrev pub renamed : Header → ℕ → Header
renamed h id = record { w0 = h.w0; w1 = with_field 16 16 h.w1 id; w2 = h.w2; w3 = h.w3 }

-- a completion with another requester ID and another completer ID
abbrev pub returned : Header → ℕ → ℕ → Header
returned h id completer = record { w0 = h.w0; w1 = with_field 16 16 h.w1 completer; w2 = with_field 16 16 h.w2 id; w3 = h.w3 }
