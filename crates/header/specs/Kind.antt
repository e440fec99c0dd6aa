-- "Headers used": the six kinds, as bits 31:24 of word 0 have them.
use Rattle.std.specs.Prelude.{ℕ, Bool, ◌||◌, eqb}
use Rattle.ground.specs.Pick.{pick}
use Rattle.ground.specs.Field.{field}

-- "0x00 .. read", with a 32-bit address
abbrev pub read32 : ℕ
read32 = 0x00

-- "0x20 read", with a 64-bit address
abbrev pub read64 : ℕ
read64 = 0x20

-- "0x40 .. write", with a 32-bit address
abbrev pub write32 : ℕ
write32 = 0x40

-- "0x60 write", with a 64-bit address
abbrev pub write64 : ℕ
write64 = 0x60

-- "0x0A completion"
abbrev pub completion : ℕ
completion = 0x0A

-- "0x4A completion with data"
abbrev pub completion_with_data : ℕ
completion_with_data = 0x4A

-- a memory read
abbrev pub is_read : ℕ → Bool
is_read k = eqb k read32 || eqb k read64

-- a memory write
abbrev pub is_write : ℕ → Bool
is_write k = eqb k write32 || eqb k write64

-- a request, of either sort
abbrev pub is_request : ℕ → Bool
is_request k = is_read k || is_write k

-- a completion, with data or without
abbrev pub is_completion : ℕ → Bool
is_completion k = eqb k completion || eqb k completion_with_data

-- one of the six; "another kind" is none of them
abbrev pub is_carried : ℕ → Bool
is_carried k = is_read k || is_write k || is_completion k

-- data follows the header: "kinds 0x40, 0x60, 0x4A"
abbrev pub has_data : ℕ → Bool
has_data k = is_write k || eqb k completion_with_data

-- the header has a fourth word: "byte 0 has bit 5"
abbrev pub has_four_words : ℕ → Bool
has_four_words k = eqb (field 5 1 k) 1

-- the header's length in bytes: four words, or three
abbrev pub header_bytes : ℕ → ℕ
header_bytes k = pick (has_four_words k) 16 12
