-- A field of a word, by the place of its lowest bit and its width.
use Rattle.std.specs.Prelude.{ℕ, ◌+◌, ◌*◌, ◌/◌, ◌%◌, ◌^◌}

-- the field that is `width` bits wide, its lowest bit at `low`: "TC 22:20" is `field 20 3`
abbrev pub field : ℕ → ℕ → ℕ → ℕ
field low width w = w / 2 ^ low % 2 ^ width

-- a value at its place in a word
abbrev pub place : ℕ → ℕ → ℕ
place low x = x * 2 ^ low

-- the word with that field made x, which is below 2 ^ width, and every other bit as it was
abbrev pub with_field : ℕ → ℕ → ℕ → ℕ → ℕ
with_field low width w x = w / 2 ^ (width + low) * 2 ^ (width + low) + place low x + w % 2 ^ low
