-- "Windows": a row, its fields, and when it is in force.
use Rattle.std.specs.Prelude.{ℕ, ◌+◌, ◌-◌, ◌*◌, ◌%◌, ◌^◌, Bool, not, ◌&&◌, ◌||◌, List, get_or, eqb, ltb, leb}
use Rattle.ground.specs.Field.{field}
use Rattle.rows.specs.declared.Window.{Window}

-- "768 numbers of 64 bits"
abbrev pub table_length : ℕ
table_length = 768

-- "slot s (0..15)": sixteen slots a partition
abbrev pub slots : ℕ
slots = 16

-- "row 16·p + s is slot s of partition p", of three words
abbrev pub row_at : ℕ → ℕ → ℕ
row_at p s = 3 * (slots * p + s)

-- "each row is base, target, control"
abbrev pub row_of : List ℕ → ℕ → ℕ → Window
row_of windows p s = record { base = get_or windows (row_at p s) 0; target = get_or windows (row_at p s + 1) 0; control = get_or windows (row_at p s + 2) 0 }

-- control: "bits 7:0 exponent k"
abbrev pub exponent : Window → ℕ
exponent w = field 0 8 w.control

-- control: "bits 11:8 destination"
abbrev pub destination : Window → ℕ
destination w = field 8 4 w.control

-- control: "bit 12 enabled"
abbrev pub is_enabled : Window → Bool
is_enabled w = eqb (field 12 1 w.control) 1

-- R-3, control: "bit 13 of a window row means that marked packets may pass"
abbrev pub passes_marked : Window → Bool
passes_marked w = eqb (field 13 1 w.control) 1

-- control: "bits above stay zero", which is every bit from 14 on
abbrev pub spare_zero : Window → Bool
spare_zero w = ltb w.control (2 ^ 14)

-- "12 ≤ k ≤ 39"
abbrev pub is_sized : ℕ → Bool
is_sized k = leb 12 k && leb k 39

-- a multiple of 2^k
unfoldable pub aligned : ℕ → ℕ → Bool
aligned x k = eqb (x % 2 ^ k) 0

-- a window's size is one, and base and target are multiples of it
unfoldable pub is_fit : ℕ → ℕ → ℕ → Bool
is_fit base target k = is_sized k && (aligned base k && aligned target k)

-- "in force", as far as control alone says: "enabled, its spare bits are zero, 12 ≤ k ≤ 39"
abbrev pub is_plain : Window → Bool
is_plain w = is_enabled w && spare_zero w && is_sized (exponent w)

-- "in force": and "base and target are multiples of 2^k, and the destination is not p"
unfoldable pub in_force : ℕ → Window → Bool
in_force p w = is_plain w && (aligned w.base (exponent w) && aligned w.target (exponent w) && not (eqb (destination w) p))

-- the address is one of "base to base + 2^k − 1"
unfoldable pub spans : ℕ → ℕ → ℕ → Bool
spans base k a = leb base a && ltb (a - base) (2 ^ k)

-- a row in force "covers base to base + 2^k − 1"
abbrev pub covers : ℕ → ℕ → Window → Bool
covers p a w = in_force p w && spans w.base (exponent w) a

-- R-3: the row lets a packet pass as far as its mark goes: it has none, or the row has the bit
abbrev pub admits : Bool → Window → Bool
admits marked w = not marked || passes_marked w

-- a row "in force with destination q", for packets so marked
abbrev pub leads : ℕ → ℕ → Bool → Window → Bool
leads p q marked w = in_force p w && eqb (destination w) q && admits marked w
