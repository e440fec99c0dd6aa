-- "The table calls": set a window, empty it.
use Rattle.std.specs.Prelude.{ℕ, ◌+◌, Bool, not, ◌&&◌, ◌||◌, List, length, set, eqb, ltb}
use Rattle.ground.specs.Pick.{pick}
use Rattle.ground.specs.Field.{place}
use Rattle.ground.specs.Scan.{first}
use Rattle.ground.specs.Table.{wrong_table, edited}
use Rattle.rows.specs.Row.{table_length, slots, row_at, row_of, exponent, is_fit, in_force, spans}
use Rattle.rows.specs.declared.Window.{Window}

-- refusal 1: "partition above 15, slot too large, a table of another length"
abbrev pub wrong_window : ℕ → ℕ → ℕ → Bool
wrong_window p slot have = wrong_table p have table_length || ltb 15 slot

-- refusal 10: "k outside 12..39, unaligned, destination above 15 or own"
abbrev pub wrong_values : ℕ → ℕ → ℕ → ℕ → ℕ → Bool
wrong_values p base target k q = not (is_fit base target k) || ltb 15 q || eqb q p

-- two spans overlap: one begins inside the other
abbrev pub overlap : ℕ → ℕ → ℕ → ℕ → Bool
overlap b k c j = spans b k c || spans c j b

-- a row in force that the span overlaps
abbrev pub row_overlaps : ℕ → ℕ → ℕ → Window → Bool
row_overlaps p base k w = in_force p w && overlap base k w.base (exponent w)

-- slot s is not this slot, and its row overlaps: "judged against the other slots"
abbrev pub other_overlaps : List ℕ → ℕ → ℕ → ℕ → ℕ → ℕ → Bool
other_overlaps windows p slot base k s = not (eqb s slot) && row_overlaps p base k (row_of windows p s)

-- the lowest such slot, or the number of slots
abbrev pub overlapped_slot : List ℕ → ℕ → ℕ → ℕ → ℕ → ℕ
overlapped_slot windows p slot base k = first (other_overlaps windows p slot base k) 0 slots

-- refusal 11: "overlaps another in-force row of the owner"
abbrev pub overlaps : List ℕ → ℕ → ℕ → ℕ → ℕ → Bool
overlaps windows p slot base k = ltb (overlapped_slot windows p slot base k) slots

-- the control word of a window that is set: "always enabled"; R-3: "setting a window takes this choice too"
abbrev pub control_word : ℕ → ℕ → Bool → ℕ
control_word k q marked = place 13 (pick marked 1 0) + place 12 1 + place 8 q + k

-- the table with this row
abbrev pub with_row : ℕ → ℕ → ℕ → ℕ → ℕ → List ℕ → List ℕ
with_row p s base target control windows = set (set (set windows (row_at p s) base) (row_at p s + 1) target) (row_at p s + 2) control

-- "set a window": refusals 1, 10, 11
unfoldable pub set_window_number : ℕ → ℕ → ℕ → ℕ → ℕ → ℕ → List ℕ → ℕ
set_window_number p slot base target k q windows =
    pick (wrong_window p slot (length windows)) 1
    (pick (wrong_values p base target k q) 10
    (pick (overlaps windows p slot base k) 11 0))

-- the table after it: that row alone is new
abbrev pub set_window_after : ℕ → ℕ → ℕ → ℕ → ℕ → ℕ → Bool → List ℕ → List ℕ
set_window_after p slot base target k q marked windows =
    edited (set_window_number p slot base target k q windows) (with_row p slot base target (control_word k q marked) windows) windows

-- "empty it (three zeros)": refusal 1
unfoldable pub empty_window_number : ℕ → ℕ → List ℕ → ℕ
empty_window_number p slot windows = pick (wrong_window p slot (length windows)) 1 0

-- the table after it
abbrev pub empty_window_after : ℕ → ℕ → List ℕ → List ℕ
empty_window_after p slot windows = edited (empty_window_number p slot windows) (with_row p slot 0 0 0 windows) windows
