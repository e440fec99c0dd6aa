-- "Numbers": the sixteen bus words, and the calls that edit them.
use Rattle.std.specs.Prelude.{ℕ, ◌+◌, Bool, ◌||◌, List, length, get_or, set, ltb}
use Rattle.ground.specs.Pick.{pick}
use Rattle.ground.specs.Table.{wrong_table, edited}
use Rattle.numbers.specs.Entries.{table_length}

-- "the first 64 are mapping entries .. then 16 bus words"
abbrev pub bus_index : ℕ → ℕ
bus_index p = 64 + p

-- the bus word of a partition
abbrev pub bus_of : List ℕ → ℕ → ℕ
bus_of numbers p = get_or numbers (bus_index p) 0

-- "0..255 is that partition's bus; any other value means inactive"
abbrev pub is_active : List ℕ → ℕ → Bool
is_active numbers p = ltb (bus_of numbers p) 256

-- "make a partition inactive (word 256)"
abbrev pub inactive_word : ℕ
inactive_word = 256

-- "set a bus (0..255)": refusal 1, "a bus above 255 given to be set" too
unfoldable pub set_bus_number : ℕ → ℕ → List ℕ → ℕ
set_bus_number p bus numbers = pick (wrong_table p (length numbers) table_length || ltb 255 bus) 1 0

-- the table after it: that word alone is new
abbrev pub set_bus_after : ℕ → ℕ → List ℕ → List ℕ
set_bus_after p bus numbers = edited (set_bus_number p bus numbers) (set numbers (bus_index p) bus) numbers

-- "make a partition inactive": refusal 1
unfoldable pub make_inactive_number : ℕ → List ℕ → ℕ
make_inactive_number p numbers = pick (wrong_table p (length numbers) table_length) 1 0

-- the table after it
abbrev pub make_inactive_after : ℕ → List ℕ → List ℕ
make_inactive_after p numbers = edited (make_inactive_number p numbers) (set numbers (bus_index p) inactive_word) numbers
