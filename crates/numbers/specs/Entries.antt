-- "Numbers": the mapping entries, their look-up and the calls that edit them.
use Rattle.std.specs.Prelude.{ℕ, ◌+◌, ◌*◌, Bool, false, not, ◌&&◌, ◌||◌, List, length, get_or, set, eqb, ltb, Option, Some, None}
use Rattle.ground.specs.Pick.{pick}
use Rattle.ground.specs.Field.{field, place}
use Rattle.ground.specs.Scan.{first}
use Rattle.ground.specs.Table.{wrong_table, edited}
use Rattle.numbers.specs.declared.entries.Entry.{Entry}
use Rattle.numbers.specs.declared.entries.Entry.TheVariants.{Free, Held}

-- "80 numbers of 32 bits"
abbrev pub table_length : ℕ
table_length = 80

-- "slot s (0..3)": four slots a partition
abbrev pub slots : ℕ
slots = 4

-- "entry 4·p + s is slot s of partition p"
abbrev pub entry_index : ℕ → ℕ → ℕ
entry_index p s = slots * p + s

-- "answers either free or held with the ID": held is bit 16 and none above it, and an ill-formed word is free
unfoldable pub look_at : ℕ → Entry
look_at w = pick (eqb (field 16 16 w) 1) (Held (field 0 16 w)) Free

-- the word of an entry that holds this ID
abbrev pub held_word : ℕ → ℕ
held_word id = place 16 1 + id

-- the entry with this index among all of them
abbrev pub entry_at : List ℕ → ℕ → Entry
entry_at numbers i = look_at (get_or numbers i 0)

-- the entry holds this ID
abbrev pub holds_id : Entry → ℕ → Bool
holds_id Free id = false
holds_id (Held held) id = eqb held id

-- slot s of partition p holds this ID
abbrev pub slot_holds : List ℕ → ℕ → ℕ → ℕ → Bool
slot_holds numbers p id s = holds_id (entry_at numbers (entry_index p s)) id

-- "the lowest slot of p holding the requester ID", or the number of slots
abbrev pub lowest_slot : List ℕ → ℕ → ℕ → ℕ
lowest_slot numbers p id = first (slot_holds numbers p id) 0 slots

-- the index of the entry, "with index i in 0..63", or nothing
abbrev pub entry_of : List ℕ → ℕ → ℕ → Option ℕ
entry_of numbers p id = pick (ltb (lowest_slot numbers p id) slots) (Some (entry_index p (lowest_slot numbers p id))) None

-- slot s is not this slot, and holds this ID
abbrev pub other_holds : List ℕ → ℕ → ℕ → ℕ → ℕ → Bool
other_holds numbers p slot id s = not (eqb s slot) && slot_holds numbers p id s

-- "another slot of the owner holds this ID"
abbrev pub held_elsewhere : List ℕ → ℕ → ℕ → ℕ → Bool
held_elsewhere numbers p slot id = ltb (first (other_holds numbers p slot id) 0 slots) slots

-- refusal 1: "partition above 15, slot too large, a table of another length"
abbrev pub wrong_entry : ℕ → ℕ → ℕ → Bool
wrong_entry p slot have = wrong_table p have table_length || ltb 3 slot

-- "set an entry": refusals 1, 12
unfoldable pub set_entry_number : ℕ → ℕ → ℕ → List ℕ → ℕ
set_entry_number p slot id numbers = pick (wrong_entry p slot (length numbers)) 1 (pick (held_elsewhere numbers p slot id) 12 0)

-- the table after it: that word alone is new
abbrev pub set_entry_after : ℕ → ℕ → ℕ → List ℕ → List ℕ
set_entry_after p slot id numbers = edited (set_entry_number p slot id numbers) (set numbers (entry_index p slot) (held_word id)) numbers

-- "free an entry": refusal 1
unfoldable pub free_entry_number : ℕ → ℕ → List ℕ → ℕ
free_entry_number p slot numbers = pick (wrong_entry p slot (length numbers)) 1 0

-- the table after it: that word is 0
abbrev pub free_entry_after : ℕ → ℕ → List ℕ → List ℕ
free_entry_after p slot numbers = edited (free_entry_number p slot numbers) (set numbers (entry_index p slot) 0) numbers
