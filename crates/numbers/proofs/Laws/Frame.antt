-- What each call of the table of numbers leaves alone: every word but the one that it writes. The law of a store that is made or
-- refused serves all four. Assumes nothing.
use Prim.Native.Nat.{ℕ}
use mathlib.Core.Path.{◌≡◌}
use mathlib.Core.List.{List}
use lib.ListN.{get_or}
use Rattle.ground.proofs.Laws.Table.{store_elsewhere}
use Rattle.numbers.specs.Entries.{entry_index, held_word, set_entry_number, set_entry_after, free_entry_number, free_entry_after}
use Rattle.numbers.specs.Buses.{bus_index, inactive_word, set_bus_number, set_bus_after, make_inactive_number, make_inactive_after}

-- setting an entry keeps every word but its own
pub set_entry_elsewhere : (p slot id : ℕ) (l : List ℕ) (i : ℕ) → (i ≡ entry_index p slot → ⊥) → get_or (set_entry_after p slot id l) i 0 ≡ get_or l i 0
set_entry_elsewhere p slot id l i h = store_elsewhere (set_entry_number p slot id l) l (entry_index p slot) (held_word id) i h

-- freeing an entry keeps every word but its own
pub free_entry_elsewhere : (p slot : ℕ) (l : List ℕ) (i : ℕ) → (i ≡ entry_index p slot → ⊥) → get_or (free_entry_after p slot l) i 0 ≡ get_or l i 0
free_entry_elsewhere p slot l i h = store_elsewhere (free_entry_number p slot l) l (entry_index p slot) 0 i h

-- setting a bus keeps every word but its own
pub set_bus_elsewhere : (p bus : ℕ) (l : List ℕ) (i : ℕ) → (i ≡ bus_index p → ⊥) → get_or (set_bus_after p bus l) i 0 ≡ get_or l i 0
set_bus_elsewhere p bus l i h = store_elsewhere (set_bus_number p bus l) l (bus_index p) bus i h

-- making a partition inactive keeps every word but its bus word
pub make_inactive_elsewhere : (p : ℕ) (l : List ℕ) (i : ℕ) → (i ≡ bus_index p → ⊥) → get_or (make_inactive_after p l) i 0 ≡ get_or l i 0
make_inactive_elsewhere p l i h = store_elsewhere (make_inactive_number p l) l (bus_index p) inactive_word i h
