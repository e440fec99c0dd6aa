-- What is known of an entry that was found: it is a slot of its owner, and holds the ID. By the laws of `first`. Assumes nothing.
use Prim.Native.Nat.{ℕ, ◌<◌}
use Rattle.std.specs.Prelude.{Option, Some}
use mathlib.Core.Path.{◌≡◌, ap, ◌∙◌}
use mathlib.Core.Bool.{true}
use mathlib.Core.List.{List}
use borrow.Author.Tests.{ltb-true, eqb-true}
use lib.Dec.{ltb}
use Rattle.ground.proofs.Laws.Pick.{either}
use Rattle.ground.proofs.Laws.Scan.{holds}
use Rattle.numbers.specs.Entries.{slots, entry_index, entry_at, holds_id, slot_holds, lowest_slot, entry_of}
use Rattle.numbers.specs.declared.entries.Entry.{Entry}
use Rattle.numbers.specs.declared.entries.Entry.TheVariants.{Free, Held}

-- an entry that holds an ID is held with it
pub holds_held : (e : Entry) (id : ℕ) → holds_id e id ≡ true → e ≡ Held id
holds_held Free id q = absurd (cc)
holds_held (Held held) id q = ap Held (eqb-true held id q)

-- the slot, the index and the ID of an entry that was found
pub found_holds : (numbers : List ℕ) (p id i : ℕ) → entry_of numbers p id ≡ Some i → (s : ℕ) × (s < slots) × (i ≡ entry_index p s) × (entry_at numbers i ≡ Held id)
found_holds numbers p id i =
    let s = lowest_slot numbers p id in
    either (λ (r : Option ℕ). r ≡ Some i → (s : ℕ) × (s < slots) × (i ≡ entry_index p s) × (entry_at numbers i ≡ Held id)) (ltb s slots)
    (λ t q.
    let below : s < slots = ltb-true s slots t in
    let here : i ≡ entry_index p s = cc in
    (s, below, here, ap (entry_at numbers) here ∙ holds_held (entry_at numbers (entry_index p s)) id (holds (slot_holds numbers p id) 0 slots below)))
    (λ t q. absurd (cc))
