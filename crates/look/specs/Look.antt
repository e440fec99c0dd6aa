-- The look: what becomes of an address, who leads where, and the one question that passing asks of a partition's rows.
use Rattle.std.specs.Prelude.{ℕ, ◌+◌, ◌-◌, ◌≤◌, ◌<◌, Bool, true, false, ◌≡◌, List, ltb, Option, Some, None}
use Rattle.ground.specs.Pick.{pick}
use Rattle.ground.specs.Scan.{first, some}
use Rattle.rows.specs.Row.{slots, row_of, destination, passes_marked, in_force, covers, leads}
use Rattle.rows.specs.declared.Window.{Window}
use Rattle.look.specs.declared.Translation.{Translation}
use Rattle.look.specs.declared.Question.{Question}
use Rattle.look.specs.declared.Question.TheVariants.{Silent, Address, Return}

-- slot s of partition p covers the address
abbrev pub slot_covers : List ℕ → ℕ → ℕ → ℕ → Bool
slot_covers windows p a s = covers p a (row_of windows p s)

-- "the lowest slot of p that is in force and covers the address", or the number of slots
abbrev pub lowest_slot : List ℕ → ℕ → ℕ → ℕ
lowest_slot windows p a = first (slot_covers windows p a) 0 slots

-- "address − base + target", the row's destination, and whether marked packets may pass by the row
abbrev pub translated : Window → ℕ → Translation
translated w a = record { destination = destination w; address = a - w.base + w.target; marked = passes_marked w }

-- what the windows say of an address
unfoldable pub look_up : List ℕ → ℕ → ℕ → Option Translation
look_up windows p a = pick (ltb (lowest_slot windows p a) slots) (Some (translated (row_of windows p (lowest_slot windows p a)) a)) None

-- slot s of partition p is in force with destination q, for packets so marked
abbrev pub slot_leads : List ℕ → ℕ → ℕ → Bool → ℕ → Bool
slot_leads windows p q marked s = leads p q marked (row_of windows p s)

-- p has "some row in force with destination q"; R-3, for marked packets: "some in-force row of p to q has the bit"
abbrev pub reaches : List ℕ → ℕ → ℕ → Bool → Bool
reaches windows p q marked = some (slot_leads windows p q marked) slots

-- what the windows of p say of packets so marked that come back from q: they come out in p, if p has some row to q
unfoldable pub way_back : List ℕ → ℕ → ℕ → Bool → Option Translation
way_back windows p q marked =
    pick (reaches windows p q false) (Some (record { destination = p; address = 0; marked = reaches windows p q marked })) None

-- what they answer to each question
abbrev pub look_of : Question → ℕ → List ℕ → Option Translation
look_of Silent p windows = None
look_of (Address a) p windows = look_up windows p a
look_of (Return q marked) p windows = way_back windows p q marked

-- ---- windows as the demands speak of them

-- an address of p is covered and becomes t: by the lowest slot that is in force and covers it
pub record CoveredBy (windows : List ℕ) (p a : ℕ) (t : Translation) : Type 0 where
  pub slot : ℕ
  pub slot_lt : slot < slots
  pub covering : covers p a (row_of windows p slot) ≡ true
  pub lowest : (s : ℕ) → s < slot → covers p a (row_of windows p s) ≡ false
  pub becomes : t ≡ translated (row_of windows p slot) a

-- p has a way to q for packets so marked: a row in force
pub record WayTo (windows : List ℕ) (p q : ℕ) (marked : Bool) : Type 0 where
  pub slot : ℕ
  pub slot_lt : slot < slots
  pub leading : leads p q marked (row_of windows p slot) ≡ true

-- "she keeps them shut": no row of any partition is in force
abbrev pub AllShut : List ℕ → Type 0
AllShut windows = (p s : ℕ) → p ≤ 15 → s < slots → in_force p (row_of windows p s) ≡ false

-- no row of any partition lets marked packets pass
abbrev pub NoneChosen : List ℕ → Type 0
NoneChosen windows = (p s : ℕ) → p ≤ 15 → s < slots → passes_marked (row_of windows p s) ≡ false
