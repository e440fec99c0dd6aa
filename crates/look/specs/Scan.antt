-- One scan for every question: how far a row answers it, and what the scan has seen. The code's own contracts speak of these; what a
-- reader must believe of the look stands in Look.
use Rattle.std.specs.Prelude.{ℕ, Bool, false, List, ltb, Option, Some, None}
use Rattle.ground.specs.Pick.{pick}
use Rattle.ground.specs.Scan.{first, some}
use Rattle.rows.specs.Row.{slots, row_of, covers, leads}
use Rattle.rows.specs.declared.Window.{Window}
use Rattle.look.specs.declared.Question.{Question}
use Rattle.look.specs.declared.Question.TheVariants.{Silent, Address, Return}
use Rattle.look.specs.declared.Fit.{Fit}
use Rattle.look.specs.declared.Seen.{Seen}

-- wholly: it covers the address, or it leads there for packets so marked
abbrev pub fits : Question → ℕ → Window → Bool
fits Silent p w = false
fits (Address a) p w = covers p a w
fits (Return q marked) p w = leads p q marked w

-- but for the mark
abbrev pub half_fits : Question → ℕ → Window → Bool
half_fits Silent p w = false
half_fits (Address a) p w = false
half_fits (Return q marked) p w = leads p q false w

-- both
abbrev pub fit_of : Question → ℕ → Window → Fit
fit_of question p w = record { whole = fits question p w; half = half_fits question p w }

-- slot s of p
abbrev pub slot_fit : Question → ℕ → List ℕ → ℕ → Fit
slot_fit question p windows s = fit_of question p (row_of windows p s)

-- the lowest slot that answers wholly, or the number of slots
abbrev pub fitting_slot : Question → ℕ → List ℕ → ℕ
fitting_slot question p windows = first (λ (s : ℕ). fits question p (row_of windows p s)) 0 slots

-- that slot, or none
abbrev pub seen_slot : ℕ → Option ℕ
seen_slot s = pick (ltb s slots) (Some s) None

-- that slot, if there is one, and whether a slot below it answers but for the mark
abbrev pub seen_of : Question → ℕ → List ℕ → Seen
seen_of question p windows =
    record {
      slot = seen_slot (fitting_slot question p windows);
      half = some (λ (s : ℕ). half_fits question p (row_of windows p s)) (fitting_slot question p windows);
    }
