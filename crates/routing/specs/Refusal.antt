-- What the list says of each refusal: its number, and whether a read is answered.
use Rattle.std.specs.Prelude.{ℕ, Bool, true, false}
use Rattle.tlp.specs.Form.{rule_number}
use Rattle.routing.specs.declared.refusal.Refusal.{Refusal}
use Rattle.routing.specs.declared.refusal.Refusal.TheVariants.{WrongCall, SenderInactive, Broken, Poisoned, NoWindow, NoEntry, DestinationInactive, NotPassable}

-- the list's number of each refusal; a rule of form that broke has its own, which the packet layer names
abbrev pub refusal_number : Refusal → ℕ
refusal_number WrongCall = 1
refusal_number SenderInactive = 2
refusal_number (Broken r) = rule_number r
refusal_number Poisoned = 5
refusal_number NoWindow = 6
refusal_number NoEntry = 7
refusal_number DestinationInactive = 8
refusal_number NotPassable = 9

-- the list's column "Packet": "read answered" for 5 to 8, and dropped for every other
abbrev pub answers_reads : Refusal → Bool
answers_reads WrongCall = false
answers_reads SenderInactive = false
answers_reads (Broken r) = false
answers_reads Poisoned = true
answers_reads NoWindow = true
answers_reads NoEntry = true
answers_reads DestinationInactive = true
answers_reads NotPassable = false
