-- What the code asks of a way before it makes the answer: bus and index fit their fields. A private contract speaks of it.
use Rattle.std.specs.Prelude.{ℕ, ◌/◌, ◌<◌, true, ◌≡◌, List, Result, Ok, Err}
use Rattle.numbers.specs.Buses.{is_active}
use Rattle.routing.specs.declared.rule.Way.{Way}
use Rattle.routing.specs.declared.rule.Way.TheVariants.{Goes, Comes}
use Rattle.routing.specs.declared.refusal.Refusal.{Refusal}

-- a way leads to an active partition, a request by one of the 64 entries
abbrev pub Reached : Result Way Refusal → List ℕ → Type 0
Reached (Err r) numbers = Unit {0}
Reached (Ok (Goes t i)) numbers = (is_active numbers t.destination ≡ true) × (i < 64)
Reached (Ok (Comes id i)) numbers = is_active numbers (i / 4) ≡ true
