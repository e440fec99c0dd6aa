-- Where a way leads: by what holds there, the way of a packet that entered leads to an active partition, a request by one of the 64
-- entries. Assumes nothing.
use Rattle.std.specs.Prelude.{Result, Ok, Err}
use Prim.Native.Nat.{ℕ, ◌<◌}
use native.Mathlib.Omega.{arith}
use Rattle.header.specs.Fields.{requester_id}
use Rattle.look.specs.declared.Translation.{Translation}
use Rattle.numbers.proofs.Laws.Entries.{found_holds}
use Rattle.routing.specs.declared.rule.Way.{Way}
use Rattle.routing.specs.declared.rule.Way.TheVariants.{Goes, Comes}
use Rattle.routing.specs.Call.{Asked}
use Rattle.routing.specs.Rule.{carried_way}
use Rattle.routing.specs.Why.{Entered, Named, Holds}
use Rattle.routing.specs.Steps.{Reached}
use Rattle.routing.proofs.Laws.Call.{right_call}
use Rattle.routing.proofs.Laws.Exactly.{carried_holds}
use Rattle.routing.specs.declared.refusal.Refusal.{Refusal}

-- an entry of the sender's is one of the 64
pub named_lt : (a : Asked) {t : Translation} {i : ℕ} → Named a t i → i < 64
named_lt a {t} {i} n =
    let call = right_call a.sender a.tables a.logs a.out n.admitted.opened.requests.entered.right in
    let f = found_holds a.tables.numbers a.sender (requester_id a.head) i n.entry in
    omega (arith, call.partition, f.1, f.2)

-- what holds at a way says where it leads
reached_by : (a : Asked) (y : Result Way Refusal) → Holds a y → Reached y a.tables.numbers
reached_by a (Err r) e = tt
reached_by a (Ok (Goes t i)) e = (e.1, named_lt a e.0)
reached_by a (Ok (Comes id i)) e = e.0.owned.owner_active

-- the way of a packet that entered
pub reached_way : (a : Asked) → Entered a → Reached (carried_way a.sender a.head a.size a.tables) a.tables.numbers
reached_way a n = reached_by a (carried_way a.sender a.head a.size a.tables) (carried_holds a n)
