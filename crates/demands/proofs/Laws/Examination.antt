-- Where no row of any partition is in force nothing crosses, whatever the packet, the numbers and the logs are.
-- What crosses passed by a row in force of one of the sixteen, and there is none. Assumes nothing.
use mathlib.Core.Logic.{⊎_elim}
use native.Mathlib.Omega.{arith}
use Rattle.header.specs.Fields.{is_poisoned, address}
use Rattle.look.proofs.Laws.Look.{shut_covers_none, shut_no_way}
use Rattle.routing.specs.Call.{head_of}
use Rattle.demands.specs.Settled.{NothingCrosses}
use Rattle.demands.proofs.Laws.Crossing.{crossed_way, crossed_entered, right}
use Rattle.demands.proofs.Laws.Settled.{passed_by}

-- then nothing crosses
pub nothing_crosses : NothingCrosses
nothing_crosses c x shut e =
    let p = (right c (crossed_entered c x (crossed_way c x e))).partition in
    ⊎_elim
    (λ r. shut_covers_none c.tables.windows shut c.sender (address (head_of c)) r.way p r.window)
    (λ r. shut_no_way c.tables.windows shut r.owner c.sender (is_poisoned (head_of c)) (omega (arith, r.owner_lt)) r.window)
    (passed_by c x e)
