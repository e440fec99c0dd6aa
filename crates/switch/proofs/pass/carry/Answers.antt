-- Past the gate the sender is active, and the way, which the three steps make, reaches where it leads. Assumes nothing.
use Rattle.std.specs.Prelude.{Result}
use mathlib.Core.Path.{sym, subst}
use lib.ListN.{length}
use Rattle.routing.specs.Call.{lent, Asked}
use Rattle.routing.specs.Steps.{Reached}
use Rattle.routing.specs.declared.rule.Way.{Way}
use Rattle.routing.proofs.Laws.Reached.{reached_way}
use Rattle.switch.proofs.Laws.Gate.{entered_at}
use Rattle.switch.proofs.Laws.Carried.{steps}
use Rattle.switch.proofs.pass.carry.Goals as goal
use Rattle.routing.specs.declared.refusal.Refusal.{Refusal}

pub settle-requires : goal.settle-requires
settle-requires c =
    let a = c.args in
    let tables = lent a.windows.now a.packet.numbers.now in
    let q : Asked = record { sender = a.packet.p; head = a.packet.h; size = a.n; tables = tables; logs = length a.logs.now; out = length a.out.now } in
    let d = entered_at a.packet.p tables q.logs q.out c.requires in
    let way = steps a.packet.p a.packet.h a.n tables c.plan-plan.result c.question.result c.whose.result c.ask-seen.result c.finish-way.result
    c.plan-plan.ensures c.question.ensures c.whose.ensures c.ask-seen.ensures c.finish-way.ensures in
    (d.1, subst (λ (y : Result Way Refusal). Reached y a.packet.numbers.now) (sym way) (reached_way q (record { right = d.0; active = d.1 })))
