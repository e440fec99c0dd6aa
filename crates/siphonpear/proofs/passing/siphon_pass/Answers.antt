-- The passing call has the rule's answer, which is small enough to be written as words; a short buffer is refused first. Assumes nothing.
use Rattle.siphonpear.proofs.Laws.Call.{too_short_lem, long_enough}
use Rattle.routing.specs.Call.{lent, call_of, asked}
use Rattle.switch.proofs.Laws.Small.{small}
use Rattle.siphonpear.proofs.passing.siphon_pass.Goals as goal

pub returns-then-answer-lt-ANSWER_LENGTH : goal.returns-then-answer-lt-ANSWER_LENGTH
returns-then-answer-lt-ANSWER_LENGTH c =
    let a = c.args in
    let call = call_of a.p a.packet.now (lent a.windows.now a.numbers.now) a.logs.now a.out.now in
    rw c.from.ensures (too_short_lem call a.answer.now c.if-answer-lt-ANSWER_LENGTH.true)

pub put_answer-requires : goal.put_answer-requires
put_answer-requires c =
    let a = c.args in
    let call = call_of a.p a.packet.now (lent a.windows.now a.numbers.now) a.logs.now a.out.now in
    (c.if-answer-lt-ANSWER_LENGTH.false, small (asked call) c.pass-outcome.ensures.answer)

pub returns : goal.returns
returns c =
    let a = c.args in
    let e = c.pass-outcome.ensures in
    let call = call_of a.p a.packet.now (lent a.windows.now a.numbers.now) a.logs.now a.out.now in
    long_enough call a.answer.now _ _ _ _ _ _ c.if-answer-lt-ANSWER_LENGTH.false e c.from-2.ensures c.put_answer.ensures
