-- A closed gate drops the packet, and everything stays; past it the packet is carried with its own header words and data. Assumes nothing.
use native.Mathlib.Omega.{arith}
use mathlib.Core.Path.{sym}
use lib.ListN.{length}
use Rattle.routing.specs.Call.{lent, call_of}
use Rattle.routing.proofs.Laws.Call.{right_call}
use Rattle.switch.proofs.Laws.Gate.{entered_at, closed_call}
use Rattle.switch.proofs.pass.pass.Goals as goal

pub overflow_cast-carried : goal.overflow_cast-carried
overflow_cast-carried c =
    let a = c.args in
    let tables = lent a.windows.now a.numbers.now in
    let e = entered_at a.p tables (length a.logs.now) (length a.out.now) (sym c.in-Ok.ensures) in
    omega (arith, (right_call a.p tables (length a.logs.now) (length a.out.now) e.0).partition)

pub returns-in-Err : goal.returns-in-Err
returns-in-Err c =
    let a = c.args in
    let call = call_of a.p a.packet.now (lent a.windows.now a.numbers.now) a.logs.now a.out.now in
    closed_call call c.in-Err.refusal (sym c.in-Err.ensures)
