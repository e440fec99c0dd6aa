-- Demand 1, for every call: a refusal is one of the list's, and alters nothing of Out but the 12 bytes of the answer that the list
-- names, and no log but the sender's; the lengths stay.
-- A refusal is listed, what is written over the start of Out is read there, and passing has its own laws of frames. Assumes nothing.
use Prim.Native.Nat.{ℕ, ◌≤◌}
use mathlib.Core.Path.{◌≡◌, refl, sym, ap, ◌∙◌}
use mathlib.Core.List.{List, [], append-nil}
use native.Mathlib.Omega.{arith}
use lib.ListN.{length, take, drop}
use Rattle.wire.specs.Write.{header_list, packet_list, over}
use Rattle.wire.proofs.Laws.Write.{over_none, take_over, drop_over}
use Rattle.numbers.specs.Buses.{bus_of}
use Rattle.switch.specs.declared.answer.Sent.{Sent}
use Rattle.routing.specs.Call.{Call, head_of, body_of}
use Rattle.routing.specs.Rule.{bus_id}
use Rattle.switch.specs.Answer.{Answer, crossed, answered, dropped}
use Rattle.switch.specs.After.{out_after, answer_of, out_of}
use Rattle.routing.proofs.Laws.Call.{bus_lt, bus_id_lt}
use Rattle.switch.proofs.Laws.Frame.{length_of_logs, logs_elsewhere, length_of_out, answer_length}
use Rattle.demands.specs.Demand1.{OutAltered, Altered}
use Rattle.demands.proofs.Laws.Crossing.{right}
use Rattle.demands.proofs.Laws.Listed.{Answers, Listed, listed}

-- n bytes over the start of Out: they are read there, and what lies beyond is as it was
over_start : (out xs after : List ℕ) (n : ℕ) → after ≡ over out 0 xs → length xs ≡ n → n ≤ length out → (take n after ≡ xs) × (drop n after ≡ drop n out)
over_start out xs after n e k l =
    rw (← k, e) (take_over out xs (omega (arith, k, l)), drop_over out xs (omega (arith, k, l)))

-- an answer's header is 12 bytes
answer_header : (c : Call) (n : ℕ) (x : Sent) → Answers c n x → length (header_list x.header) ≡ 12
answer_header c n x a =
    let bus = bus_of c.tables.numbers c.sender in
    ap length (sym (append-nil (header_list x.header)))
    ∙ ap (λ (y : Sent). length (packet_list y.header [])) a.answer
    ∙ answer_length (head_of c) (bus_id bus) (bus_id_lt bus (bus_lt c.tables.numbers c.sender a.entered.active))

-- what a refusal alters of Out
out_altered : (c : Call) → OutAltered c (answer_of c)
out_altered c = by_answer (answer_of c) refl (listed c)
  where
    by_answer : (a : Answer) → out_of c ≡ out_after a (body_of c) c.out → Listed c a → OutAltered c a
    by_answer (crossed x) e l = tt
    by_answer (answered n x) e l =
        let xs = header_list x.header in
        let room : 12 ≤ length c.out = omega (arith, (right c l.entered).length_of_out) in
        let w = over_start c.out xs (out_of c) 12 (e ∙ ap (over c.out 0) (append-nil xs)) (answer_header c n x l) room in
        record { listed = (l.from_5, l.to_8); read = l.read; answer = l.answer; written = w.0; beyond = w.1 }
    by_answer (dropped n) e l = (l.listed, e ∙ over_none c.out 0)

-- the demand
pub altered : (c : Call) → Altered c
altered c =
    record {
      out = out_altered c;
      length_of_out = length_of_out (answer_of c) (body_of c) c.out;
      logs = logs_elsewhere (answer_of c) c.sender (head_of c) c.logs;
      length_of_logs = length_of_logs (answer_of c) c.sender (head_of c) c.logs;
    }
