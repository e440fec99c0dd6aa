-- The rule that settles it, for every call: what crossed passed by an open window and a filled entry, and no log changed; what was
-- refused stayed at home, and but for 1 and 2 it is logged there and nowhere else.
-- What holds at a way names the window and the entry; the log's laws say what a refusal leaves. Assumes nothing.
use Rattle.std.specs.Prelude.{Option}
use Prim.Native.Nat.{ℕ, ◌/◌, ◌%◌, ◌≤◌}
use mathlib.Core.Path.{◌≡◌, refl, sym, ap, ◌∙◌}
use mathlib.Core.Bool.{Bool, true, false, not, ◌&&◌}
use mathlib.Core.Logic.{◌⊎◌, inl, inr, ⊎_elim}
use mathlib.Core.List.{List}
use native.Mathlib.Omega.{arith}
use borrow.Author.Tests.{eqb-true, not-false}
use lib.Bits.{bit_or}
use Rattle.ground.specs.Field.{field}
use Rattle.header.specs.Fields.{is_poisoned, address, completion_requester_id}
use Rattle.look.proofs.Laws.Look.{opened, reached_by}
use Rattle.numbers.specs.Entries.{entry_index, entry_at}
use Rattle.numbers.specs.Buses.{bus_of}
use Rattle.logs.specs.Logs.{status_of, bit_number, bit_mask}
use Rattle.logs.proofs.Laws.Status.{set_bit, status_recorded}
use Rattle.switch.specs.declared.answer.Sent.{Sent}
use Rattle.routing.specs.Call.{Tables, Call, reached, head_of, asked}
use Rattle.routing.specs.Rule.{mapped_id}
use Rattle.routing.specs.Why.{Entered}
use Rattle.switch.specs.Answer.{Answer, crossed, answered, dropped}
use Rattle.switch.specs.After.{log_bit, logged, logs_after, answer_of, logs_of}
use Rattle.switch.proofs.Laws.Logged.{has_bit, no_bit}
use Rattle.switch.proofs.Laws.Frame.{logs_elsewhere}
use Rattle.demands.specs.Settled.{RequestPassed, CompletionPassed, AtHome, Fate, Settles}
use Rattle.demands.proofs.Laws.Crossing.{gone_over, Went, Came, crossed_way, right, went_filled, came_index_lt}
use Rattle.demands.proofs.Laws.Listed.{Listed, listed}
use Rattle.logs.specs.declared.Bit.{Bit}

-- who reaches a partition and is not stopped on the way reaches it so marked as it is
reached_so : (tables : Tables) (p q : ℕ) (marked : Bool) → reached tables p q false ≡ true → (marked && not (reached tables p q marked)) ≡ false
    → reached tables p q marked ≡ true
reached_so tables p q true r e = not-false (reached tables p q true) e
reached_so tables p q false r e = r

-- a request that went over passed by the window that covers its address and the entry that was found
went_passed : (c : Call) (x : Sent) → Went c x → RequestPassed c x
went_passed c x w =
    let f = went_filled c x w in
    let admitted = w.named.admitted in
    record {
      way = w.way;
      window = opened c.tables.windows c.sender (address (head_of c)) w.way admitted.opened.opened;
      admitted = admitted.admitted;
      place = f.slot;
      place_lt = f.slot_lt;
      filled = ap (entry_at c.tables.numbers) (sym f.index_is) ∙ f.held;
      sent = w.sent ∙ ap (gone_over c w.way) f.index_is;
    }

-- a completion that came back passed by the entry that its number names and a row that leads to its sender
came_passed : (c : Call) (x : Sent) → Came c x → CompletionPassed c x
came_passed c x w =
    let i = w.index in
    let id = completion_requester_id (head_of c) in
    let own = mapped_id (bus_of c.tables.numbers c.sender) in
    let p = w.holds.0 in
    let marked = is_poisoned (head_of c) in
    let lt = came_index_lt c x w in
    let here : i ≡ entry_index (i / 4) (i % 4) = omega arith in
    record {
      owner = i / 4;
      owner_lt = omega (arith, lt);
      place = i % 4;
      place_lt = omega arith;
      number = eqb-true id (own i) p.owned.is_held.mapped.number ∙ ap own here;
      id = w.id;
      filled = ap (entry_at c.tables.numbers) (sym here) ∙ p.owned.is_held.held;
      window = reached_by c.tables.windows (i / 4) c.sender marked (reached_so c.tables (i / 4) c.sender marked p.row w.holds.1);
      sent = w.sent;
    }

-- what crossed is one or the other
pub passed_by : (c : Call) (x : Sent) → answer_of c ≡ crossed x → RequestPassed c x ⊎ CompletionPassed c x
passed_by c x e = ⊎_elim (λ w. inl (went_passed c x w)) (λ w. inr (came_passed c x w)) (crossed_way c x e)

-- what was refused by n, in the logs that n leaves
at_home : (c : Call) (n : ℕ) → logs_of c ≡ logged (log_bit n) c.sender (head_of c) c.logs → (3 ≤ n → Entered (asked c)) → AtHome c n
at_home c n e entered =
    let after : Option Bit → List ℕ = λ k. logged k c.sender (head_of c) c.logs in
    record {
      logged = λ h.
          let b = has_bit n h in
          let r = right c (entered h) in
          let status : status_of c.sender (logs_of c) ≡ bit_or (status_of c.sender c.logs) (bit_mask b.0) =
          ap (status_of c.sender) (e ∙ ap after b.1)
          ∙ status_recorded c.sender b.0 (head_of c) c.logs (omega (arith, r.partition, r.length_of_logs)) in
          record {
            bit = b.0;
            named = b.1;
            status = status;
            lit = ap (field (bit_number b.0) 1) status ∙ set_bit (bit_number b.0) (status_of c.sender c.logs);
          };
      unlogged = λ h. e ∙ ap after (no_bit n h);
      elsewhere = logs_elsewhere (answer_of c) c.sender (head_of c) c.logs;
    }

-- the rule
pub settles : Settles
settles c = by_answer (answer_of c) refl refl (listed c)
  where
    by_answer : (a : Answer) → answer_of c ≡ a → logs_of c ≡ logs_after a c.sender (head_of c) c.logs → Listed c a → Fate c a
    by_answer (crossed x) e k l = (passed_by c x e, k)
    by_answer (answered n x) e k l = at_home c n k (λ _. l.entered)
    by_answer (dropped n) e k l = at_home c n k l.entered
