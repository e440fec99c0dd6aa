-- What the gate decides: closed, it is 1 or 2, which is dropped and not logged; passed, the call is right and its sender active, and the
-- packet goes the way on which it is carried. By the gate's two tests. Assumes nothing.
use Rattle.std.specs.Prelude.{Option, Result, Ok, Err}
use Prim.Native.Nat.{ℕ, ◌<◌}
use mathlib.Core.Path.{◌≡◌, refl, sym, ap, ◌∙◌, subst}
use mathlib.Core.Bool.{true, false, not}
use mathlib.Core.List.{List}
use native.Mathlib.Omega.{arith}
use borrow.Author.Tests.{not-false}
use lib.ListN.{length}
use Rattle.ground.proofs.Laws.Pick.{pass, either}
use Rattle.wire.proofs.Laws.Write.{over_none}
use Rattle.numbers.specs.Buses.{is_active}
use Rattle.routing.specs.declared.refusal.Refusal.{Refusal}
use Rattle.routing.specs.Call.{Tables, Call, head_of, size_of, body_of}
use Rattle.routing.specs.Rule.{wrong_call, gate_of, gate_for, carried_way, by_gate}
use Rattle.switch.specs.Answer.{Answer, dropped, refused, way_answer}
use Rattle.routing.specs.Refusal.{refusal_number, answers_reads}
use Rattle.switch.specs.After.{out_after, logged, logs_after, answer_of, Passes}
use Rattle.switch.proofs.Laws.Logged.{no_bit}
use Rattle.logs.specs.declared.Bit.{Bit}

-- what is said of a gate: closed by 1 or 2, or both tests were passed over
abbrev Decided : ℕ → Tables → ℕ → ℕ → Result Unit Refusal → Type 0
Decided p tables logs out (Err r) = (answers_reads r ≡ false) × (refusal_number r < 3)
Decided p tables logs out (Ok passed) = (wrong_call p tables logs out ≡ false) × (is_active tables.numbers p ≡ true)

decided : (p : ℕ) (tables : Tables) (logs out : ℕ) → Decided p tables logs out (gate_for p tables logs out)
unfolding gate_of
decided p tables logs out =
    let said : Result Unit Refusal → Type 0 = Decided p tables logs out in
    either said (wrong_call p tables logs out) (λ _. (refl, omega arith))
    (λ w. either said (not (is_active tables.numbers p)) (λ _. (refl, omega arith)) (λ a. (w, not-false (is_active tables.numbers p) a)))

-- passed: the call is right, and the sender active
pub entered_at : (p : ℕ) (tables : Tables) (logs out : ℕ) → gate_for p tables logs out ≡ Ok tt
    → (wrong_call p tables logs out ≡ false) × (is_active tables.numbers p ≡ true)
entered_at p tables logs out e = subst (Decided p tables logs out) e (decided p tables logs out)

-- the gate of a call
abbrev gate : Call → Result Unit Refusal
gate c = gate_for c.sender c.tables (length c.logs) (length c.out)

-- the answer of a call by its gate
by_gate_lem : (c : Call) (g : Result Unit Refusal) → gate c ≡ g
    → answer_of c ≡ way_answer (by_gate g (carried_way c.sender (head_of c) (size_of c) c.tables)) c.sender (head_of c) c.tables.numbers
by_gate_lem c g e =
    let way = carried_way c.sender (head_of c) (size_of c) c.tables in
    ap (λ (k : Result Unit Refusal). way_answer (by_gate k way) c.sender (head_of c) c.tables.numbers) e

-- a closed gate: the packet is dropped, and everything stays
pub closed_call : (c : Call) (r : Refusal) → gate c ≡ Err r → Passes c (dropped (refusal_number r)) c.out c.logs c.tables.numbers
unfolding refused
closed_call c r e =
    let logs = length c.logs in
    let out = length c.out in
    let d = subst (Decided c.sender c.tables logs out) e (decided c.sender c.tables logs out) in
    let n = refusal_number r in
    let answer : dropped n ≡ answer_of c = pass _ _ _ (rw d.0 refl) refl ∙ sym (by_gate_lem c (Err r) e) in
    let after : Option Bit → List ℕ = λ k. logged k c.sender (head_of c) c.logs in
    record {
      answer = answer;
      out_is = sym (over_none c.out 0) ∙ ap (λ (a : Answer). out_after a (body_of c) c.out) answer;
      logs_are = sym (ap after (no_bit n d.1)) ∙ ap (λ (a : Answer). logs_after a c.sender (head_of c) c.logs) answer;
      numbers_kept = refl;
    }
