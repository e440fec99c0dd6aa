-- Demand 3 is not empty: A, passed from 1, and then B, passed from 0, meet every premise of the return, over any two Outs that are long enough,
-- and B comes back to 1 under A's own requester ID and tag. Each premise is computed on the sheet's tables, but for the number and the tag in
-- Out: what came out whole has the words of A's answer. Assumes nothing.
use Prim.Native.Nat.{ℕ, zero, suc, ◌≤◌, ◌<◌, ◌^◌}
use mathlib.Core.Path.{◌≡◌, refl, sym, ap, ◌∙◌}
use mathlib.Core.Bool.{Bool, true, false, ◌&&◌}
use mathlib.Core.List.{List, [], ◌∷◌}
use native.Mathlib.Omega.{arith}
use borrow.Author.Tests.{ltb-true, le-ltb}
use lib.Dec.{ltb}
use lib.ListN.{length, get_or}
use Rattle.ground.specs.Pick.{pick}
use Rattle.ground.specs.Scan.{first}
use Rattle.ground.proofs.Laws.Join.{both}
use Rattle.header.specs.Kind.{is_completion}
use Rattle.header.specs.Words.{word_at}
use Rattle.header.specs.Fields.{kind, requester_id, tag, completion_requester_id, completion_tag}
use Rattle.header.specs.Rewrite.{readdressed}
use Rattle.tlp.specs.Form.{request_form, form_of, packet_number}
use Rattle.rows.specs.Row.{aligned, in_force, spans}
use Rattle.look.specs.Look.{look_up}
use Rattle.numbers.specs.Entries.{look_at}
use Rattle.switch.specs.declared.answer.Sent.{Sent}
use Rattle.routing.specs.Call.{lent, Call, head_of, size_of}
use Rattle.routing.specs.Rule.{wrong_call, gate_of, to_destination, through_mark}
use Rattle.sheet.specs.Tables.{windows, numbers, logs}
use Rattle.sheet.specs.Cases.{four, words, case_a, case_b, over_sheet}
use Rattle.sheet.proofs.Laws.Cases.{long_enough}
use Rattle.demands.specs.Call.{Lent, Passed}
use Rattle.demands.specs.Demand3.{Completes, ComesBack}
use Rattle.demands.proofs.Laws.CameOut.{came_out_whole}
use Rattle.demands.proofs.Laws.Return.{returns}

-- every word of a list is below n, as a test
abbrev pub all_below : ℕ → List ℕ → Bool
all_below n [] = true
all_below n (x ∷ l) = ltb x n && all_below n l

-- so it is at every place, where none counts as 0
pub below : (n : ℕ) (l : List ℕ) → all_below n l ≡ true → 0 < n → (i : ℕ) → get_or l i 0 < n
below n [] e z i = z
below n (x ∷ l) e z zero = ltb-true x n (both (ltb x n) (all_below n l) e).0
below n (x ∷ l) e z (suc i) = below n l (both (ltb x n) (all_below n l) e).1 z i

-- the sheet's windows are words of 64 bits
pub windows_fit : (i : ℕ) → get_or windows i 0 < 2 ^ 64
unfolding windows
windows_fit i = below (2 ^ 64) windows refl (omega arith) i

-- bytes over the sheet's tables are lent
pub lent_bytes : (p : ℕ) (packet out : List ℕ) → all_below (2 ^ 8) packet ≡ true → Lent (over_sheet p packet out)
lent_bytes p packet out e = record { bytes = below (2 ^ 8) packet e (omega arith); words = windows_fit }

-- A and B over some Out
abbrev pub call_a : List ℕ → Call
call_a out = over_sheet case_a.sender case_a.packet out

abbrev call_b : List ℕ → Call
call_b out = over_sheet case_b.sender case_b.packet out

-- what A comes out with
abbrev pub sent_a : Sent
sent_a = four (words 0x20000001 0x0146050F 0x00000001 0x40000010) 0 16

-- A passes
pub a_passed : (out : List ℕ) → 4112 ≤ length out → Passed (call_a out) sent_a
unfolding pick word_at readdressed request_form form_of first aligned in_force spans look_up look_at gate_of to_destination through_mark windows numbers logs
a_passed out h =
    record {
      lent = lent_bytes 1 case_a.packet out refl;
      request = refl;
      went = long_enough 1 case_a.packet (lent windows numbers) (length out) h;
    }

-- a completion from 0 with A's number and tag completes it, whatever else it holds and whatever is lent
pub completes_a : (o : List ℕ) → 4112 ≤ length o → (c : Call) → Lent c → c.sender ≡ 0 → is_completion (kind (head_of c)) ≡ true
    → wrong_call c.sender c.tables (length c.logs) (length c.out) ≡ false → packet_number (form_of (size_of c) (head_of c)) ≡ 0
    → completion_requester_id (head_of c) ≡ 0x0146 → completion_tag (head_of c) ≡ 5 → Completes (call_a o) sent_a c
completes_a o g c l from kinds call formed number same_tag =
    let p = a_passed o g in
    let e = (came_out_whole (call_a o) sent_a p.lent p.went).header_is in
    record {
      lent = l;
      from_there = from;
      completion = kinds;
      right_call = call;
      well_formed = formed;
      that_number = number ∙ ap requester_id (sym e);
      that_tag = same_tag ∙ ap tag (sym e);
    }

-- B completes it
b_completes : (o out : List ℕ) → 4112 ≤ length o → 4112 ≤ length out → Completes (call_a o) sent_a (call_b out)
unfolding pick word_at form_of windows numbers logs
b_completes o out g h = completes_a o g (call_b out) (lent_bytes 0 case_b.packet out refl) refl refl (le-ltb (length out) 4112 h) refl refl refl

-- B after A, over any two Outs that are long enough
pub b_after_a : (o out : List ℕ) → 4112 ≤ length o → 4112 ≤ length out → ComesBack (call_a o) (call_b out)
unfolding word_at aligned in_force windows
b_after_a o out g h =
    returns (call_a o) (call_b out) sent_a (a_passed o g) (b_completes o out g h)
    (record { entry = refl; own_bus = refl; bus = refl; window = record { slot = 0; slot_lt = omega arith; leading = refl } })
