-- R-3 is not empty: where slot 0 of partition 1 has the bit, H crosses and stays marked; and B with EP, after A, meets every premise of the
-- return and comes back to 1 under A's own requester ID and tag. Where no row has it, B with EP is refused by 5, as H is in the sheet's own
-- table. Each premise is computed on the sheet's tables, but for that bit. Assumes nothing.
use Prim.Native.Nat.{ℕ, ◌≤◌, ◌<◌, ◌^◌}
use mathlib.Core.Path.{◌≡◌, refl, ap}
use mathlib.Core.Bool.{true}
use mathlib.Core.List.{List, [], ◌∷◌}
use native.Mathlib.Omega.{arith}
use borrow.Author.Tests.{le-ltb}
use lib.ListN.{length, get_or, set}
use Rattle.ground.specs.Pick.{pick}
use Rattle.ground.specs.Scan.{first, some}
use Rattle.header.specs.Words.{word_at, header_of}
use Rattle.header.specs.Fields.{is_poisoned}
use Rattle.header.specs.Rewrite.{readdressed}
use Rattle.tlp.specs.Form.{request_form, form_of}
use Rattle.rows.specs.Row.{aligned, in_force, spans}
use Rattle.look.specs.Look.{look_up, way_back}
use Rattle.numbers.specs.Entries.{look_at}
use Rattle.switch.specs.declared.answer.Sent.{Sent}
use Rattle.routing.specs.Call.{lent, Call, call_of}
use Rattle.routing.specs.Rule.{gate_of, owner_plan, completion_plan, to_destination, through_mark, back_mark}
use Rattle.switch.specs.Answer.{crossed, dropped, refused}
use Rattle.switch.specs.After.{answer_of}
use Rattle.sheet.specs.Tables.{windows, numbers, logs}
use Rattle.sheet.specs.Cases.{wire, four, words, case_h, over_sheet}
use Rattle.sheet.proofs.Laws.Cases.{long_enough}
use Rattle.demands.specs.Call.{came_out}
use Rattle.demands.specs.Demand3.{ComesBack}
use Rattle.demands.proofs.Laws.CameOut.{came_out_whole}
use Rattle.demands.proofs.Laws.Return.{returns}
use Rattle.demands.proofs.Laws.Witness.{below, call_a, sent_a, a_passed, completes_a}

-- the sheet's windows, with bit 13 in the control word of slot 0 of partition 1
unfoldable pub chosen : List ℕ
chosen = set windows 50 0x3014

-- they are words of 64 bits
chosen_fit : (i : ℕ) → get_or chosen i 0 < 2 ^ 64
unfolding chosen windows
chosen_fit i = below (2 ^ 64) chosen refl (omega arith) i

-- B with EP
abbrev marked_b : List ℕ
marked_b = wire (0x4A004001 ∷ 0x01000004 ∷ 0x01460510 ∷ 0x11223344 ∷ [])

-- a packet over these windows and the sheet's other tables
abbrev over_chosen : ℕ → List ℕ → List ℕ → Call
over_chosen p packet out = call_of p packet (lent chosen numbers) logs out

-- what H comes out with
abbrev sent_h : Sent
sent_h = four (words 0x60004001 0x0146050F 0x00000001 0x40000010) 0 20

-- H crosses
pub h_crosses : (out : List ℕ) → 4112 ≤ length out → answer_of (over_chosen 1 case_h.packet out) ≡ crossed sent_h
unfolding pick word_at readdressed request_form form_of first aligned in_force spans look_up look_at gate_of to_destination through_mark chosen windows numbers logs
h_crosses out h = long_enough 1 case_h.packet (lent chosen numbers) (length out) h

-- and stays marked
pub h_stays_marked : (out : List ℕ) → 4112 ≤ length out → is_poisoned (header_of (came_out (over_chosen 1 case_h.packet out) sent_h)) ≡ true
h_stays_marked out h =
    let bytes = below (2 ^ 8) case_h.packet refl (omega arith) in
    ap is_poisoned (came_out_whole (over_chosen 1 case_h.packet out) sent_h (record { bytes = bytes; words = chosen_fit }) (h_crosses out h)).header_is

-- B with EP comes back after A, over any two Outs that are long enough
pub marked_b_after_a : (o out : List ℕ) → 4112 ≤ length o → 4112 ≤ length out → ComesBack (call_a o) (over_chosen 0 marked_b out)
unfolding pick word_at form_of aligned in_force chosen windows numbers logs
marked_b_after_a o out g h =
    let c = over_chosen 0 marked_b out in
    let bytes = below (2 ^ 8) marked_b refl (omega arith) in
    returns (call_a o) c sent_a (a_passed o g)
    (completes_a o g c (record { bytes = bytes; words = chosen_fit }) refl refl (le-ltb (length out) 4112 h) refl refl refl)
    (record { entry = refl; own_bus = refl; bus = refl; window = record { slot = 0; slot_lt = omega arith; leading = refl } })

-- and over the sheet's own windows it is refused by 5
pub marked_b_refused : (out : List ℕ) → 4112 ≤ length out → answer_of (over_sheet 0 marked_b out) ≡ dropped 5
unfolding pick word_at form_of some aligned in_force way_back look_at gate_of owner_plan completion_plan back_mark refused windows numbers logs
marked_b_refused out h = long_enough 0 marked_b (lent windows numbers) (length out) h
