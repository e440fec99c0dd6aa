-- R-1 is not empty: M, passed from 1 over any Out that is long enough, is a flush that crosses, and comes out as one; and C with its first
-- enables 0 is a flush that is answered. Each premise is computed on the sheet's tables. Assumes nothing.
use Prim.Native.Nat.{ℕ, ◌≤◌}
use mathlib.Core.Path.{◌≡◌, refl}
use mathlib.Core.List.{List, [], ◌∷◌}
use lib.ListN.{length}
use Rattle.ground.specs.Pick.{pick}
use Rattle.ground.specs.Scan.{first}
use Rattle.header.specs.Words.{word_at, header_of}
use Rattle.header.specs.Rewrite.{readdressed}
use Rattle.tlp.specs.Form.{request_form, form_of}
use Rattle.count.specs.Count.{byte_count_of}
use Rattle.rows.specs.Row.{aligned, in_force, spans}
use Rattle.look.specs.Look.{look_up}
use Rattle.numbers.specs.Entries.{look_at}
use Rattle.switch.specs.declared.answer.Sent.{Sent}
use Rattle.routing.specs.Call.{lent, Call}
use Rattle.routing.specs.Rule.{gate_of, to_destination, through_mark}
use Rattle.switch.specs.Answer.{answered, refused}
use Rattle.switch.specs.After.{answer_of}
use Rattle.sheet.specs.Tables.{windows, numbers, logs}
use Rattle.sheet.specs.Cases.{wire, four, three, words, case_m, over_sheet}
use Rattle.sheet.proofs.Laws.Cases.{long_enough}
use Rattle.demands.specs.Flush.{Flush, FlushCameOut}
use Rattle.demands.proofs.Laws.Flush.{flush_crosses}
use Rattle.demands.proofs.Laws.Witness.{lent_bytes}

-- M over some Out
abbrev call_m : List ℕ → Call
call_m out = over_sheet case_m.sender case_m.packet out

-- what M comes out with
abbrev sent_m : Sent
sent_m = four (words 0x20000001 0x01460500 0x00000001 0x40000010) 0 16

-- M is a flush
m_is_a_flush : Flush (header_of case_m.packet)
unfolding pick word_at
m_is_a_flush = record { request = refl; one_dword = refl; none_first = refl; none_last = refl }

-- that crosses, and comes out as one
pub m_comes_out : (out : List ℕ) → 4112 ≤ length out → FlushCameOut (call_m out) sent_m
unfolding pick word_at readdressed request_form form_of first aligned in_force spans look_up look_at gate_of to_destination through_mark windows numbers logs
m_comes_out out h =
    flush_crosses (call_m out) sent_m (lent_bytes 1 case_m.packet out refl) m_is_a_flush
    (long_enough 1 case_m.packet (lent windows numbers) (length out) h)

-- C with first enables 0
abbrev past : List ℕ
past = wire (0x00000001 ∷ 0x03000500 ∷ 0x90100000 ∷ [])

-- is a flush, too
pub past_is_a_flush : Flush (header_of past)
unfolding pick word_at
past_is_a_flush = record { request = refl; one_dword = refl; none_first = refl; none_last = refl }

-- and past the window it is answered, with the byte count 1
pub past_answered : (out : List ℕ) → 4112 ≤ length out
    → answer_of (over_sheet 1 past out) ≡ answered 6 (three (words 0x0A000000 0x02002001 0x03000500 0) 1 12)
unfolding pick word_at request_form form_of byte_count_of first aligned in_force spans look_up gate_of refused windows numbers logs
past_answered out h = long_enough 1 past (lent windows numbers) (length out) h
