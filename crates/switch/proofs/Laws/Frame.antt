-- What a passed packet leaves alone, the lengths and every word of the logs outside the sender's row; and the length of an answer. By the
-- answer: a log is kept or recorded in, and Out is written over from its start. Assumes nothing.
use Rattle.std.specs.Prelude.{Option, Some, None}
use Prim.Native.Nat.{ℕ, ◌+◌, ◌^◌, ◌≤◌, ◌<◌}
use mathlib.Core.Path.{◌≡◌, refl, ap, ◌∙◌}
use mathlib.Core.Logic.{◌⊎◌}
use mathlib.Core.List.{List, []}
use native.Mathlib.Omega.{arith}
use borrow.Author.Tests.{eqb-true, not-false}
use lib.Dec.{eqb}
use lib.ListN.{length, get_or}
use Rattle.header.specs.Kind.{header_bytes}
use Rattle.header.specs.Fields.{kind, total_bytes}
use Rattle.header.specs.declared.words.Header.{Header}
use Rattle.header.proofs.Laws.Lengths.{header_bounds}
use Rattle.count.specs.Count.{answer_to}
use Rattle.wire.specs.Write.{packet_list}
use Rattle.wire.proofs.Laws.Write.{length_over, length_packet}
use Rattle.tlp.proofs.Laws.Form.{inverted_completion}
use Rattle.count.proofs.Laws.Answer.{answer_form}
use Rattle.logs.specs.Logs.{row_width, row_at}
use Rattle.logs.proofs.Laws.Frame.{recorded_length, recorded_elsewhere}
use Rattle.switch.specs.Answer.{Answer, crossed, answered, dropped}
use Rattle.switch.specs.After.{written_of, out_after, log_bit, logged, logs_after}
use Rattle.logs.specs.declared.Bit.{Bit}

-- ---- the logs

logged_length : (b : Option Bit) (p : ℕ) (h : Header) (logs : List ℕ) → length (logged b p h logs) ≡ length logs
logged_length None p h logs = refl
logged_length (Some b) p h logs = recorded_length p b h logs

logged_elsewhere : (b : Option Bit) (p : ℕ) (h : Header) (logs : List ℕ) (i : ℕ) → (i < row_at p) ⊎ (row_at p + row_width ≤ i)
    → get_or (logged b p h logs) i 0 ≡ get_or logs i 0
logged_elsewhere None p h logs i o = refl
logged_elsewhere (Some b) p h logs i o = recorded_elsewhere p b h logs i o

-- the logs keep their length
pub length_of_logs : (a : Answer) (p : ℕ) (h : Header) (logs : List ℕ) → length (logs_after a p h logs) ≡ length logs
length_of_logs (crossed s) p h logs = refl
length_of_logs (answered n s) p h logs = logged_length (log_bit n) p h logs
length_of_logs (dropped n) p h logs = logged_length (log_bit n) p h logs

-- a packet from p changes no word of the logs outside p's row
pub logs_elsewhere : (a : Answer) (p : ℕ) (h : Header) (logs : List ℕ) (i : ℕ) → (i < row_at p) ⊎ (row_at p + row_width ≤ i)
    → get_or (logs_after a p h logs) i 0 ≡ get_or logs i 0
logs_elsewhere (crossed s) p h logs i o = refl
logs_elsewhere (answered n s) p h logs i o = logged_elsewhere (log_bit n) p h logs i o
logs_elsewhere (dropped n) p h logs i o = logged_elsewhere (log_bit n) p h logs i o

-- ---- Out

-- Out keeps its length
pub length_of_out : (a : Answer) (body out : List ℕ) → length (out_after a body out) ≡ length out
length_of_out a body out = length_over out 0 (written_of a body)

-- an answer is 12 bytes long
pub answer_length : (h : Header) (c : ℕ) → c < 2 ^ 16 → length (packet_list (answer_to h c) []) ≡ 12
answer_length h c b =
    let g = answer_to h c in
    let f = (inverted_completion 12 g g (answer_form h c b)).0 in
    let size : 12 ≡ total_bytes g = eqb-true 12 (total_bytes g) (not-false (eqb 12 (total_bytes g)) f.whole) in
    let short : header_bytes (kind g) ≡ 12 = omega (arith, header_bounds (kind g)) in
    length_packet g [] ∙ ap (λ (n : ℕ). n + 0) short
