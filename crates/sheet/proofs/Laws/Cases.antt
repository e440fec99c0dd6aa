-- Cases A to N of the exam sheet, as one table: the rule, computed at each case, gives its answer, writes its bytes over any Out
-- that is long enough, and leaves its logs. By computation; an Out's length matters only in being long enough. Assumes nothing.
use Rattle.std.specs.Prelude.{Ok, Err}
use Prim.Native.Nat.{ℕ, ◌≤◌}
use mathlib.Core.Path.{◌≡◌, refl, ap, ◌∙◌, sym}
use mathlib.Core.Bool.{Bool, not, ◌||◌}
use mathlib.Core.List.{List, [], ◌∷◌, ◌++◌, map}
use native.Mathlib.Omega.{arith}
use native.Mathlib.Nat.{zero-add}
use borrow.Author.Tests.{le-ltb}
use lib.Dec.{eqb, ltb}
use lib.ListN.{length, drop}
use Rattle.ground.specs.Pick.{pick}
use Rattle.ground.specs.Scan.{first, some}
use Rattle.header.specs.Words.{word_at, header_of}
use Rattle.header.specs.Fields.{data_of}
use Rattle.header.specs.Rewrite.{readdressed}
use Rattle.tlp.specs.Form.{request_form, form_of}
use Rattle.count.specs.Count.{byte_count_of}
use Rattle.wire.specs.Write.{header_list, over}
use Rattle.wire.proofs.Laws.Write.{over_fits}
use Rattle.rows.specs.Row.{aligned, in_force, spans}
use Rattle.look.specs.Look.{look_up, way_back}
use Rattle.numbers.specs.Entries.{look_at}
use Rattle.numbers.specs.Buses.{is_active}
use Rattle.logs.specs.Logs.{noted, recorded}
use Rattle.routing.specs.declared.refusal.Refusal.TheVariants.{WrongCall, SenderInactive}
use Rattle.routing.specs.Call.{Tables, lent, Asked}
use Rattle.routing.specs.Rule.{gate_of, owner_plan, completion_plan, to_destination, through_mark, back_mark, carried_way, by_gate}
use Rattle.switch.specs.Answer.{Answer, refused, way_answer, pass_rule}
use Rattle.switch.specs.After.{written_of, out_after, log_bit, logs_after}
use Rattle.sheet.specs.Tables.{windows, numbers, logs}
use Rattle.sheet.specs.Cases.{Case, logs_with, cases}

-- what is asked of the rule for a packet from p, over these tables and with an Out of this length
abbrev pub asked_of : ℕ → List ℕ → Tables → ℕ → Asked
asked_of p packet tables out =
    record { sender = p; head = header_of packet; size = length packet; tables = tables; logs = 96; out = out }

-- what the rule gives of a case: the answer, the bytes written, and all logs after it
abbrev Result : Type 0
Result = Answer × List ℕ × List ℕ

abbrev run : Case → Result
run c =
    let a = pass_rule (asked_of c.sender c.packet (lent windows numbers) 4112) in
    (a, written_of a (data_of c.packet), logs_after a c.sender (header_of c.packet) logs)

abbrev expected : Case → Result
expected c = (c.answer, c.written, logs_with c.sender c.row)

-- the table
pub sheet : map run cases ≡ map expected cases
unfolding pick word_at readdressed request_form form_of byte_count_of header_list first some aligned in_force spans look_up way_back look_at noted recorded log_bit gate_of owner_plan completion_plan to_destination through_mark back_mark refused windows numbers logs
sheet = refl

-- L. Byte counts: Length 1 enables 0110; Length 3 first 1000 last 0001; Length 1,024 all enabled, whose field is 0
pub counts : (byte_count_of 1 0b0110 0 ∷ byte_count_of 3 0b1000 0b0001 ∷ byte_count_of 1024 0b1111 0b1111 ∷ []) ≡ (2 ∷ 6 ∷ 4096 ∷ [])
unfolding pick byte_count_of
counts = refl

-- any Out that is long enough gets the same answer
pub long_enough : (p : ℕ) (s : List ℕ) (t : Tables) (out : ℕ) → 4112 ≤ out → pass_rule (asked_of p s t out) ≡ pass_rule (asked_of p s t 4112)
unfolding gate_of
long_enough p s t out h =
    let way = carried_way p (header_of s) (length s) t in
    ap
    (λ (b : Bool).
    way_answer
    (by_gate
    (pick (ltb 15 p || not (eqb (length t.windows) 768) || not (eqb (length t.numbers) 80) || not (eqb 96 96) || b) (Err WrongCall)
    (pick (not (is_active t.numbers p)) (Err SenderInactive) (Ok tt)))
    way)
    p (header_of s) t.numbers)
    (le-ltb out 4112 h)

-- bytes over the start of a buffer that they fit
start : (o xs : List ℕ) → length xs ≤ length o → over o 0 xs ≡ xs ++ drop (length xs) o
start o xs h = over_fits o 0 xs (omega arith) ∙ ap (λ (n : ℕ). xs ++ drop n o) (zero-add (length xs))

-- so each case, over any Out that is long enough, is answered and written as the table says
pub case_over_any : (c : Case) → run c ≡ expected c → (out : List ℕ) → 4112 ≤ length out → length c.written ≤ length out
    → (pass_rule (asked_of c.sender c.packet (lent windows numbers) (length out)) ≡ c.answer)
    × (out_after c.answer (data_of c.packet) out ≡ c.written ++ drop (length c.written) out)
case_over_any c e out h k =
    let a : pass_rule (asked_of c.sender c.packet (lent windows numbers) 4112) ≡ c.answer = ap (λ (r : Result). r.0) e in
    let w : written_of c.answer (data_of c.packet) ≡ c.written = ap (λ (x : Answer). written_of x (data_of c.packet)) (sym a) ∙ ap (λ (r : Result). r.1) e in
    (long_enough c.sender c.packet (lent windows numbers) (length out) h ∙ a, ap (over out 0) w ∙ start out c.written k)
