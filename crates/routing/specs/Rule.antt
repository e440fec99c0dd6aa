-- "Passing a packet from partition p": the decision, in the list's order and numbers, as R-3 and R-4 amend them. It finds the way that a
-- packet goes, or the refusal that stops it.
use Rattle.std.specs.Prelude.{ℕ, ◌+◌, ◌*◌, ◌/◌, ◌%◌, Bool, not, ◌&&◌, ◌||◌, List, length, eqb, ltb, Option, Some, None, Result, Ok, Err}
use Rattle.ground.specs.Pick.{pick}
use Rattle.header.specs.Fields.{is_poisoned, requester_id, address, completion_requester_id}
use Rattle.header.specs.declared.words.Header.{Header}
use Rattle.tlp.specs.Form.{form_of}
use Rattle.tlp.specs.declared.form.Packet.{Packet}
use Rattle.tlp.specs.declared.form.Packet.TheVariants.{Request, Completion}
use Rattle.tlp.specs.declared.form.Rule.{Rule}
use Rattle.rows.specs.Row.{table_length as windows_length}
use Rattle.numbers.specs.Entries.{table_length as numbers_length}
use Rattle.logs.specs.Logs.{table_length as logs_length}
use Rattle.look.specs.declared.Translation.{Translation}
use Rattle.look.specs.declared.Question.{Question}
use Rattle.look.specs.declared.Question.TheVariants.{Silent, Address, Return}
use Rattle.numbers.specs.Entries.{entry_of, entry_at}
use Rattle.numbers.specs.Buses.{bus_of, is_active}
use Rattle.numbers.specs.declared.entries.Entry.{Entry}
use Rattle.numbers.specs.declared.entries.Entry.TheVariants.{Free, Held}
use Rattle.routing.specs.declared.refusal.Refusal.{Refusal}
use Rattle.routing.specs.declared.refusal.Refusal.TheVariants.{WrongCall, SenderInactive, Broken, Poisoned, NoWindow, NoEntry, DestinationInactive, NotPassable}
use Rattle.routing.specs.declared.rule.Plan.{Plan}
use Rattle.routing.specs.declared.rule.Plan.TheVariants.{Over, Back}
use Rattle.routing.specs.declared.rule.Way.{Way}
use Rattle.routing.specs.declared.rule.Way.TheVariants.{Goes, Comes}
use Rattle.routing.specs.Call.{Tables, Asked, looked}

-- "Out: at least 4,112 bytes (16 of header, 4,096 of data)"
abbrev pub out_length : ℕ
out_length = 16 + 4096

-- an ID of a bus: "256 × bus"
abbrev pub bus_id : ℕ → ℕ
bus_id bus = 256 * bus

-- the number that a request goes out under, and a completion comes back to: "256 × bus + 64 + i"
abbrev pub mapped_id : ℕ → ℕ → ℕ
mapped_id bus i = bus_id bus + 64 + i

-- ---- the gate

-- 1: "partition above 15, .. a table of another length, Out too short"
abbrev pub wrong_lengths : ℕ → ℕ → ℕ → ℕ → ℕ → Bool
wrong_lengths p windows numbers logs out =
    ltb 15 p || not (eqb windows windows_length) || not (eqb numbers numbers_length) || not (eqb logs logs_length) || ltb out out_length

-- of a call: of the tables, the logs and Out the lengths alone are asked
abbrev pub wrong_call : ℕ → Tables → ℕ → ℕ → Bool
wrong_call p tables logs out = wrong_lengths p (length tables.windows) (length tables.numbers) logs out

-- 1, then 2, "sender inactive"
unfoldable pub gate_of : ℕ → ℕ → List ℕ → ℕ → ℕ → Result Unit Refusal
gate_of p windows numbers logs out =
    pick (wrong_lengths p windows (length numbers) logs out) (Err WrongCall) (pick (not (is_active numbers p)) (Err SenderInactive) (Ok tt))

-- the gate of a call
abbrev pub gate_for : ℕ → Tables → ℕ → ℕ → Result Unit Refusal
gate_for p tables logs out = gate_of p (length tables.windows) tables.numbers logs out

-- ---- what packet and numbers say before the windows are asked

-- a completion for the owner of entry i: "p is i div 4; p must differ from q, be active", or 9
unfoldable pub owner_plan : ℕ → ℕ → ℕ → List ℕ → Result Plan Refusal
owner_plan id i p numbers = pick (not (eqb (i / 4) p) && is_active numbers (i / 4)) (Ok (Back id i)) (Err NotPassable)

-- "entry i held", or 9
abbrev pub held_plan : Entry → ℕ → ℕ → List ℕ → Result Plan Refusal
held_plan Free i p numbers = Err NotPassable
held_plan (Held id) i p numbers = owner_plan id i p numbers

-- "the requester ID must be 256 × bus(q) + 64 + i with i in 0..63", or 9
unfoldable pub completion_plan : ℕ → ℕ → Header → List ℕ → Result Plan Refusal
completion_plan p bus h numbers =
    pick (eqb (completion_requester_id h) (mapped_id bus (completion_requester_id h % 64)))
    (held_plan (entry_at numbers (completion_requester_id h % 64)) (completion_requester_id h % 64) p numbers)
    (Err NotPassable)

-- 31, 4, and 32 to 36 by the packet layer, as it names them; a request goes over by a window; a completion back to an owner
abbrev pub plan_of : Result Packet Rule → ℕ → ℕ → List ℕ → Result Plan Refusal
plan_of (Err r) p bus numbers = Err (Broken r)
plan_of (Ok (Request h)) p bus numbers = Ok Over
plan_of (Ok (Completion h)) p bus numbers = completion_plan p bus h numbers

-- what a packet of n bytes with these header words and the numbers say
abbrev pub planned : ℕ → Header → ℕ → List ℕ → Result Plan Refusal
planned n h p numbers = plan_of (form_of n h) p (bus_of numbers p) numbers

-- ---- the one question to the windows

-- whose windows are asked: the sender's, or the owner's
abbrev pub whose : Result Plan Refusal → ℕ → ℕ
whose (Err r) p = p
whose (Ok Over) p = p
whose (Ok (Back id i)) p = i / 4

-- what they are asked: nothing; what becomes of the address; or whether packets so marked may come back from the sender
abbrev pub question_of : Result Plan Refusal → ℕ → Header → Question
question_of (Err r) p h = Silent
question_of (Ok Over) p h = Address (address h)
question_of (Ok (Back id i)) p h = Return p (is_poisoned h)

-- ---- what follows from their answer

-- 8: "destination inactive"; else it goes
unfoldable pub to_destination : Translation → ℕ → List ℕ → Result Way Refusal
to_destination t i numbers = pick (is_active numbers t.destination) (Ok (Goes t i)) (Err DestinationInactive)

-- 7: "no entry"
abbrev pub through_entry : Option ℕ → Translation → List ℕ → Result Way Refusal
through_entry None t numbers = Err NoEntry
through_entry (Some i) t numbers = to_destination t i numbers

-- 5: "EP set", and R-3: "only where the bit is absent"
abbrev pub is_stopped : Header → Bool → Bool
is_stopped h bit = is_poisoned h && not bit

-- 5 "between 6 and 7 for requests": by the bit of the window, which was found before
unfoldable pub through_mark : Translation → ℕ → Header → List ℕ → Result Way Refusal
through_mark t p h numbers = pick (is_stopped h t.marked) (Err Poisoned) (through_entry (entry_of numbers p (requester_id h)) t numbers)

-- "requests": 6, "no window"; then 5, 7, 8
abbrev pub over_way : Option Translation → ℕ → Header → List ℕ → Result Way Refusal
over_way None p h numbers = Err NoWindow
over_way (Some t) p h numbers = through_mark t p h numbers

-- 5 "after 9 for completions": where no row of the owner to the sender has the bit
unfoldable pub back_mark : Translation → ℕ → ℕ → Header → Result Way Refusal
back_mark t id i h = pick (is_stopped h t.marked) (Err Poisoned) (Ok (Comes id i))

-- "completions": 9, where the owner has no row in force to the sender; then 5
abbrev pub back_way : Option Translation → ℕ → ℕ → Header → Result Way Refusal
back_way None id i h = Err NotPassable
back_way (Some t) id i h = back_mark t id i h

-- the way of each plan; what was refused stays refused
abbrev pub finish_of : Result Plan Refusal → Option Translation → ℕ → Header → List ℕ → Result Way Refusal
finish_of (Err r) look p h numbers = Err r
finish_of (Ok Over) look p h numbers = over_way look p h numbers
finish_of (Ok (Back id i)) look p h numbers = back_way look id i h

-- ---- the whole

-- a plan, one look at the windows, and what follows
abbrev pub plan_way : ℕ → Header → Tables → Result Plan Refusal → Result Way Refusal
plan_way p h tables plan = finish_of plan (looked tables (question_of plan p h) (whose plan p)) p h tables.numbers

-- past the gate: the way of a packet of n bytes with these header words
abbrev pub carried_way : ℕ → Header → ℕ → Tables → Result Way Refusal
carried_way p h n tables = plan_way p h tables (planned n h p tables.numbers)

-- by the gate: closed, or what follows
abbrev pub by_gate : Result Unit Refusal → Result Way Refusal → Result Way Refusal
by_gate (Err r) way = Err r
by_gate (Ok passed) way = way

-- the way of a call: 1; 2; then the packet
abbrev pub pass_way : Asked → Result Way Refusal
pass_way a = by_gate (gate_for a.sender a.tables a.logs a.out) (carried_way a.sender a.head a.size a.tables)
