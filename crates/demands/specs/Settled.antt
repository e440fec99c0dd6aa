-- The rule that settles it: "a packet passes by an open window and a filled mapping entry, or it stays at home and is logged there".
use Rattle.std.specs.Prelude.{ℕ, ◌+◌, ◌≤◌, ◌<◌, false, ◌≡◌, ◌⊎◌, get_or, Some}
use Rattle.std.specs.Int.Bits.{bit_or}
use Rattle.ground.specs.Field.{field}
use Rattle.header.specs.Fields.{is_poisoned, requester_id, address, completion_requester_id}
use Rattle.header.specs.Rewrite.{readdressed, renamed, returned}
use Rattle.look.specs.Look.{AllShut}
use Rattle.look.specs.declared.Translation.{Translation}
use Rattle.numbers.specs.Entries.{entry_index, entry_at}
use Rattle.numbers.specs.Buses.{bus_of}
use Rattle.numbers.specs.declared.entries.Entry.TheVariants.{Held}
use Rattle.logs.specs.Logs.{row_at, row_width, status_of, bit_number, bit_mask}
use Rattle.logs.specs.declared.Bit.{Bit}
use Rattle.switch.specs.declared.answer.Sent.{Sent}
use Rattle.routing.specs.Call.{Covered, HasWay, Call, head_of}
use Rattle.routing.specs.Rule.{bus_id, mapped_id, is_stopped}
use Rattle.switch.specs.Answer.{Answer, crossed, answered, dropped, sent_of}
use Rattle.switch.specs.After.{log_bit, answer_of, logs_of}

-- a request: by a way that covers its address, which, R-3, lets marked packets pass where the request is marked; and by an entry of the
-- sender's that holds the requester; and it went where they say
pub record RequestPassed (c : Call) (x : Sent) : Type 0 where
  pub way : Translation
  pub window : Covered c.tables c.sender (address (head_of c)) way
  pub admitted : is_stopped (head_of c) way.marked ≡ false
  pub place : ℕ
  pub place_lt : place < 4
  pub filled : entry_at c.tables.numbers (entry_index c.sender place) ≡ Held (requester_id (head_of c))
  pub sent : x ≡ sent_of
      (renamed (readdressed (head_of c) way.address) (mapped_id (bus_of c.tables.numbers way.destination) (entry_index c.sender place)))
      way.destination

-- a completion: by a held entry of its owner's, which the number names, and a way of the owner's to the sender, R-3, for packets so
-- marked; and it went to that owner
pub record CompletionPassed (c : Call) (x : Sent) : Type 0 where
  pub owner : ℕ
  pub owner_lt : owner < 16
  pub place : ℕ
  pub place_lt : place < 4
  pub number : completion_requester_id (head_of c) ≡ mapped_id (bus_of c.tables.numbers c.sender) (entry_index owner place)
  pub id : ℕ
  pub filled : entry_at c.tables.numbers (entry_index owner place) ≡ Held id
  pub window : HasWay c.tables owner c.sender (is_poisoned (head_of c))
  pub sent : x ≡ sent_of (returned (head_of c) id (bus_id (bus_of c.tables.numbers owner))) owner

-- the list's bit of refusal n is set in the sender's status, and every other bit of it kept
pub record IsLogged (c : Call) (n : ℕ) : Type 0 where
  pub bit : Bit
  pub named : log_bit n ≡ Some bit
  pub status : status_of c.sender (logs_of c) ≡ bit_or (status_of c.sender c.logs) (bit_mask bit)
  pub lit : field (bit_number bit) 1 (status_of c.sender (logs_of c)) ≡ 1

-- no word of the logs outside the sender's row has changed
abbrev pub OtherLogsKept : Call → Type 0
OtherLogsKept c = (i : ℕ) → (i < row_at c.sender) ⊎ (row_at c.sender + row_width ≤ i) → get_or (logs_of c) i 0 ≡ get_or c.logs i 0

-- refused: every refusal but 1 and 2 is logged, in the sender's row and nowhere else
pub record AtHome (c : Call) (n : ℕ) : Type 0 where
  pub logged : 3 ≤ n → IsLogged c n
  pub unlogged : n < 3 → logs_of c ≡ c.logs
  pub elsewhere : OtherLogsKept c

-- what became of the packet of a call
abbrev pub Fate : Call → Answer → Type 0
Fate c (crossed x) = (RequestPassed c x ⊎ CompletionPassed c x) × (logs_of c ≡ c.logs)
Fate c (answered n x) = AtHome c n
Fate c (dropped n) = AtHome c n

-- the rule, for every call
abbrev pub Settles : Type 0
Settles = (c : Call) → Fate c (answer_of c)

-- an examination: "she keeps them shut", no row of any partition is in force. Then nothing crosses, whatever the packet and the other
-- tables are
abbrev pub NothingCrosses : Type 0
NothingCrosses = (c : Call) (x : Sent) → AllShut c.tables.windows → answer_of c ≡ crossed x → ⊥
