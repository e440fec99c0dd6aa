-- Demand 1: "it refuses by a number from the list. A refused packet alters no window, entry or bus, no other partition's log, and no
-- output byte except the answer that the list names." Windows are lent for reading, and the contract of `pass` keeps the numbers.
use Rattle.std.specs.Prelude.{ℕ, ◌≤◌, true, ◌≡◌, ◌⊎◌, length, take, drop}
use Rattle.header.specs.Kind.{is_read}
use Rattle.header.specs.Fields.{kind}
use Rattle.count.specs.Count.{answer_to}
use Rattle.wire.specs.Write.{header_list}
use Rattle.numbers.specs.Buses.{bus_of}
use Rattle.switch.specs.declared.answer.Sent.{Sent}
use Rattle.routing.specs.Call.{Call, head_of}
use Rattle.routing.specs.Rule.{bus_id}
use Rattle.switch.specs.Answer.{Answer, crossed, answered, dropped, sent_of}
use Rattle.switch.specs.After.{answer_of, out_of, logs_of}
use Rattle.demands.specs.Settled.{OtherLogsKept}

-- "a number from the list", for passing: 1, 2, 4 to 9, and R-4's 31 to 36
abbrev pub OnList : ℕ → Type 0
OnList n = ((1 ≤ n) × (n ≤ 2)) ⊎ (((4 ≤ n) × (n ≤ 9)) ⊎ ((31 ≤ n) × (n ≤ 36)))

-- a read alone is answered, by 5 to 8, with the completion that the list names, in the sender's partition: 12 bytes of Out
pub record AnswersOnly (c : Call) (n : ℕ) (x : Sent) : Type 0 where
  pub listed : (5 ≤ n) × (n ≤ 8)
  pub read : is_read (kind (head_of c)) ≡ true
  pub answer : x ≡ sent_of (answer_to (head_of c) (bus_id (bus_of c.tables.numbers c.sender))) c.sender
  pub written : take 12 (out_of c) ≡ header_list x.header
  pub beyond : drop 12 (out_of c) ≡ drop 12 c.out

-- what a refusal alters of Out; a packet that crosses is not refused, and `CameOutWhole` says what it leaves there
abbrev pub OutAltered : Call → Answer → Type 0
OutAltered c (crossed x) = Unit {0}
OutAltered c (answered n x) = AnswersOnly c n x
OutAltered c (dropped n) = OnList n × (out_of c ≡ c.out)

-- the demand, for every call
pub record Altered (c : Call) : Type 0 where
  pub out : OutAltered c (answer_of c)
  pub length_of_out : length (out_of c) ≡ length c.out
  pub logs : OtherLogsKept c
  pub length_of_logs : length (logs_of c) ≡ length c.logs
