-- What passing changes: Out and the sender's log, as functions of the answer, the packet's header words and its data.
use Rattle.std.specs.Prelude.{ℕ, ◌&&◌, List, [], ◌≡◌, eqb, ltb, leb, Option, Some, None}
use Rattle.ground.specs.Pick.{pick}
use Rattle.header.specs.declared.words.Header.{Header}
use Rattle.wire.specs.Write.{over, packet_list}
use Rattle.logs.specs.Logs.{recorded}
use Rattle.logs.specs.declared.Bit.{Bit}
use Rattle.logs.specs.declared.Bit.TheVariants.{Poisoned, UnexpectedCompletion, Malformed, Unsupported}
use Rattle.routing.specs.Call.{Call, asked, head_of, body_of}
use Rattle.switch.specs.Answer.{Answer, crossed, answered, dropped, pass_rule}

-- what is written: a packet that crosses with its data, an answer alone, nothing of one that is dropped
abbrev pub written_of : Answer → List ℕ → List ℕ
written_of (crossed s) body = packet_list s.header body
written_of (answered n s) body = packet_list s.header []
written_of (dropped n) body = []

-- "Out holds the packet from its start and is unchanged beyond it"; "dropping leaves Out untouched"
abbrev pub out_after : Answer → List ℕ → List ℕ → List ℕ
out_after a body out = over out 0 (written_of a body)

-- the list's column "Log bit": none for 1 and 2, 12 for 5, 16 for 9, and 20 for 4, 6, 7, 8; R-4: 18 "stays", for 31 to 36
unfoldable pub log_bit : ℕ → Option Bit
log_bit n =
    pick (ltb n 3) None
    (pick (leb 31 n && leb n 36) (Some Malformed)
    (pick (eqb n 5) (Some Poisoned)
    (pick (eqb n 9) (Some UnexpectedCompletion)
    (Some Unsupported))))

-- the log with this error in the sender's row
abbrev pub logged : Option Bit → ℕ → Header → List ℕ → List ℕ
logged None p h logs = logs
logged (Some b) p h logs = recorded p b h logs

-- "Log, in the sender's row only": an answered packet is logged as well as a dropped one, a crossing one is not
abbrev pub logs_after : Answer → ℕ → Header → List ℕ → List ℕ
logs_after (crossed s) p h logs = logs
logs_after (answered n s) p h logs = logged (log_bit n) p h logs
logs_after (dropped n) p h logs = logged (log_bit n) p h logs

-- the answer to a call
abbrev pub answer_of : Call → Answer
answer_of c = pass_rule (asked c)

-- Out after it
abbrev pub out_of : Call → List ℕ
out_of c = out_after (answer_of c) (body_of c) c.out

-- the logs after it
abbrev pub logs_of : Call → List ℕ
logs_of c = logs_after (answer_of c) c.sender (head_of c) c.logs

-- what `pass` makes of a call: the answer, and what it leaves of Out, the logs and the numbers; windows are lent for reading
pub record Passes (c : Call) (a : Answer) (out logs numbers : List ℕ) : Type 0 where
  pub answer : a ≡ answer_of c
  pub out_is : out ≡ out_of c
  pub logs_are : logs ≡ logs_of c
  pub numbers_kept : numbers ≡ c.tables.numbers
