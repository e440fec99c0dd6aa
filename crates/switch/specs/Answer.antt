-- "What comes back", in the paper's numbers: the answer of each way.
use Rattle.std.specs.Prelude.{ℕ, ◌/◌, ◌&&◌, List, Result, Ok, Err}
use Rattle.ground.specs.Pick.{pick}
use Rattle.header.specs.Kind.{is_read, has_four_words}
use Rattle.header.specs.Fields.{kind, total_bytes}
use Rattle.header.specs.Rewrite.{readdressed, renamed, returned}
use Rattle.header.specs.declared.words.Header.{Header}
use Rattle.count.specs.Count.{answer_to}
use Rattle.numbers.specs.Buses.{bus_of}
use Rattle.routing.specs.declared.refusal.Refusal.{Refusal}
use Rattle.switch.specs.declared.answer.Sent.{Sent}
use Rattle.switch.specs.declared.answer.Outcome.{Outcome}
use Rattle.switch.specs.declared.answer.Outcome.TheVariants.{Crossed, Answered, Dropped}
use Rattle.routing.specs.declared.rule.Way.{Way}
use Rattle.routing.specs.declared.rule.Way.TheVariants.{Goes, Comes}
use Rattle.routing.specs.Call.{Asked}
use Rattle.routing.specs.Refusal.{refusal_number, answers_reads}
use Rattle.routing.specs.Rule.{bus_id, mapped_id, pass_way}

-- "crossed (partition and byte length), answered (refusal and length 12), dropped (refusal)", the first two with the record
pub data Answer : Type 0 where
  crossed : Sent → Answer
  answered : ℕ → Sent → Answer
  dropped : ℕ → Answer

-- the paper's answer for each outcome
abbrev pub on_paper : Outcome → Answer
on_paper (Crossed s) = crossed s
on_paper (Answered r s) = answered (refusal_number r) s
on_paper (Dropped r) = dropped (refusal_number r)

-- the number of an answer: 0 for crossed, else the refusal's
abbrev pub number_of : Answer → ℕ
number_of (crossed s) = 0
number_of (answered n s) = n
number_of (dropped n) = n

-- how many bytes came out
abbrev pub length_of : Answer → ℕ
length_of (crossed s) = s.length
length_of (answered n s) = s.length
length_of (dropped n) = 0

-- "the header words come with it as a record", with their count, the partition and the byte length
abbrev pub sent_of : Header → ℕ → Sent
sent_of h q = record { header = h; words = pick (has_four_words (kind h)) 4 3; partition = q; length = total_bytes h }

-- a packet that is refused: "read answered, else dropped"; the answer is a completion in p
unfoldable pub refused : Refusal → ℕ → ℕ → Header → Answer
refused r p bus h =
    pick (answers_reads r && is_read (kind h)) (answered (refusal_number r) (sent_of (answer_to h (bus_id bus)) p)) (dropped (refusal_number r))

-- the answer of a way: refused; over, with "address − base + target" and "requester ID = 256 × bus(q) + 64 + i"; or back, with "requester
-- ID from the entry, completer ID = 256 × bus(p)"
abbrev pub way_answer : Result Way Refusal → ℕ → Header → List ℕ → Answer
way_answer (Err r) p h numbers = refused r p (bus_of numbers p) h
way_answer (Ok (Goes t i)) p h numbers =
    crossed (sent_of (renamed (readdressed h t.address) (mapped_id (bus_of numbers t.destination) i)) t.destination)
way_answer (Ok (Comes id i)) p h numbers = crossed (sent_of (returned h id (bus_id (bus_of numbers (i / 4)))) (i / 4))

-- the whole rule
abbrev pub pass_rule : Asked → Answer
pass_rule a = way_answer (pass_way a) a.sender a.head a.tables.numbers
