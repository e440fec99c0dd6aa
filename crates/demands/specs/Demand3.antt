-- Demand 3, of the bytes in Out: what came out there is what the far side reads.
use Rattle.std.specs.Prelude.{ℕ, ◌/◌, ◌%◌, ◌<◌, true, false, ◌≡◌, List, [], ◌∷◌, ◌++◌, length, get_or, take, drop}
use Rattle.header.specs.Kind.{is_completion}
use Rattle.header.specs.Words.{header_of}
use Rattle.header.specs.Fields.{kind, is_poisoned, requester_id, tag, completion_requester_id, completion_tag}
use Rattle.tlp.specs.Form.{form_of, packet_of, packet_number}
use Rattle.wire.specs.Write.{packet_list}
use Rattle.numbers.specs.Buses.{bus_of}
use Rattle.switch.specs.declared.answer.Sent.{Sent}
use Rattle.routing.specs.Call.{HasWay, Call, head_of, size_of, body_of}
use Rattle.routing.specs.Rule.{wrong_call, bus_id}
use Rattle.switch.specs.Answer.{crossed}
use Rattle.switch.specs.After.{answer_of, out_of, logs_of}
use Rattle.demands.specs.Call.{came_out, Lent, Passed}

-- the requester number that a request came out with
abbrev pub number_out : Call → Sent → ℕ
number_out c x = requester_id (header_of (came_out c x))

-- the tag that it came out with
abbrev pub tag_out : Call → Sent → ℕ
tag_out c x = tag (header_of (came_out c x))

-- what came out is the record's header and the packet's data, as long as the record says; read again it has the record's header words
-- and breaks no rule of form; and Out beyond it is as it was
pub record CameOutWhole (c : Call) (x : Sent) : Type 0 where
  pub bytes : came_out c x ≡ packet_list x.header (body_of c)
  pub length_is : length (came_out c x) ≡ x.length
  pub header_is : header_of (came_out c x) ≡ x.header
  pub well_formed : packet_number (packet_of (came_out c x)) ≡ 0
  pub beyond : drop x.length (out_of c) ≡ drop x.length c.out

-- so it is of everything that crosses
abbrev pub AllCameOutWhole : Type 0
AllCameOutWhole = (c : Call) (x : Sent) → Lent c → answer_of c ≡ crossed x → CameOutWhole c x

-- "while the mapping entries stood unchanged"
abbrev pub SameEntries : Call → Call → Type 0
SameEntries a b = (i : ℕ) → i < 64 → get_or a.tables.numbers i 0 ≡ get_or b.tables.numbers i 0

-- "sent from one partition by one requester with one tag"
pub record OneSender (a b : Call) : Type 0 where
  pub one_partition : a.sender ≡ b.sender
  pub one_requester : requester_id (head_of a) ≡ requester_id (head_of b)
  pub one_tag : tag (head_of a) ≡ tag (head_of b)

-- "two requests that passed into the same partition .. If they came out with equal requester number and tag, they were sent" by one
abbrev pub NoConfusion : Type 0
NoConfusion =
    (a b : Call) (x y : Sent) → Passed a x → Passed b y → x.partition ≡ y.partition → SameEntries a b
    → number_out a x ≡ number_out b y → tag_out a x ≡ tag_out b y → OneSender a b

-- "a well-formed .. completion of a carried kind, sent from there with that number and tag": 1, 4 and, R-4, 31 to 36
-- are not given. "Unpoisoned" or, by R-3, marked
pub record Completes (a : Call) (x : Sent) (c : Call) : Type 0 where
  pub lent : Lent c
  pub from_there : c.sender ≡ x.partition
  pub completion : is_completion (kind (head_of c)) ≡ true
  pub right_call : wrong_call c.sender c.tables (length c.logs) (length c.out) ≡ false
  pub well_formed : packet_number (form_of (size_of c) (head_of c)) ≡ 0
  pub that_number : completion_requester_id (head_of c) ≡ number_out a x
  pub that_tag : completion_tag (head_of c) ≡ tag_out a x

-- "the entry and both bus numbers are as they were and some window of the sender's to there is in force"; R-3, of a marked completion:
-- one that has the bit
pub record Provided (a : Call) (x : Sent) (c : Call) : Type 0 where
  pub entry : get_or c.tables.numbers (number_out a x % 64) 0 ≡ get_or a.tables.numbers (number_out a x % 64) 0
  pub own_bus : bus_of c.tables.numbers a.sender ≡ bus_of a.tables.numbers a.sender
  pub bus : bus_of c.tables.numbers x.partition ≡ bus_of a.tables.numbers x.partition
  pub window : HasWay c.tables a.sender x.partition (is_poisoned (head_of c))

-- an ID's two bytes
abbrev pub id_bytes : ℕ → List ℕ
id_bytes id = id / 256 ∷ id % 256 ∷ []

-- a completion's bytes with another completer (4 and 5) and another requester (8 and 9), and every other byte kept
abbrev pub returned_bytes : List ℕ → ℕ → ℕ → List ℕ
returned_bytes s completer requester = take 4 s ++ (id_bytes completer ++ (take 2 (drop 6 s) ++ (id_bytes requester ++ drop 10 s)))

-- "comes out in the sender's partition under the sender's own number and tag": Out holds exactly that packet, and no log changes
pub record ComesBack (a c : Call) : Type 0 where
  pub back : Sent
  pub crosses : answer_of c ≡ crossed back
  pub partition : back.partition ≡ a.sender
  pub whole : back.length ≡ length c.packet
  pub bytes : came_out c back ≡ returned_bytes c.packet (bus_id (bus_of c.tables.numbers a.sender)) (requester_id (head_of a))
  pub own_number : completion_requester_id (header_of (came_out c back)) ≡ requester_id (head_of a)
  pub own_tag : completion_tag (header_of (came_out c back)) ≡ tag (head_of a)
  pub beyond : drop back.length (out_of c) ≡ drop back.length c.out
  pub logs : logs_of c ≡ c.logs

-- the return
abbrev pub Return : Type 0
Return = (a c : Call) (x : Sent) → Passed a x → Completes a x c → Provided a x c → ComesBack a c
