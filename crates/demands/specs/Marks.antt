-- R-3: a marked packet, whose EP is set: that it stays marked where it passes, and where it does not pass.
use Rattle.std.specs.Prelude.{ℕ, ◌/◌, ◌<◌, true, false, ◌≡◌, ◌⊎◌}
use Rattle.header.specs.Kind.{is_request, is_completion}
use Rattle.header.specs.Words.{header_of}
use Rattle.header.specs.Fields.{kind, is_poisoned, address, completion_requester_id}
use Rattle.look.specs.Look.{NoneChosen}
use Rattle.look.specs.declared.Translation.{Translation}
use Rattle.numbers.specs.Entries.{entry_at}
use Rattle.numbers.specs.Buses.{bus_of, is_active}
use Rattle.numbers.specs.declared.entries.Entry.TheVariants.{Held}
use Rattle.switch.specs.declared.answer.Sent.{Sent}
use Rattle.routing.specs.Call.{Covered, HasWay, Call, head_of}
use Rattle.routing.specs.Rule.{mapped_id}
use Rattle.switch.specs.Answer.{Answer, crossed, answered, dropped}
use Rattle.switch.specs.After.{answer_of}
use Rattle.demands.specs.Call.{came_out, Lent}

-- "EP is kept as sent", of everything that crosses
abbrev pub MarkKept : Type 0
MarkKept = (c : Call) (x : Sent) → Lent c → answer_of c ≡ crossed x → is_poisoned (header_of (came_out c x)) ≡ is_poisoned (head_of c)

-- where no row has the bit, no marked packet crosses, whatever the other tables are
abbrev pub NoMarkCrosses : Type 0
NoMarkCrosses = (c : Call) (x : Sent) → NoneChosen c.tables.windows → is_poisoned (head_of c) ≡ true → answer_of c ≡ crossed x → ⊥

-- the answer is refusal 5
abbrev pub Is5 : Answer → Type 0
Is5 (crossed x) = ⊥
Is5 (answered n x) = n ≡ 5
Is5 (dropped n) = n ≡ 5

-- a request, by its window: what covers the address has not the bit, whatever higher slots have
pub record RequestStopped (c : Call) : Type 0 where
  pub request : is_request (kind (head_of c)) ≡ true
  pub way : Translation
  pub window : Covered c.tables c.sender (address (head_of c)) way
  pub absent : way.marked ≡ false

-- a completion that 9 does not refuse: the owner has a way to the sender, but none for marked packets
pub record CompletionStopped (c : Call) : Type 0 where
  pub completion : is_completion (kind (head_of c)) ≡ true
  pub index : ℕ
  pub index_lt : index < 64
  pub number : completion_requester_id (head_of c) ≡ mapped_id (bus_of c.tables.numbers c.sender) index
  pub id : ℕ
  pub filled : entry_at c.tables.numbers index ≡ Held id
  pub another : index / 4 ≡ c.sender → ⊥
  pub active : is_active c.tables.numbers (index / 4) ≡ true
  pub window : HasWay c.tables (index / 4) c.sender false
  pub absent : HasWay c.tables (index / 4) c.sender true → ⊥

-- "5 only where the bit is absent"
abbrev pub FiveOnlyThere : Type 0
FiveOnlyThere = (c : Call) → Is5 (answer_of c) → (is_poisoned (head_of c) ≡ true) × (RequestStopped c ⊎ CompletionStopped c)
