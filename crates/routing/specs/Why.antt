-- "A number is given exactly in its case": what holds where a packet goes each way. Each record is one fact more than the one before, in
-- the list's order. `exactly`, of proofs/Laws/Exactly, says of every way that it is found exactly where what stands here holds.
use Rattle.std.specs.Prelude.{ℕ, ◌/◌, ◌%◌, true, false, ◌≡◌, eqb, Some, None, Result, Ok, Err}
use Rattle.header.specs.Fields.{is_poisoned, requester_id, address, completion_requester_id}
use Rattle.tlp.specs.Form.{form_of}
use Rattle.tlp.specs.declared.form.Packet.TheVariants.{Request, Completion}
use Rattle.look.specs.declared.Translation.{Translation}
use Rattle.look.specs.declared.Question.TheVariants.{Address}
use Rattle.numbers.specs.Entries.{entry_of, entry_at}
use Rattle.numbers.specs.Buses.{bus_of, is_active}
use Rattle.numbers.specs.declared.entries.Entry.TheVariants.{Free, Held}
use Rattle.routing.specs.declared.refusal.Refusal.{Refusal}
use Rattle.routing.specs.declared.refusal.Refusal.TheVariants.{WrongCall, SenderInactive, Broken, Poisoned, NoWindow, NoEntry, DestinationInactive, NotPassable}
use Rattle.routing.specs.declared.rule.Way.{Way}
use Rattle.routing.specs.declared.rule.Way.TheVariants.{Goes, Comes}
use Rattle.routing.specs.Call.{Asked, looked, reached}
use Rattle.routing.specs.Rule.{wrong_call, mapped_id, is_stopped}

-- neither 1 nor 2
pub record Entered (a : Asked) : Type 0 where
  pub right : wrong_call a.sender a.tables a.logs a.out ≡ false
  pub active : is_active a.tables.numbers a.sender ≡ true

-- a request that breaks no rule of form
pub record Requests (a : Asked) : Type 0 where
  pub entered : Entered a
  pub request : form_of a.size a.head ≡ Ok (Request a.head)

-- not 6: the windows of the sender open to t at its address
pub record Opened (a : Asked) (t : Translation) : Type 0 where
  pub requests : Requests a
  pub opened : looked a.tables (Address (address a.head)) a.sender ≡ Some t

-- not 5: it is let pass, marked as it is
pub record Admitted (a : Asked) (t : Translation) : Type 0 where
  pub opened : Opened a t
  pub admitted : is_stopped a.head t.marked ≡ false

-- not 7: entry i is the lowest of the sender's that holds its requester ID
pub record Named (a : Asked) (t : Translation) (i : ℕ) : Type 0 where
  pub admitted : Admitted a t
  pub entry : entry_of a.tables.numbers a.sender (requester_id a.head) ≡ Some i

-- a completion that breaks no rule of form
pub record Returns (a : Asked) : Type 0 where
  pub entered : Entered a
  pub completion : form_of a.size a.head ≡ Ok (Completion a.head)

-- its requester ID is a number of the sender's bus, that of entry i
pub record Mapped (a : Asked) (i : ℕ) : Type 0 where
  pub returns : Returns a
  pub index : completion_requester_id a.head % 64 ≡ i
  pub number : eqb (completion_requester_id a.head) (mapped_id (bus_of a.tables.numbers a.sender) i) ≡ true

-- entry i is held with id
pub record IsHeld (a : Asked) (id i : ℕ) : Type 0 where
  pub mapped : Mapped a i
  pub held : entry_at a.tables.numbers i ≡ Held id

-- its owner "differs from q, is active"
pub record Owned (a : Asked) (id i : ℕ) : Type 0 where
  pub is_held : IsHeld a id i
  pub another : eqb (i / 4) a.sender ≡ false
  pub owner_active : is_active a.tables.numbers (i / 4) ≡ true

-- not 9: the owner has "some row in force with destination q"
pub record Passable (a : Asked) (id i : ℕ) : Type 0 where
  pub owned : Owned a id i
  pub row : reached a.tables (i / 4) a.sender false ≡ true

-- 9: the number, the entry, the owner, or its row
pub data NoWayBack (a : Asked) : Type 0 where
  no_number : eqb (completion_requester_id a.head) (mapped_id (bus_of a.tables.numbers a.sender) (completion_requester_id a.head % 64)) ≡ false → NoWayBack a
  not_held : (i : ℕ) → Mapped a i → entry_at a.tables.numbers i ≡ Free → NoWayBack a
  own : (id i : ℕ) → IsHeld a id i → eqb (i / 4) a.sender ≡ true → NoWayBack a
  inactive : (id i : ℕ) → IsHeld a id i → is_active a.tables.numbers (i / 4) ≡ false → NoWayBack a
  no_row : (id i : ℕ) → Owned a id i → reached a.tables (i / 4) a.sender false ≡ false → NoWayBack a

-- 5: a request that its window does not let pass, or a completion that no row of the owner's lets pass
pub data IsMarked (a : Asked) : Type 0 where
  going : (t : Translation) → Opened a t → is_stopped a.head t.marked ≡ true → IsMarked a
  coming : (id i : ℕ) → Passable a id i → is_stopped a.head (reached a.tables (i / 4) a.sender (is_poisoned a.head)) ≡ true → IsMarked a

-- why a refusal is given: the facts before it, and the test that held
abbrev pub Why : Asked → Refusal → Type 0
Why a WrongCall = wrong_call a.sender a.tables a.logs a.out ≡ true
Why a SenderInactive = (wrong_call a.sender a.tables a.logs a.out ≡ false) × (is_active a.tables.numbers a.sender ≡ false)
Why a (Broken r) = Entered a × (form_of a.size a.head ≡ Err r)
Why a NoWindow = Requests a × (looked a.tables (Address (address a.head)) a.sender ≡ None)
Why a Poisoned = IsMarked a
Why a NoEntry = (t : Translation) × Admitted a t × (entry_of a.tables.numbers a.sender (requester_id a.head) ≡ None)
Why a DestinationInactive = (t : Translation) × (i : ℕ) × Named a t i × (is_active a.tables.numbers t.destination ≡ false)
Why a NotPassable = Returns a × NoWayBack a

-- what holds at each way
abbrev pub Holds : Asked → Result Way Refusal → Type 0
Holds a (Err r) = Why a r
Holds a (Ok (Goes t i)) = Named a t i × (is_active a.tables.numbers t.destination ≡ true)
Holds a (Ok (Comes id i)) = Passable a id i × (is_stopped a.head (reached a.tables (i / 4) a.sender (is_poisoned a.head)) ≡ false)
