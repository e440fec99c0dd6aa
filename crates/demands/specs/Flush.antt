-- R-1: "a Length 1 request with first enables 0, read or write": a flush. As a read it shows that what was written has arrived.
use Rattle.std.specs.Prelude.{ℕ, ◌≤◌, true, false, ◌≡◌, length, Ok}
use Rattle.ground.specs.Field.{field, place}
use Rattle.header.specs.Kind.{is_read, is_write, is_request}
use Rattle.header.specs.Words.{header_of}
use Rattle.header.specs.Fields.{kind, data_of, dwords, last_enables, first_enables, address, byte_count_field, lower_address_field}
use Rattle.header.specs.declared.words.Header.{Header}
use Rattle.tlp.specs.Form.{too_short, not_carried, wrong_length, zero_high_word, form_of}
use Rattle.tlp.specs.declared.form.Packet.TheVariants.{Request}
use Rattle.switch.specs.declared.answer.Sent.{Sent}
use Rattle.routing.specs.Call.{Call, head_of, body_of}
use Rattle.switch.specs.Answer.{crossed, answered, dropped}
use Rattle.switch.specs.After.{answer_of}
use Rattle.demands.specs.Call.{came_out, Lent}

-- a flush: a request of one dword, of which no byte is enabled
pub record Flush (h : Header) : Type 0 where
  pub request : is_request (kind h) ≡ true
  pub one_dword : dwords h ≡ 1
  pub none_first : first_enables h ≡ 0
  pub none_last : last_enables h ≡ 0

-- the rules of form that are left for it: long enough, of a carried kind, of the right length, and without a zero high word
pub record RestKept (n : ℕ) (h : Header) : Type 0 where
  pub long : too_short n ≡ false
  pub carried : not_carried h ≡ false
  pub whole : wrong_length n h ≡ false
  pub high : zero_high_word h ≡ false

-- a flush that keeps these is read as the request that it is: no rule on enables, gaps or pages refuses it
abbrev pub FlushWellFormed : Type 0
FlushWellFormed = (n : ℕ) (h : Header) → Flush h → RestKept n h → form_of n h ≡ Ok (Request h)

-- "3 no longer for this", in R-4's numbers: 33, 34 and 35, for enables, gaps and pages, are not given to a flush, whatever else it breaks
abbrev pub FlushNever33To35 : Type 0
FlushNever33To35 = (c : Call) (n : ℕ) → Flush (head_of c) → 33 ≤ n → n ≤ 35 → answer_of c ≡ dropped n → ⊥

-- a read, flush or not, is never dropped by 5 to 9: where they refuse it, it is answered
abbrev pub RefusedReadsAnswered : Type 0
RefusedReadsAnswered = (c : Call) (n : ℕ) → is_read (kind (head_of c)) ≡ true → 5 ≤ n → n ≤ 9 → answer_of c ≡ dropped n → ⊥

-- "the byte count is 1 and the low two bits of the lower address are 0", in the answer to a flush read that is refused:
-- the lower address is bits 6:2 of the address, and 00
abbrev pub FlushAnswered : Type 0
FlushAnswered =
    (c : Call) (n : ℕ) (x : Sent) → Flush (head_of c) → answer_of c ≡ answered n x
    → (byte_count_field x.header ≡ 1) × (lower_address_field x.header ≡ place 2 (field 2 5 (address (head_of c))))

-- a flush that crosses is a flush of the same sort on the far side, with the data that it had: of a write one word, 4 bytes
pub record FlushCameOut (c : Call) (x : Sent) : Type 0 where
  pub again : Flush (header_of (came_out c x))
  pub same_sort : is_read (kind (header_of (came_out c x))) ≡ is_read (kind (head_of c))
  pub same_data : data_of (came_out c x) ≡ body_of c
  pub one_word : is_write (kind (head_of c)) ≡ true → length (body_of c) ≡ 4

-- so it is of every flush that crosses
abbrev pub FlushCrosses : Type 0
FlushCrosses = (c : Call) (x : Sent) → Lent c → Flush (head_of c) → answer_of c ≡ crossed x → FlushCameOut c x
