-- What came out of a call of `pass`, and what the demands say of its packet.
use Rattle.std.specs.Prelude.{ℕ, ◌^◌, ◌<◌, true, ◌≡◌, List, get_or, take}
use Rattle.header.specs.Kind.{is_request}
use Rattle.header.specs.Fields.{kind}
use Rattle.switch.specs.declared.answer.Sent.{Sent}
use Rattle.routing.specs.Call.{Call, head_of}
use Rattle.switch.specs.Answer.{crossed}
use Rattle.switch.specs.After.{answer_of, out_of}

-- the packet that came out with the record x: as many bytes from the start of Out as x says
abbrev pub came_out : Call → Sent → List ℕ
came_out c x = take x.length (out_of c)

-- what the types of slices say: bytes are below 2^8, words of the windows below 2^64
pub record Lent (c : Call) : Type 0 where
  pub bytes : (i : ℕ) → get_or c.packet i 0 < 2 ^ 8
  pub words : (i : ℕ) → get_or c.tables.windows i 0 < 2 ^ 64

-- a request passed, and came out with the record x
pub record Passed (c : Call) (x : Sent) : Type 0 where
  pub lent : Lent c
  pub request : is_request (kind (head_of c)) ≡ true
  pub went : answer_of c ≡ crossed x
