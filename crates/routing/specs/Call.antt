-- A call of `pass`: what it is lent, and what its answer depends on.
use Rattle.std.specs.Prelude.{ℕ, Bool, List, length, Option}
use Rattle.header.specs.Words.{header_of}
use Rattle.header.specs.Fields.{data_of}
use Rattle.header.specs.declared.words.Header.{Header}
use Rattle.look.specs.Look.{look_of, reaches, CoveredBy, WayTo}
use Rattle.look.specs.declared.Translation.{Translation}
use Rattle.look.specs.declared.Question.{Question}

-- "The lent tables" that passing reads: words of 64 bits, and words of 32 bits
pub record Tables : Type 0 where
  pub windows : List ℕ
  pub numbers : List ℕ

-- the tables by their words
abbrev pub lent : List ℕ → List ℕ → Tables
lent windows numbers = record { windows = windows; numbers = numbers }

-- what the windows of p answer to a question
abbrev pub looked : Tables → Question → ℕ → Option Translation
looked tables question p = look_of question p tables.windows

-- p has some row in force to q, for packets so marked
abbrev pub reached : Tables → ℕ → ℕ → Bool → Bool
reached tables p q marked = reaches tables.windows p q marked

-- an address of p is covered, and becomes t
abbrev pub Covered : Tables → ℕ → ℕ → Translation → Type 0
Covered tables p a t = CoveredBy tables.windows p a t

-- p has a way to q, for packets so marked
abbrev pub HasWay : Tables → ℕ → ℕ → Bool → Type 0
HasWay tables p q marked = WayTo tables.windows p q marked

-- what an answer depends on: who sends a packet of which header words and how many bytes, the tables, and how long the logs and Out are
pub record Asked : Type 0 where
  pub sender : ℕ
  pub head : Header
  pub size : ℕ
  pub tables : Tables
  pub logs : ℕ
  pub out : ℕ

-- a call: who sends which bytes, and what is lent
pub record Call : Type 0 where
  pub sender : ℕ
  pub packet : List ℕ
  pub tables : Tables
  pub logs : List ℕ
  pub out : List ℕ

-- a call by what it is given
abbrev pub call_of : ℕ → List ℕ → Tables → List ℕ → List ℕ → Call
call_of p packet tables logs out = record { sender = p; packet = packet; tables = tables; logs = logs; out = out }

-- the packet's header words
abbrev pub head_of : Call → Header
head_of c = header_of c.packet

-- how many bytes it has
abbrev pub size_of : Call → ℕ
size_of c = length c.packet

-- its data
abbrev pub body_of : Call → List ℕ
body_of c = data_of c.packet

-- what its answer depends on
abbrev pub asked : Call → Asked
asked c =
    record {
      sender = c.sender;
      head = head_of c;
      size = size_of c;
      tables = c.tables;
      logs = length c.logs;
      out = length c.out;
    }
