-- "Logs": a partition's row, recording an error, and clearing a status.
use Rattle.std.specs.Prelude.{ℕ, ◌+◌, ◌-◌, ◌*◌, ◌^◌, List, length, get_or, set, eqb}
use Rattle.std.specs.Int.Bits.{bit_and, bit_or}
use Rattle.ground.specs.Pick.{pick}
use Rattle.header.specs.declared.words.Header.{Header}
use Rattle.ground.specs.Table.{wrong_table, edited}
use Rattle.logs.specs.declared.Bit.{Bit}
use Rattle.logs.specs.declared.Bit.TheVariants.{Poisoned, UnexpectedCompletion, Malformed, Unsupported}

-- "96 numbers of 32 bits"
abbrev pub table_length : ℕ
table_length = 96

-- "six per partition"
abbrev pub row_width : ℕ
row_width = 6

-- the place of a partition's row, which begins with its status
abbrev pub row_at : ℕ → ℕ
row_at p = row_width * p

-- the status word of a partition
abbrev pub status_of : ℕ → List ℕ → ℕ
status_of p logs = get_or logs (row_at p) 0

-- the list's log bits
abbrev pub bit_number : Bit → ℕ
bit_number Poisoned = 12
bit_number UnexpectedCompletion = 16
bit_number Malformed = 18
bit_number Unsupported = 20

-- a status with this bit alone
abbrev pub bit_mask : Bit → ℕ
bit_mask b = 2 ^ bit_number b

-- "first error becomes the bit number and the header words" those of the packet, in the row that begins at `row`
unfoldable pub noted : ℕ → Bit → Header → List ℕ → List ℕ
noted row b h logs =
    set (set (set (set (set logs (row + 1) (bit_number b)) (row + 2) h.w0) (row + 3) h.w1) (row + 4) h.w2) (row + 5) h.w3

-- an error in the row of p: the first "if status was 0", "then the bit is set in status"
unfoldable pub recorded : ℕ → Bit → Header → List ℕ → List ℕ
recorded p b h logs =
    set (pick (eqb (status_of p logs) 0) (noted (row_at p) b h logs) logs) (row_at p) (bit_or (status_of p logs) (bit_mask b))

-- "clear in a log's status the bits given as ones": refusal 1
unfoldable pub clear_number : ℕ → List ℕ → ℕ
clear_number p logs = pick (wrong_table p (length logs) table_length) 1 0

-- the table after it: those bits are 0, "changing nothing else"
abbrev pub clear_after : ℕ → ℕ → List ℕ → List ℕ
clear_after p ones logs = edited (clear_number p logs) (set logs (row_at p) (status_of p logs - bit_and (status_of p logs) ones)) logs
