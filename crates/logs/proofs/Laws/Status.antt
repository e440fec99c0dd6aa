-- A bit that is recorded in a row of the table is set in its status: what is or-ed in with a power of two has that power's bit.
-- And a status that is cleared is without the bits given as ones. Assumes nothing.
use Prim.Native.Nat.{ℕ, ◌+◌, ◌-◌, ◌^◌, ◌≤◌, ◌<◌}
use mathlib.Core.Path.{◌≡◌}
use mathlib.Core.List.{List}
use native.Mathlib.Omega.{arith}
use Rattle.std.proofs.lemmas.Nat.{and-not, and_comm}
use Rattle.std.proofs.lemmas.Nat.Bits.{bit_at-lt, bit_at-pow_same, bit_at_or}
use lib.ListN.{length, length-set}
use lib.Seq.{get_or-set_same}
use lib.Bits.{bit_and, bit_or}
use Rattle.ground.specs.Pick.{pick}
use Rattle.ground.specs.Field.{field}
use Rattle.header.specs.declared.words.Header.{Header}
use Rattle.logs.specs.Logs.{row_width, row_at, status_of, bit_mask, recorded}
use Rattle.logs.specs.declared.Bit.{Bit}
use Rattle.logs.proofs.Laws.Frame.{recorded_length}

-- a word or-ed with 2^b has bit b
pub set_bit : (b w : ℕ) → field b 1 (bit_or w (2 ^ b)) ≡ 1
set_bit b w = omega (arith, bit_at_or w (2 ^ b) b, bit_at-pow_same b, bit_at-lt w b)

-- a word without the bits given as ones
pub without : (w m : ℕ) → m < 4294967296 → w < 4294967296 → bit_and w (4294967295 - m) ≡ w - bit_and w m
without w m h b = omega (arith, and-not 32 m w h b, and_comm w (4294967295 - m), and_comm w m)

-- a table that has the row gets the bit or-ed into its status
pub status_recorded : (p : ℕ) (b : Bit) (h : Header) (logs : List ℕ) → row_at p + row_width ≤ length logs
    → status_of p (recorded p b h logs) ≡ bit_or (status_of p logs) (bit_mask b)
unfolding recorded pick
status_recorded p b h logs l = grind (arith, get_or-set_same, length-set, recorded_length)
