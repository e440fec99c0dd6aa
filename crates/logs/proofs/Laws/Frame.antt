-- What recording leaves alone, the length and every word outside the row, and what clearing does, every word but the status. By the definitions,
-- whose every store keeps the length and the words elsewhere. Assumes nothing.
use Prim.Native.Nat.{ℕ, ◌+◌, ◌-◌, ◌≤◌, ◌<◌}
use mathlib.Core.Path.{◌≡◌}
use mathlib.Core.Logic.{◌⊎◌}
use mathlib.Core.List.{List}
use native.Mathlib.Omega.{arith}
use lib.ListN.{length, get_or, length-set}
use lib.Seq.{get_or-set_other}
use lib.Bits.{bit_and}
use Rattle.ground.specs.Pick.{pick}
use Rattle.header.specs.declared.words.Header.{Header}
use Rattle.ground.proofs.Laws.Table.{store_elsewhere}
use Rattle.logs.specs.declared.Bit.{Bit}
use Rattle.logs.specs.Logs.{row_width, row_at, status_of, noted, recorded, clear_number, clear_after}

-- noting keeps the length
noted_length : (r : ℕ) (b : Bit) (h : Header) (logs : List ℕ) → length (noted r b h logs) ≡ length logs
unfolding noted
noted_length r b h logs = simp length-set

-- noting keeps every word outside the row
noted_elsewhere : (r : ℕ) (b : Bit) (h : Header) (logs : List ℕ) (i : ℕ) → (i < r) ⊎ (r + row_width ≤ i) → get_or (noted r b h logs) i 0 ≡ get_or logs i 0
unfolding noted
noted_elsewhere r b h logs i o = grind (arith, get_or-set_other)

-- recording keeps the length
pub recorded_length : (p : ℕ) (b : Bit) (h : Header) (logs : List ℕ) → length (recorded p b h logs) ≡ length logs
unfolding recorded pick
recorded_length p b h logs = grind (arith, length-set, noted_length)

-- recording keeps every word outside the row
pub recorded_elsewhere : (p : ℕ) (b : Bit) (h : Header) (logs : List ℕ) (i : ℕ) → (i < row_at p) ⊎ (row_at p + row_width ≤ i)
    → get_or (recorded p b h logs) i 0 ≡ get_or logs i 0
unfolding recorded pick
recorded_elsewhere p b h logs i o = grind (arith, get_or-set_other, noted_elsewhere)

-- clearing keeps every word but the status
pub clear_elsewhere : (p ones : ℕ) (logs : List ℕ) (i : ℕ) → (i ≡ row_at p → ⊥) → get_or (clear_after p ones logs) i 0 ≡ get_or logs i 0
clear_elsewhere p ones logs i h = store_elsewhere (clear_number p logs) logs (row_at p) (status_of p logs - bit_and (status_of p logs) ones) i h
