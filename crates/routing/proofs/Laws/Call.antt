-- What a call that was not refused by 1 was given, and that an active partition's bus and the numbers of its bus fit their fields: test by
-- test, and by arithmetic. Assumes nothing.
use Prim.Native.Nat.{ℕ, ◌%◌, ◌^◌, ◌≤◌, ◌<◌}
use mathlib.Core.Path.{◌≡◌}
use mathlib.Core.Bool.{true, false, not, ◌||◌}
use mathlib.Core.List.{List}
use native.Mathlib.Omega.{arith}
use borrow.Author.Tests.{ltb-true, ltb-false, eqb-true, not-false}
use lib.Dec.{eqb, ltb}
use lib.ListN.{length}
use Rattle.ground.proofs.Laws.Join.{neither}
use Rattle.numbers.specs.Buses.{bus_of, is_active}
use Rattle.routing.specs.Call.{Tables}
use Rattle.routing.specs.Rule.{wrong_lengths, wrong_call, bus_id, mapped_id}

-- the partition, the tables' lengths and Out's
pub record RightCall (p windows numbers logs out : ℕ) : Type 0 where
  pub partition : p ≤ 15
  pub length_of_windows : windows ≡ 768
  pub length_of_numbers : numbers ≡ 80
  pub length_of_logs : logs ≡ 96
  pub length_of_out : 4112 ≤ out

pub right_lengths : (p windows numbers logs out : ℕ) → wrong_lengths p windows numbers logs out ≡ false → RightCall p windows numbers logs out
right_lengths p w n logs out e =
    let a = neither (ltb 15 p || not (eqb w 768) || not (eqb n 80) || not (eqb logs 96)) (ltb out 4112) e in
    let b = neither (ltb 15 p || not (eqb w 768) || not (eqb n 80)) (not (eqb logs 96)) a.0 in
    let c = neither (ltb 15 p || not (eqb w 768)) (not (eqb n 80)) b.0 in
    let d = neither (ltb 15 p) (not (eqb w 768)) c.0 in
    record {
      partition = ltb-false 15 p d.0;
      length_of_windows = eqb-true w 768 (not-false (eqb w 768) d.1);
      length_of_numbers = eqb-true n 80 (not-false (eqb n 80) c.1);
      length_of_logs = eqb-true logs 96 (not-false (eqb logs 96) b.1);
      length_of_out = ltb-false out 4112 a.1;
    }

-- those of a call
abbrev pub Right : ℕ → Tables → ℕ → ℕ → Type 0
Right p tables logs out = RightCall p (length tables.windows) (length tables.numbers) logs out

pub right_call : (p : ℕ) (tables : Tables) (logs out : ℕ) → wrong_call p tables logs out ≡ false → Right p tables logs out
right_call p tables logs out = right_lengths p (length tables.windows) (length tables.numbers) logs out

-- an active partition's bus word is below 256
pub bus_lt : (numbers : List ℕ) (p : ℕ) → is_active numbers p ≡ true → bus_of numbers p < 256
bus_lt numbers p e = ltb-true (bus_of numbers p) 256 e

-- an ID of such a bus has 16 bits
pub bus_id_lt : (bus : ℕ) → bus < 256 → bus_id bus < 2 ^ 16
bus_id_lt bus l = omega arith

-- and so has the number of an entry,
pub mapped_lt : (bus i : ℕ) → bus < 256 → i < 64 → mapped_id bus i < 2 ^ 16
mapped_lt bus i l k = omega arith

-- whose index is its remainder
pub mapped_index : (bus i : ℕ) → i < 64 → mapped_id bus i % 64 ≡ i
mapped_index bus i k = omega arith
