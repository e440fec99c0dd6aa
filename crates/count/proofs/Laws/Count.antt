-- A byte count is 1 to 4,096, for every Length and all enables. The places of the lowest and the highest enabled byte are
-- compared by the four bits they are picked by. Assumes nothing.
use Prim.Native.Nat.{ℕ, ◌≤◌}
use mathlib.Core.Bool.{Bool}
use native.Mathlib.Omega.{arith}
use Rattle.std.proofs.lemmas.Bool.Decides.{nat_tests}
use Rattle.ground.specs.Pick.{pick}
use Rattle.count.specs.Count.{enabled, lowest, highest, byte_count_of}

-- both places by the four bits: the lowest is at most the highest, and that is at most 3
by_bits : (a b c d : Bool)
    → (pick a 0 (pick b 1 (pick c 2 (pick d 3 0))) ≤ pick d 3 (pick c 2 (pick b 1 0))) × (pick d 3 (pick c 2 (pick b 1 0)) ≤ 3)
unfolding pick
by_bits a b c d = grind arith

-- the lowest enabled byte is at most the highest, and that is at most the fourth
pub places : (e : ℕ) → (lowest e ≤ highest e) × (highest e ≤ 3)
places e = by_bits (enabled 0 e) (enabled 1 e) (enabled 2 e) (enabled 3 e)

-- the count, for every Length of 1 to 1,024 and all enables
pub count_bounds : (n first last : ℕ) → 1 ≤ n → n ≤ 1024 → (1 ≤ byte_count_of n first last) × (byte_count_of n first last ≤ 4096)
unfolding pick byte_count_of
count_bounds n first last l u = grind (arith, nat_tests, places)
