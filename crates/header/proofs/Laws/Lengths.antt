-- How long the parts of a packet can be: a header of 12 or 16 bytes, data of none or 4 to 4,096, at most 4,112 in all.
-- Each choice of the definitions is bounded in both its cases. Assumes nothing.
use Prim.Native.Nat.{ℕ, ◌≤◌}
use mathlib.Core.Path.{◌≡◌}
use mathlib.Core.Bool.{true}
use mathlib.Core.Logic.{◌⊎◌}
use native.Mathlib.Omega.{arith}
use Rattle.header.specs.Kind.{has_four_words, header_bytes}
use Rattle.header.specs.Fields.{kind, dwords, data_bytes, total_bytes}
use Rattle.header.specs.declared.words.Header.{Header}
use Rattle.std.proofs.lemmas.Bool.Decides.{nat_tests}
use Rattle.ground.specs.Pick.{pick}

-- a header is 12 or 16 bytes long
pub header_12_or_16 : (k : ℕ) → (header_bytes k ≡ 12) ⊎ (header_bytes k ≡ 16)
unfolding pick
header_12_or_16 k = grind arith

pub header_16 : (k : ℕ) → has_four_words k ≡ true → header_bytes k ≡ 16
unfolding pick
header_16 k e = rw e

pub header_bounds : (k : ℕ) → (12 ≤ header_bytes k) × (header_bytes k ≤ 16)
unfolding pick
header_bounds k = grind arith

-- a Length is 1 to 1,024 dwords
pub dwords_bounds : (h : Header) → (1 ≤ dwords h) × (dwords h ≤ 1024)
unfolding pick
dwords_bounds h = grind (arith, nat_tests)

-- there is no data, or 4 to 4,096 bytes of it
pub data_none_or_some : (h : Header) → (data_bytes h ≡ 0) ⊎ ((4 ≤ data_bytes h) × (data_bytes h ≤ 4096))
unfolding pick
data_none_or_some h = grind (arith, dwords_bounds)

pub data_at_most : (h : Header) → data_bytes h ≤ 4096
data_at_most h = grind (arith, data_none_or_some)

-- a whole packet is at most 4,112 bytes long
pub total_at_most : (h : Header) → total_bytes h ≤ 4112
total_at_most h = omega (arith, header_bounds (kind h), data_at_most h)
