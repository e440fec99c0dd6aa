-- Alignment, counted instead of divided: 2^k divides a number exactly if it ends in k zeros or more. Digit by digit: an odd number
-- ends in no zero; an even one, looked at over one digit more, in one zero more than its half. Assumes nothing.
use Prim.Native.Nat.{ℕ, zero, suc, ◌+◌, ◌*◌, ◌/◌, ◌%◌, ◌^◌, ◌≤◌}
use mathlib.Core.Path.{◌≡◌, refl, sym, ap, ◌∙◌}
use mathlib.Core.Bool.{true}
use native.Mathlib.Nat.{le_of_suc-le-suc, not-suc-le-zero, zero-mod}
use native.Mathlib.Numerals.{add-one}
use native.Mathlib.Omega.{arith}
use borrow.Author.Tests.{eq-eqb, ne_eqb}
use lib.Count.{count_trailing_zeros, under}
use lib.Dec.{eqb, leb, leb-zero, leb-suc-zero, leb-suc-suc, eqb-suc-zero}
use lib.Pow.{mod-pow-add}
use Rattle.rows.specs.Row.{aligned}

-- "zero fits every size"
pub zero_fits_every_size : (k : ℕ) → aligned 0 k ≡ true
unfolding aligned
zero_fits_every_size k = eq-eqb (0 % 2 ^ k) 0 (zero-mod (2 ^ k))

-- one digit more of a remainder: that of the half, and below it the lowest digit
digit : (n k : ℕ) → n % 2 ^ suc k ≡ n / 2 % 2 ^ k * 2 + n % 2
digit n k = ap (λ (i : ℕ). n % 2 ^ i) (sym (add-one k)) ∙ mod-pow-add n k 1

-- a number and its double are zero together
doubled : (m : ℕ) → eqb m 0 ≡ eqb (m * 2) 0
doubled zero = refl
doubled (suc m) = eqb-suc-zero m ∙ sym (ne_eqb (suc m * 2) 0 (λ z. omega arith))

-- "enough low zero bits fit a size": among the d lowest digits of a number, k zeros or more at the low end, exactly where 2^k divides
pub enough_zeros_fit : (d k n : ℕ) → k ≤ d → leb k (count_trailing_zeros d n) ≡ aligned n k
unfolding count_trailing_zeros aligned
enough_zeros_fit d zero n h = leb-zero (count_trailing_zeros d n) ∙ sym (eq-eqb (n % 1) 0 (omega arith))
enough_zeros_fit zero (suc k) n h = absurd (not-suc-le-zero h)
enough_zeros_fit (suc d) (suc k) n h = go (n % 2) refl (enough_zeros_fit d k (n / 2) (le_of_suc-le-suc h))
  where
    go : (r : ℕ) → n % 2 ≡ r → leb k (count_trailing_zeros d (n / 2)) ≡ eqb (n / 2 % 2 ^ k) 0
        → leb (suc k) (under r (count_trailing_zeros d (n / 2))) ≡ eqb (n % 2 ^ suc k) 0
    go zero even half =
        let whole : n % 2 ^ suc k ≡ n / 2 % 2 ^ k * 2 = omega (arith, digit n k, even) in
        leb-suc-suc k (count_trailing_zeros d (n / 2)) ∙ half ∙ doubled (n / 2 % 2 ^ k) ∙ ap (λ (m : ℕ). eqb m 0) (sym whole)
    go (suc r) odd half = leb-suc-zero k ∙ sym (ne_eqb (n % 2 ^ suc k) 0 (λ z. omega (arith, digit n k, odd, z)))
