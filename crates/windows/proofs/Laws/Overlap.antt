-- Two aligned spans overlap exactly if their bases lie in the same block of the larger size: the larger span is such a block, and
-- the smaller lies in one. Assumes nothing.
use Prim.Native.Nat.{ℕ, max, ◌+◌, ◌-◌, ◌*◌, ◌/◌, ◌%◌, ◌^◌, ◌≤◌, ◌<◌}
use mathlib.Core.Path.{◌≡◌, refl, sym, ap, ◌∙◌}
use mathlib.Core.Bool.{Bool, true, false, ◌||◌, or_comm}
use native.Mathlib.Nat.{mod-lt}
use native.Mathlib.Omega.{arith}
use borrow.Author.Tests.{le-leb, lt-ltb, leb-true, leb-false, eqb-true, eq-eqb}
use lib.Dec.{eqb, leb}
use lib.Pow.{pow_pos, split, high, low}
use Rattle.ground.proofs.Laws.Join.{and_yes}
use Rattle.rows.specs.Row.{spans}
use Rattle.windows.specs.Edit.{overlap}
use Rattle.rows.proofs.Laws.Row.{spanned, smaller}

-- two tests of which each tells the other are the same
same : (s t : Bool) → (s ≡ true → t ≡ true) → (t ≡ true → s ≡ true) → s ≡ t
same true true f g = refl
same true false f g = sym (f refl)
same false true f g = g refl
same false false f g = refl

-- an address from the base on, by less than the size
within : (c j b : ℕ) → c ≤ b → b - c < 2 ^ j → spans c j b ≡ true
unfolding spans
within c j b l o = sym (and_yes _ _ _ (le-leb c b l) (sym (lt-ltb (b - c) (2 ^ j) o)))

-- an aligned span is the block of its base: it holds the addresses that have its number
block : (c j b : ℕ) → c % 2 ^ j ≡ 0 → eqb (b / 2 ^ j) (c / 2 ^ j) ≡ spans c j b
block c j b z =
    let m = b / 2 ^ j in
    let n = c / 2 ^ j in
    same (eqb m n) (spans c j b) (λ e. inside (eqb-true m n e)) (λ e. eq-eqb m n (number e))
  where
    inside : b / 2 ^ j ≡ c / 2 ^ j → spans c j b ≡ true
    inside q =
        let e : b / 2 ^ j * 2 ^ j ≡ c / 2 ^ j * 2 ^ j = ap (λ (n : ℕ). n * 2 ^ j) q in
        let o : b ≡ c + b % 2 ^ j = omega (arith, split b j, split c j, e, z) in
        within c j b (omega (arith, o)) (omega (arith, o, mod-lt b (pow_pos j)))

    number : spans c j b ≡ true → b / 2 ^ j ≡ c / 2 ^ j
    number e =
        let s = spanned c j b e in
        let o : b ≡ c / 2 ^ j * 2 ^ j + (b - c) = omega (arith, split c j, s, z) in
        ap (λ (n : ℕ). n / 2 ^ j) o ∙ high (c / 2 ^ j) j s.1

-- a multiple of the size in an aligned span is its base
only : (b k c : ℕ) → b % 2 ^ k ≡ 0 → c % 2 ^ k ≡ 0 → spans b k c ≡ true → c ≡ b
only b k c y z e =
    let s = spanned b k c e in
    let o : c ≡ b / 2 ^ k * 2 ^ k + (c - b) = omega (arith, split b k, s, y) in
    let r : c % 2 ^ k ≡ c - b = ap (λ (n : ℕ). n % 2 ^ k) o ∙ low (b / 2 ^ k) k s.1 in
    omega (arith, s, r, z)

-- where the first span is not the larger, it lies in one block of the second's size
pub nested : (b k c j : ℕ) → k ≤ j → b % 2 ^ k ≡ 0 → c % 2 ^ j ≡ 0 → eqb (b / 2 ^ j) (c / 2 ^ j) ≡ overlap b k c j
nested b k c j h y z = block c j b z ∙ absorbed (spans b k c) (spans c j b) (λ e. begins (only b k c y (smaller c k j h z) e))
  where
    begins : c ≡ b → spans c j b ≡ true
    begins e = within c j b (omega (arith, e)) (omega (arith, e, pow_pos j))

    absorbed : (s t : Bool) → (s ≡ true → t ≡ true) → t ≡ (s || t)
    absorbed true t f = f refl
    absorbed false t f = refl

-- where the second is not: the same, named the other way round
pub nesting : (b k c j : ℕ) → j ≤ k → b % 2 ^ k ≡ 0 → c % 2 ^ j ≡ 0 → eqb (b / 2 ^ k) (c / 2 ^ k) ≡ overlap b k c j
nesting b k c j h y z = equal (b / 2 ^ k) (c / 2 ^ k) ∙ nested c j b k h z y ∙ or_comm (spans c j b) (spans b k c)
  where
    equal : (m n : ℕ) → eqb m n ≡ eqb n m
    equal m n = same (eqb m n) (eqb n m) (λ e. eq-eqb n m (sym (eqb-true m n e))) (λ e. eq-eqb m n (sym (eqb-true n m e)))

-- so, whichever is the larger: the bases lie in the same block of the larger size
pub blocks : (b k c j : ℕ) → b % 2 ^ k ≡ 0 → c % 2 ^ j ≡ 0 → eqb (b / 2 ^ max k j) (c / 2 ^ max k j) ≡ overlap b k c j
blocks b k c j y z = by_size (leb k j) refl
  where
    at : (n : ℕ) → max k j ≡ n → eqb (b / 2 ^ n) (c / 2 ^ n) ≡ overlap b k c j → eqb (b / 2 ^ max k j) (c / 2 ^ max k j) ≡ overlap b k c j
    at n e h = rw e h

    by_size : (t : Bool) → leb k j ≡ t → eqb (b / 2 ^ max k j) (c / 2 ^ max k j) ≡ overlap b k c j
    by_size true l = let h = leb-true k j l in at j (omega arith) (nested b k c j h y z)
    by_size false l = let h = leb-false k j l in at k (omega arith) (nesting b k c j (omega arith) y z)
