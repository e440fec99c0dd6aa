-- What a join of two tests tells of each, and how one is made up of them. By the first test. Assumes nothing.
use mathlib.Core.Path.{◌≡◌, refl, sym}
use mathlib.Core.Bool.{Bool, true, false, ◌&&◌, ◌||◌, true≢false}

-- both hold
pub both : (a b : Bool) → (a && b) ≡ true → (a ≡ true) × (b ≡ true)
both true b e = (refl, e)
both false b e = absurd (true≢false (sym e))

-- neither holds
pub neither : (a b : Bool) → (a || b) ≡ false → (a ≡ false) × (b ≡ false)
neither true b e = absurd (true≢false e)
neither false b e = (refl, e)

-- where the first holds, the second says
pub and_yes : (a b r : Bool) → a ≡ true → r ≡ b → r ≡ (a && b)
and_yes a b r e p = rw e p

-- where the first holds, one does
pub or_yes : (a b : Bool) → a ≡ true → true ≡ (a || b)
or_yes a b e = rw e

-- where the first fails, the second says
pub or_no : (a b r : Bool) → a ≡ false → r ≡ b → r ≡ (a || b)
or_no a b r e p = rw e p
