-- "The lowest slot": the first of some places at which a test holds; and "some row": whether it holds at one of them.
use Rattle.std.specs.Prelude.{ℕ, zero, suc, Bool, false, ◌||◌}
use Rattle.ground.specs.Pick.{pick}

-- the first of the n places from s on at which the test holds; the place after the last where it holds at none
unfoldable pub first : (ℕ → Bool) → ℕ → ℕ → ℕ
first test s zero = s
first test s (suc n) = let r = first test (suc s) n in pick (test s) s r

-- the test holds at one of the first n places
unfoldable pub some : (ℕ → Bool) → ℕ → Bool
some test zero = false
some test (suc n) = some test n || test n
