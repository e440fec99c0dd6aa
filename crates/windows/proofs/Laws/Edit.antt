-- What a call that was not refused by 10 was given: its size and destination are in range, and its base is aligned, test by test. Assumes
-- nothing.
use Prim.Native.Nat.{ℕ, ◌%◌, ◌^◌, ◌≤◌}
use mathlib.Core.Bool.{false, not, ◌||◌}
use mathlib.Core.Path.{◌≡◌}
use borrow.Author.Tests.{ltb-false, not-false, lt-ltb, le-ltb}
use Rattle.ground.proofs.Laws.Scan.{stop, go_on, end}
use lib.Dec.{eqb, ltb}
use Rattle.ground.proofs.Laws.Join.{neither}
use Rattle.rows.specs.Row.{is_fit}
use Rattle.windows.specs.Edit.{wrong_values}
use Rattle.rows.proofs.Laws.Row.{fits}

-- the size, the base and the destination
pub right_values : (p base target k q : ℕ) → wrong_values p base target k q ≡ false → ((12 ≤ k) × (k ≤ 39)) × (base % 2 ^ k ≡ 0) × (q ≤ 15)
right_values p base target k q e =
    let m = neither (not (is_fit base target k) || ltb 15 q) (eqb q p) e in
    let o = neither (not (is_fit base target k)) (ltb 15 q) m.0 in
    let f = fits base target k (not-false (is_fit base target k) o.0) in
    (f.0, f.1, ltb-false 15 q o.1)

-- a search for the lowest slot, turn by turn
pub ruleset slots_scanned = (stop, go_on, end, lt-ltb, le-ltb)
