-- The word less the field at its place is its other two digits; the new value then stands in the gap. Assumes nothing.
use lib.Pow.{shl_exact}
use Prim.Native.Nat.{ℕ, ◌+◌, ◌*◌, ◌^◌, ◌%◌, ◌≤◌, ◌<◌}
use mathlib.Core.Path.{◌≡◌}
use native.Mathlib.Omega.{arith}
use Rattle.ground.proofs.Laws.Field.{parts, field_lt, stays_lt}
use Rattle.ground.specs.Field.{field, place}
use Rattle.header.proofs.field.with_field.Goals as goal

-- neither shift of the code loses a bit
shifts : (w low width x old : ℕ) → low + width ≤ 32 → x < 2 ^ width → old ≡ field low width w
    → (old * 2 ^ low % 2 ^ 32 ≡ place low (field low width w)) × (x * 2 ^ low % 2 ^ 32 ≡ place low x)
shifts w low width x old h b e = (rw e (shl_exact width low 32 (field_lt low width w) (omega arith)), shl_exact width low 32 b (omega arith))

pub overflow_add-result : goal.overflow_add-result
overflow_add-result c =
    let a = c.args in
    let lt = stays_lt a.low a.width a.w a.x c.requires.3 32 (omega arith) c.ranges.w.fits in
    omega (arith, parts a.low a.width a.w, shifts a.w a.low a.width a.x c.field.result c.requires.2 c.requires.3 c.field.ensures, lt)

pub returns : goal.returns
returns c =
    let a = c.args in
    omega (arith, parts a.low a.width a.w, shifts a.w a.low a.width a.x c.field.result c.requires.2 c.requires.3 c.field.ensures)
