-- The row of the slot that was seen covers the address, so the sum is in range. Assumes nothing.
use native.Mathlib.Omega.{arith}
use Rattle.look.proofs.Laws.Scan.{seen_fits}
use Rattle.look.proofs.over.Goals as goal

pub translate-requires : goal.translate-requires
translate-requires c =
    let a = c.args in
    seen_fits a.seen a.rows.p a.a a.rows.windows.now c.requires c.in_ok-s.s c.row.result c.in_ok-s.was c.row.ensures (omega arith)
