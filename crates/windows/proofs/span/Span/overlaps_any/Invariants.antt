-- The loop's invariant: the whole search is what is left of it. Assumes nothing.
use Prim.Native.Nat.{◌-◌}
use mathlib.Core.Path.{◌≡◌}
use Rattle.ground.specs.Scan.{first}
use Rattle.windows.specs.Edit.{other_overlaps, overlapped_slot}
use Rattle.windows.proofs.span.Span.overlaps_any.Given as goal

abbrev pub invariant-loop-s : goal.invariant-loop-s
invariant-loop-s l =
    overlapped_slot l.rows.windows.now l.rows.p l.slot l.self.base l.self.k
    ≡ first (other_overlaps l.rows.windows.now l.rows.p l.slot l.self.base l.self.k) l.s (16 - l.s)
