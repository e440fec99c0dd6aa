-- The loop's invariant: the whole search is what is left of it, and what was seen but for the mark was seen below. Assumes nothing.
use mathlib.Core.Path.{◌≡◌}
use Rattle.look.specs.Scan.{fitting_slot}
use Rattle.look.proofs.Laws.Scan.{fitting_from, half_below}
use Rattle.look.proofs.scan.Given as goal

abbrev pub invariant-loop-s : goal.invariant-loop-s
invariant-loop-s l =
    (fitting_slot l.question l.rows.p l.rows.windows.now ≡ fitting_from l.question l.rows.p l.rows.windows.now l.s)
    × (l.half ≡ half_below l.question l.rows.p l.rows.windows.now l.s)
