-- A table call that is done leaves the new table, and a refused one the old; and what a single store leaves alone. Assumes nothing.
use Prim.Native.Nat.{ℕ}
use mathlib.Core.Path.{◌≡◌, refl}
use mathlib.Core.Bool.{false}
use mathlib.Core.List.{List}
use lib.Dec.{eqb}
use lib.ListN.{get_or, set}
use lib.Seq.{get_or-set_other}
use Rattle.ground.specs.Pick.{pick}
use Rattle.ground.proofs.Laws.Pick.{either}
use Rattle.ground.specs.Table.{edited}

-- done: the new table
pub when_done : (n : ℕ) (new old : List ℕ) → n ≡ 0 → new ≡ edited n new old
unfolding edited pick
when_done n new old e = rw e

-- refused: the old one
pub when_refused : (n : ℕ) (new old : List ℕ) → eqb n 0 ≡ false → old ≡ edited n new old
unfolding edited pick
when_refused n new old e = rw e

-- a store, made or refused, keeps every word elsewhere
pub store_elsewhere : (n : ℕ) (l : List ℕ) (j x i : ℕ) → (i ≡ j → ⊥) → get_or (edited n (set l j x) l) i 0 ≡ get_or l i 0
unfolding edited
store_elsewhere n l j x i h = either (λ (k : List ℕ). get_or k i 0 ≡ get_or l i 0) (eqb n 0) (λ _. get_or-set_other l j i x 0 h) (λ _. refl)
