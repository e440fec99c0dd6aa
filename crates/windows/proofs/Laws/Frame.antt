-- What each call of the table of windows leaves alone: every word outside the row that it writes. One law of a row that is written or
-- refused serves both: none of its three stores is at such a word. Assumes nothing.
use Prim.Native.Nat.{ℕ, ◌+◌, ◌≤◌, ◌<◌}
use mathlib.Core.Path.{◌≡◌, refl, ◌∙◌}
use mathlib.Core.Bool.{Bool}
use mathlib.Core.List.{List}
use mathlib.Core.Logic.{◌⊎◌, inl, inr}
use native.Mathlib.Omega.{arith}
use lib.Dec.{eqb}
use lib.ListN.{get_or, set}
use lib.Seq.{get_or-set_other}
use Rattle.ground.proofs.Laws.Pick.{either}
use Rattle.ground.specs.Table.{edited}
use Rattle.rows.specs.Row.{row_at}
use Rattle.windows.specs.Edit.{control_word, with_row, set_window_number, set_window_after, empty_window_number, empty_window_after}

-- an index outside a row is none of its three
outside : (at j i : ℕ) → at ≤ j → j < at + 3 → (i < at) ⊎ (at + 3 ≤ i) → i ≡ j → ⊥
outside at j i low high (inl h) e = omega arith
outside at j i low high (inr h) e = omega arith

-- a row, written or refused, keeps every word outside it
row_elsewhere : (n p s b t c : ℕ) (l : List ℕ) (i : ℕ) → (i < row_at p s) ⊎ (row_at p s + 3 ≤ i) → get_or (edited n (with_row p s b t c l) l) i 0 ≡ get_or l i 0
unfolding edited
row_elsewhere n p s b t c l i h =
    let r = row_at p s in
    let l1 = set l r b in
    let l2 = set l1 (r + 1) t in
    either (λ (k : List ℕ). get_or k i 0 ≡ get_or l i 0) (eqb n 0)
    (λ _. get_or-set_other l2 (r + 2) i c 0 (outside r (r + 2) i (omega arith) (omega arith) h)
    ∙ get_or-set_other l1 (r + 1) i t 0 (outside r (r + 1) i (omega arith) (omega arith) h)
    ∙ get_or-set_other l r i b 0 (outside r r i (omega arith) (omega arith) h))
    (λ _. refl)

-- setting a window keeps every word outside its row
pub set_window_elsewhere : (p slot base target k q : ℕ) (marked : Bool) (l : List ℕ) (i : ℕ) → (i < row_at p slot) ⊎ (row_at p slot + 3 ≤ i)
    → get_or (set_window_after p slot base target k q marked l) i 0 ≡ get_or l i 0
set_window_elsewhere p slot base target k q marked l i h =
    row_elsewhere (set_window_number p slot base target k q l) p slot base target (control_word k q marked) l i h

-- and so does emptying one
pub empty_window_elsewhere : (p slot : ℕ) (l : List ℕ) (i : ℕ) → (i < row_at p slot) ⊎ (row_at p slot + 3 ≤ i) → get_or (empty_window_after p slot l) i 0 ≡ get_or l i 0
empty_window_elsewhere p slot l i h = row_elsewhere (empty_window_number p slot l) p slot 0 0 0 l i h
