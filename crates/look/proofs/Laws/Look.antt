-- What a look-up found: a slot below sixteen whose row covers the address, the lowest such, and that row's translation; what being
-- reached tells of rows; and both as the demands speak of them. The search's own laws, at the row's test. Assumes nothing.
use Prim.Native.Nat.{ℕ, ◌+◌, ◌%◌, ◌^◌, ◌≤◌, ◌<◌}
use mathlib.Core.Path.{◌≡◌, refl, sym, ap, ◌∙◌, subst}
use mathlib.Core.Bool.{Bool, true, false, true≢false}
use mathlib.Core.List.{List}
use native.Mathlib.Omega.{arith}
use borrow.Author.Tests.{ltb-true}
use lib.Dec.{ltb}
use lib.ListN.{get_or}
use Rattle.ground.specs.Pick.{pick}
use Rattle.ground.specs.Scan.{first}
use Rattle.ground.proofs.Laws.Join.{both}
use Rattle.ground.proofs.Laws.Scan.{holds, fails_before, some_at, some_first}
use Rattle.rows.specs.Row.{slots, row_at, row_of, exponent, in_force, spans, covers}
use Rattle.look.specs.Look.{slot_covers, lowest_slot, translated, look_up, slot_leads, reaches, CoveredBy, WayTo, AllShut}
use Rattle.look.specs.declared.Translation.{Translation}
use Rattle.std.specs.Prelude.{Some, None}
use Rattle.rows.proofs.Laws.Row.{force, led, leads_unmarked, covered_fits, covered_pages}

-- the slot that was found covers the address
pub lowest_covers : (windows : List ℕ) (p a : ℕ) → lowest_slot windows p a < 16 → covers p a (row_of windows p (lowest_slot windows p a)) ≡ true
lowest_covers windows p a h = holds (slot_covers windows p a) 0 16 (omega arith)

-- and no slot below it does
pub lower_cover_not : (windows : List ℕ) (p a s : ℕ) → s < lowest_slot windows p a → covers p a (row_of windows p s) ≡ false
lower_cover_not windows p a s h = fails_before (slot_covers windows p a) 0 16 s (omega arith) h

-- an open look is of a covered address, and of no other
pub opened : (windows : List ℕ) (p a : ℕ) (t : Translation) → look_up windows p a ≡ Some t → CoveredBy windows p a t
unfolding look_up pick
opened windows p a t e = by_test (ltb (lowest_slot windows p a) slots) refl e
  where
    by_test : (b : Bool) → ltb (lowest_slot windows p a) slots ≡ b
        → pick b (Some (translated (row_of windows p (lowest_slot windows p a)) a)) None ≡ Some t → CoveredBy windows p a t
    by_test true l q =
        let h = ltb-true (lowest_slot windows p a) 16 l in
        record {
          slot = lowest_slot windows p a;
          slot_lt = h;
          covering = lowest_covers windows p a h;
          lowest = lower_cover_not windows p a;
          becomes = (cc);
        }
    by_test false l q = let z : ◌≡◌ {A = ℕ} 0 1 = cc in absurd (omega arith)

-- who is reached has a way there
pub reached_by : (windows : List ℕ) (p q : ℕ) (marked : Bool) → reaches windows p q marked ≡ true → WayTo windows p q marked
reached_by windows p q marked e =
    let f = some_first (slot_leads windows p q marked) 16 e in
    record { slot = first (slot_leads windows p q marked) 0 16; slot_lt = f.0; leading = f.1 }

-- and who has a way there is reached
pub reaches_by : (windows : List ℕ) (p q : ℕ) (marked : Bool) → WayTo windows p q marked → reaches windows p q marked ≡ true
reaches_by windows p q marked w = some_at (slot_leads windows p q marked) 16 w.slot w.slot_lt w.leading

-- a way for packets so marked is one for unmarked packets too
pub way_unmarked : (windows : List ℕ) (p q : ℕ) (marked : Bool) → WayTo windows p q marked → WayTo windows p q false
way_unmarked windows p q marked w =
    record { slot = w.slot; slot_lt = w.slot_lt; leading = leads_unmarked p q marked (row_of windows p w.slot) w.leading }

-- a covered address is moved by whole pages, to an address of 64 bits, in another partition
module _ (windows : List ℕ) (p a : ℕ) (t : Translation) (o : CoveredBy windows p a t) where
  pub covered_away : t.destination ≡ p → ⊥
  covered_away e =
      let w = row_of windows p o.slot in
      (force p w (both (in_force p w) (spans w.base (exponent w) a) o.covering).0).other (sym (ap (λ (u : Translation). u.destination) o.becomes) ∙ e)

  pub covered_lt : get_or windows (row_at p o.slot + 1) 0 < 2 ^ 64 → t.address < 2 ^ 64
  covered_lt b = subst (λ (u : Translation). u.address < 2 ^ 64) (sym o.becomes) (covered_fits p a (row_of windows p o.slot) b o.covering).1

  pub covered_page : t.address % 2 ^ 12 ≡ a % 2 ^ 12
  covered_page = ap (λ (u : Translation). u.address % 2 ^ 12) o.becomes ∙ covered_pages p a (row_of windows p o.slot) o.covering

-- where every row is shut, no address is covered,
pub shut_covers_none : (windows : List ℕ) → AllShut windows → (p a : ℕ) (t : Translation) → p ≤ 15 → CoveredBy windows p a t → ⊥
shut_covers_none windows shut p a t k o =
    let w = row_of windows p o.slot in
    true≢false (sym (both (in_force p w) (spans w.base (exponent w) a) o.covering).0 ∙ shut p o.slot k o.slot_lt)

-- and there is no way anywhere
pub shut_no_way : (windows : List ℕ) → AllShut windows → (p q : ℕ) (marked : Bool) → p ≤ 15 → WayTo windows p q marked → ⊥
shut_no_way windows shut p q marked k o =
    true≢false (sym (led p q marked (row_of windows p o.slot) o.leading).1 ∙ shut p o.slot k o.slot_lt)
