-- What the scan for every question has seen, turn by turn; and what that tells of an address, and of a way back. The searches' own laws,
-- at the row's tests. Assumes nothing.
use Prim.Native.Nat.{ℕ, ◌+◌, ◌-◌, ◌<◌, ◌≤◌, ◌^◌}
use mathlib.Core.Path.{◌≡◌, refl, sym, ap, ◌∙◌}
use mathlib.Core.Bool.{Bool, true, false, ◌||◌}
use mathlib.Core.List.{List}
use lib.Dec.{ltb}
use native.Mathlib.Omega.{arith}
use borrow.Author.Tests.{ltb-true, ltb-false, lt-ltb, le-ltb}
use Rattle.std.specs.Prelude.{Option, Some, None, is_some}
use Rattle.ground.specs.Pick.{pick}
use Rattle.ground.specs.Scan.{first, some}
use Rattle.ground.proofs.Laws.Join.{neither}
use Rattle.ground.proofs.Laws.Pick.{hit, pass}
use Rattle.ground.proofs.Laws.Scan.{within, first_some, stop, go_on, end, none_yet, one_more}
use Rattle.rows.specs.Row.{slots, row_of, covers}
use Rattle.rows.specs.declared.Window.{Window}
use Rattle.rows.proofs.Laws.Row.{covered_fits}
use Rattle.look.specs.Look.{lowest_slot, translated, look_up, slot_leads, reaches, way_back}
use Rattle.look.specs.Scan.{fits, half_fits, slot_fit, fitting_slot, seen_slot, seen_of}
use Rattle.look.specs.declared.Translation.{Translation}
use Rattle.look.specs.declared.Question.{Question}
use Rattle.look.specs.declared.Question.TheVariants.{Address, Return}
use Rattle.look.specs.declared.Seen.{Seen}
use Rattle.look.proofs.Laws.Look.{lowest_covers, reached_by, reaches_by, way_unmarked}

-- ---- turn by turn

-- the lowest slot from s on that answers wholly, or the number of slots
pub fitting_from : Question → ℕ → List ℕ → ℕ → ℕ
fitting_from question p windows s = first (λ (k : ℕ). fits question p (row_of windows p k)) s (slots - s)

-- a slot below s answers but for the mark
pub half_below : Question → ℕ → List ℕ → ℕ → Bool
half_below question p windows s = some (λ (k : ℕ). half_fits question p (row_of windows p k)) s

module _ (question : Question) (p : ℕ) (windows : List ℕ) where
  -- at first all slots are left,
  pub all_left : fitting_slot question p windows ≡ fitting_from question p windows 0
  unfolding fitting_from
  all_left = refl

  -- and none was seen
  pub none_seen : half_below question p windows 0 ≡ false
  unfolding half_below
  none_seen = none_yet (λ (k : ℕ). half_fits question p (row_of windows p k))

  module _ (s : ℕ) where
    -- one that does not answer wholly is passed over
    pub passed : s < slots → (slot_fit question p windows s).whole ≡ false → fitting_from question p windows s ≡ fitting_from question p windows (s + 1)
    unfolding fitting_from
    passed h e = go_on (λ (k : ℕ). fits question p (row_of windows p k)) s slots h e

    -- and seen, if it answers but for the mark
    pub seen_too : half_below question p windows (s + 1) ≡ (half_below question p windows s || (slot_fit question p windows s).half)
    unfolding half_below
    seen_too = one_more (λ (k : ℕ). half_fits question p (row_of windows p k)) s

    -- the first that answers wholly ends the scan,
    pub whole_ends : s < slots → (slot_fit question p windows s).whole ≡ true → fitting_slot question p windows ≡ fitting_from question p windows s
        → record { slot = Some s; half = half_below question p windows s } ≡ seen_of question p windows
    unfolding fitting_from half_below
    whole_ends h e l =
        let here : fitting_slot question p windows ≡ s = l ∙ stop (λ (k : ℕ). fits question p (row_of windows p k)) s slots h e in
        let found : Some s ≡ seen_slot s = hit (ltb s slots) (Some s) None (lt-ltb s slots h) refl in
        cc

    -- and so does the end
    pub end_ends : slots ≤ s → fitting_slot question p windows ≡ fitting_from question p windows s
        → record { slot = None; half = half_below question p windows s } ≡ seen_of question p windows
    unfolding fitting_from half_below
    end_ends h l =
        let here : fitting_slot question p windows ≡ s = l ∙ end (λ (k : ℕ). fits question p (row_of windows p k)) s slots h in
        let past : ◌≡◌ {A = Option ℕ} None (seen_slot s) = pass (ltb s slots) (Some s) None (le-ltb s slots h) refl in
        cc

-- the scan, turn by turn
pub ruleset turns = (all_left, none_seen, passed, seen_too, whole_ends, end_ends)

-- ---- what was seen

-- a slot that was seen is the first, and below sixteen
slot_seen : (n s : ℕ) → seen_slot n ≡ Some s → (n ≡ s) × (n < slots)
unfolding pick
slot_seen n s e = by_test (ltb n slots) refl e
  where
    by_test : (b : Bool) → ltb n slots ≡ b → pick b (Some n) None ≡ Some s → (n ≡ s) × (n < slots)
    by_test true l q = (cc, ltb-true n slots l)
    by_test false l q = cc

-- where none was, there is none
slot_not_seen : (n : ℕ) → seen_slot n ≡ None → ltb n slots ≡ false
unfolding pick
slot_not_seen n e = by_test (ltb n slots) refl e
  where
    by_test : (b : Bool) → ltb n slots ≡ b → pick b (Some n) None ≡ None → ltb n slots ≡ false
    by_test true l q = cc
    by_test false l q = l

-- some slot was seen where there is one
some_seen : (n : ℕ) → is_some (seen_slot n) ≡ ltb n slots
unfolding pick
some_seen n = by_test (ltb n slots)
  where
    by_test : (b : Bool) → is_some (pick b (Some n) None) ≡ b
    by_test true = refl
    by_test false = refl

module _ (seen : Seen) (p a : ℕ) (windows : List ℕ) (e : seen ≡ seen_of (Address a) p windows) where
  is_lowest : seen.slot ≡ seen_slot (lowest_slot windows p a)
  is_lowest = ap (λ (s : Seen). s.slot) e

  -- the row of the slot that was seen covers the address,
  pub seen_covers : (s : ℕ) → seen.slot ≡ Some s → covers p a (row_of windows p s) ≡ true
  seen_covers s q =
      let l = slot_seen (lowest_slot windows p a) s (sym is_lowest ∙ q) in
      ap (λ (k : ℕ). covers p a (row_of windows p k)) (sym l.0) ∙ lowest_covers windows p a l.1

  -- so the sum is in range,
  pub seen_fits : (s : ℕ) (row : Window) → seen.slot ≡ Some s → row ≡ row_of windows p s → row.target < 2 ^ 64
      → (row.base ≤ a) × (a - row.base + row.target < 2 ^ 64)
  seen_fits s row q r b = covered_fits p a row b (ap (covers p a) r ∙ seen_covers s q)

  -- and its translation is what the windows say of it;
  pub seen_over : (s : ℕ) → seen.slot ≡ Some s → Some (translated (row_of windows p s) a) ≡ look_up windows p a
  unfolding look_up
  seen_over s q =
      let l = slot_seen (lowest_slot windows p a) s (sym is_lowest ∙ q) in
      hit _ _ _ (lt-ltb (lowest_slot windows p a) slots l.1) (ap (λ (k : ℕ). Some (translated (row_of windows p k) a)) (sym l.0))

  -- where none was seen, they say nothing
  pub unseen_over : seen.slot ≡ None → None ≡ look_up windows p a
  unfolding look_up
  unseen_over q = pass _ _ _ (slot_not_seen (lowest_slot windows p a) (sym is_lowest ∙ q)) refl

-- an address
pub ruleset over_seen = (seen_over, unseen_over)

module _ (seen : Seen) (p q : ℕ) (marked : Bool) (windows : List ℕ) (e : seen ≡ seen_of (Return q marked) p windows) where
  -- a slot was seen exactly where packets so marked are led there
  whole : is_some seen.slot ≡ reaches windows p q marked
  whole = ap (λ (s : Seen). is_some s.slot) e ∙ some_seen (first (slot_leads windows p q marked) 0 slots) ∙ first_some (slot_leads windows p q marked) slots

  -- where none was, what was seen but for the mark was seen in all slots
  half : is_some seen.slot ≡ false → seen.half ≡ reaches windows p q false
  half n =
      let past = ltb-false (first (slot_leads windows p q marked) 0 slots) 16 (first_some (slot_leads windows p q marked) slots ∙ sym whole ∙ n) in
      let end : first (slot_leads windows p q marked) 0 16 ≡ 16 = let w = within (slot_leads windows p q marked) 0 16 in omega (arith, past, w) in
      ap (λ (s : Seen). s.half) e ∙ ap (some (slot_leads windows p q false)) end

  -- something was seen: p has some row to q
  some_row : (is_some seen.slot || seen.half) ≡ true → reaches windows p q false ≡ true
  some_row t = by_test (is_some seen.slot) refl t
    where
      by_test : (b : Bool) → is_some seen.slot ≡ b → (b || seen.half) ≡ true → reaches windows p q false ≡ true
      by_test true w t = reaches_by windows p q false (way_unmarked windows p q marked (reached_by windows p q marked (sym whole ∙ w)))
      by_test false w t = sym (half w) ∙ t

  -- the way
  pub seen_way : (is_some seen.slot || seen.half) ≡ true
      → ◌≡◌ {A = Option Translation} (Some (record { destination = p; address = 0; marked = is_some seen.slot })) (way_back windows p q marked)
  unfolding way_back
  seen_way t =
      let way : Bool → Option Translation = λ b. Some (record { destination = p; address = 0; marked = b }) in
      hit (reaches windows p q false) _ _ (some_row t) (ap way whole)

  -- none
  pub seen_none : (is_some seen.slot || seen.half) ≡ false → None ≡ way_back windows p q marked
  unfolding way_back
  seen_none t =
      let n = neither (is_some seen.slot) seen.half t in
      pass (reaches windows p q false) _ _ (sym (half n.0) ∙ n.1) refl

-- a way back
pub ruleset back_seen = (seen_way, seen_none)
