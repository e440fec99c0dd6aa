-- "A number is given exactly in its case": a way is found exactly where what it says holds. One walk along the rule tells what holds at the way
-- that is found; back again, each fact passes one test more of the rule. Assumes nothing.
use Rattle.std.specs.Prelude.{Option, Some, None, Result, Ok, Err}
use Prim.Native.Nat.{ℕ, ◌/◌, ◌%◌}
use mathlib.Core.Path.{◌≡◌, refl, ap, ◌∙◌, subst}
use mathlib.Core.Bool.{Bool, true, false, not, ◌&&◌}
use mathlib.Core.List.{List}
use borrow.Author.Tests.{not-true, not-false}
use lib.Dec.{eqb}
use Rattle.ground.specs.Pick.{pick}
use Rattle.ground.proofs.Laws.Pick.{either}
use Rattle.header.specs.Fields.{is_poisoned, requester_id, address, completion_requester_id}
use Rattle.header.specs.declared.words.Header.{Header}
use Rattle.tlp.specs.Form.{form_of}
use Rattle.tlp.specs.declared.form.Packet.{Packet}
use Rattle.tlp.proofs.Laws.Rules.{each_packet}
use Rattle.look.specs.Look.{way_back}
use Rattle.look.specs.declared.Translation.{Translation}
use Rattle.look.specs.declared.Question.TheVariants.{Address, Return}
use Rattle.numbers.specs.Entries.{entry_of, entry_at}
use Rattle.numbers.specs.Buses.{bus_of, is_active}
use Rattle.numbers.specs.declared.entries.Entry.{Entry}
use Rattle.numbers.specs.declared.entries.Entry.TheVariants.{Free, Held}
use Rattle.routing.specs.declared.refusal.Refusal.TheVariants.{WrongCall, SenderInactive, Broken, Poisoned}
use Rattle.routing.specs.declared.refusal.Refusal.TheVariants.{NoWindow, NoEntry, DestinationInactive, NotPassable}
use Rattle.routing.specs.declared.rule.Plan.{Plan}
use Rattle.routing.specs.declared.rule.Plan.TheVariants.{Back}
use Rattle.routing.specs.declared.rule.Way.{Way}
use Rattle.routing.specs.declared.rule.Way.TheVariants.{Goes, Comes}
use Rattle.routing.specs.Call.{Asked, looked, reached}
use Rattle.routing.specs.Rule.{wrong_call, mapped_id, gate_of, owner_plan, held_plan, completion_plan, plan_of, plan_way, carried_way, by_gate, pass_way}
use Rattle.routing.specs.Rule.{to_destination, through_entry, is_stopped, through_mark, over_way, back_mark, back_way}
use Rattle.routing.specs.Why.{Entered, Requests, Opened, Admitted, Named, Returns, Mapped, IsHeld, Owned, Passable}
use Rattle.routing.specs.Why.{NoWayBack, no_number, not_held, own, inactive, no_row, going, coming, Holds}
use Rattle.routing.specs.declared.refusal.Refusal.{Refusal}
use Rattle.tlp.specs.declared.form.Rule.{Rule}

-- a choice whose test holds, and one whose test fails
chosen : {A : Type 0} {t : Bool} (x y : A) → t ≡ true → pick t x y ≡ x
unfolding pick
chosen x y e = rw e

passed : {A : Type 0} {t : Bool} (x y : A) → t ≡ false → pick t x y ≡ y
unfolding pick
passed x y e = rw e

-- where the second fails, both do not hold
no_second : (s : Bool) {t : Bool} → t ≡ false → (s && t) ≡ false
no_second true e = e
no_second false e = refl

module _ (a : Asked) where
  -- the sender, the header words, the numbers, and the sender's bus
  abbrev p : ℕ
  p = a.sender

  abbrev h : Header
  h = a.head

  abbrev numbers : List ℕ
  numbers = a.tables.numbers

  abbrev bus : ℕ
  bus = bus_of numbers p

  -- the way of a gate, and that of a plan
  abbrev past : Result Unit Refusal → Result Way Refusal
  past gate = by_gate gate (carried_way p h a.size a.tables)

  abbrev by : Result Plan Refusal → Result Way Refusal
  by plan = plan_way p h a.tables plan

  -- what the owner of entry i says of a completion, and how it comes back where there is some row
  abbrev owner_says : ℕ → Option Translation
  owner_says i = looked a.tables (Return p (is_poisoned h)) (i / 4)

  abbrev coming_by : ℕ → Translation
  coming_by i = record { destination = i / 4; address = 0; marked = reached a.tables (i / 4) p (is_poisoned h) }

  -- ---- what holds at the way that is found

  -- 8
  at_destination : {t : Translation} {i : ℕ} → Named a t i → Holds a (to_destination t i numbers)
  unfolding to_destination
  at_destination {t} {i} n = either (Holds a) (is_active numbers t.destination) (λ e. (n, e)) (λ e. (t, i, n, e))

  -- 7
  at_entry : {t : Translation} → Admitted a t → (f : Option ℕ) → entry_of numbers p (requester_id h) ≡ f → Holds a (through_entry f t numbers)
  at_entry {t} m None e = (t, m, e)
  at_entry m (Some i) e = at_destination (record { admitted = m; entry = e })

  -- 5, of a request
  at_mark : {t : Translation} → Opened a t → Holds a (through_mark t p h numbers)
  unfolding through_mark
  at_mark {t} o =
      either (Holds a) (is_stopped h t.marked) (λ e. going t o e)
      (λ e. at_entry (record { opened = o; admitted = e }) (entry_of numbers p (requester_id h)) refl)

  -- 6
  at_window : Requests a → (l : Option Translation) → looked a.tables (Address (address h)) p ≡ l → Holds a (over_way l p h numbers)
  at_window r None e = (r, e)
  at_window r (Some t) e = at_mark (record { requests = r; opened = e })

  -- 5, of a completion
  at_back : {id i : ℕ} → Passable a id i → Holds a (back_mark (coming_by i) id i h)
  unfolding back_mark
  at_back {id} {i} r = either (Holds a) (is_stopped h (coming_by i).marked) (λ e. coming id i r e) (λ e. (r, e))

  -- 9: the row
  at_row : {id i : ℕ} → Owned a id i → Holds a (back_way (owner_says i) id i h)
  unfolding way_back
  at_row {id} {i} o =
      either (λ (l : Option Translation). Holds a (back_way l id i h)) (reached a.tables (i / 4) p false)
      (λ e. at_back (record { owned = o; row = e }))
      (λ e. (o.is_held.mapped.returns, no_row id i o e))

  -- 9: the owner
  at_owner : {id i : ℕ} → IsHeld a id i → Holds a (by (owner_plan id i p numbers))
  unfolding owner_plan pick
  at_owner {id} {i} m = by_tests (eqb (i / 4) p) refl (is_active numbers (i / 4)) refl
    where
      by_tests : (s : Bool) → eqb (i / 4) p ≡ s → (t : Bool) → is_active numbers (i / 4) ≡ t
          → Holds a (by (pick (not s && t) (Ok (Back id i)) (Err NotPassable)))
      by_tests true e t f = (m.mapped.returns, own id i m e)
      by_tests false e true f = at_row (record { is_held = m; another = e; owner_active = f })
      by_tests false e false f = (m.mapped.returns, inactive id i m f)

  -- 9: the entry
  at_held : {i : ℕ} → Mapped a i → (e : Entry) → entry_at numbers i ≡ e → Holds a (by (held_plan e i p numbers))
  at_held {i} m Free e = (m.returns, not_held i m e)
  at_held m (Held id) e = at_owner (record { mapped = m; held = e })

  -- 9: the number
  at_completion : Returns a → Holds a (by (completion_plan p bus h numbers))
  unfolding completion_plan
  at_completion r =
      let id = completion_requester_id h in
      either (λ (plan : Result Plan Refusal). Holds a (by plan)) (eqb id (mapped_id bus (id % 64)))
      (λ e. at_held (record { returns = r; index = refl; number = e }) (entry_at numbers (id % 64)) refl)
      (λ e. (r, no_number e))

  -- 31, 4, and 32 to 36
  pub carried_holds : Entered a → Holds a (carried_way p h a.size a.tables)
  carried_holds n =
      each_packet a.size h (λ (k : Result Packet Rule). Holds a (by (plan_of k p bus numbers)))
      (λ r e. (n, e))
      (λ e. at_window (record { entered = n; request = e }) (looked a.tables (Address (address h)) p) refl)
      (λ e. at_completion (record { entered = n; completion = e }))

  -- 1 and 2
  pub holds : Holds a (pass_way a)
  unfolding gate_of
  holds =
      let P : Result Unit Refusal → Type 0 = λ gate. Holds a (past gate) in
      let active = is_active numbers p in
      either P (wrong_call p a.tables a.logs a.out) (λ e. e)
      (λ e. either P (not active) (λ f. (e, not-true active f)) (λ f. carried_holds (record { right = e; active = not-false active f })))

  -- ---- the way that is found where something holds

  -- past 1 and 2
  pub entered : Entered a → pass_way a ≡ carried_way p h a.size a.tables
  unfolding gate_of
  entered n = ap past (passed _ _ n.right ∙ passed _ _ (ap not n.active))

  -- past 31, 4, and 32 to 36
  formed : Entered a → {k : Result Packet Rule} → form_of a.size h ≡ k → pass_way a ≡ by (plan_of k p bus numbers)
  formed n e = entered n ∙ ap (λ (k : Result Packet Rule). by (plan_of k p bus numbers)) e

  requested : Requests a → {l : Option Translation} → looked a.tables (Address (address h)) p ≡ l → pass_way a ≡ over_way l p h numbers
  requested r e = formed r.entered r.request ∙ ap (λ (l : Option Translation). over_way l p h numbers) e

  -- past 6
  opens : {t : Translation} → Opened a t → pass_way a ≡ through_mark t p h numbers
  opens o = requested o.requests o.opened

  -- past 5
  admits : {t : Translation} → Admitted a t → {f : Option ℕ} → entry_of numbers p (requester_id h) ≡ f → pass_way a ≡ through_entry f t numbers
  unfolding through_mark
  admits {t} m e = opens m.opened ∙ passed _ _ m.admitted ∙ ap (λ (f : Option ℕ). through_entry f t numbers) e

  -- past 7
  named : {t : Translation} {i : ℕ} → Named a t i → pass_way a ≡ to_destination t i numbers
  named n = admits n.admitted n.entry

  -- a completion
  returns : Returns a → pass_way a ≡ by (completion_plan p bus h numbers)
  returns r = formed r.entered r.completion

  -- past 9: its number
  mapped : {i : ℕ} → Mapped a i → {e : Entry} → entry_at numbers i ≡ e → pass_way a ≡ by (held_plan e i p numbers)
  unfolding completion_plan
  mapped {i} m e =
      returns m.returns
      ∙ ap by (chosen _ _ (ap (λ (k : ℕ). eqb (completion_requester_id h) (mapped_id bus k)) m.index ∙ m.number))
      ∙ ap (λ (k : ℕ). by (held_plan (entry_at numbers k) k p numbers)) m.index
      ∙ ap (λ (k : Entry). by (held_plan k i p numbers)) e

  -- past 9: its entry
  held : {id i : ℕ} → IsHeld a id i → pass_way a ≡ by (owner_plan id i p numbers)
  held m = mapped m.mapped m.held

  -- past 9: its owner
  owned : {id i : ℕ} → Owned a id i → pass_way a ≡ back_way (owner_says i) id i h
  unfolding owner_plan
  owned {id} {i} o = held o.is_held ∙ ap by (chosen _ _ (ap (λ (s : Bool). not s && is_active numbers (i / 4)) o.another ∙ o.owner_active))

  -- past 9: its row
  passable : {id i : ℕ} → Passable a id i → pass_way a ≡ back_mark (coming_by i) id i h
  unfolding way_back
  passable {id} {i} r = owned r.owned ∙ ap (λ (l : Option Translation). back_way l id i h) (chosen _ _ r.row)

  -- 9
  no_way_back : Returns a → NoWayBack a → pass_way a ≡ Err NotPassable
  unfolding completion_plan owner_plan way_back
  no_way_back r (no_number e) = returns r ∙ ap by (passed _ _ e)
  no_way_back r (not_held i m e) = mapped m e
  no_way_back r (own id i m e) = held m ∙ ap by (passed _ _ (ap (λ (s : Bool). not s && is_active numbers (i / 4)) e))
  no_way_back r (inactive id i m e) = held m ∙ ap by (passed _ _ (no_second (not (eqb (i / 4) p)) e))
  no_way_back r (no_row id i o e) = owned o ∙ ap (λ (l : Option Translation). back_way l id i h) (passed _ _ e)

  -- each way
  found : (y : Result Way Refusal) → Holds a y → pass_way a ≡ y
  unfolding gate_of through_mark to_destination back_mark
  found (Err WrongCall) e = ap past (chosen _ _ e)
  found (Err SenderInactive) e = ap past (passed _ _ e.0 ∙ chosen _ _ (ap not e.1))
  found (Err (Broken r)) e = formed e.0 e.1
  found (Err Poisoned) (going t o e) = opens o ∙ chosen _ _ e
  found (Err Poisoned) (coming id i r e) = passable r ∙ chosen _ _ e
  found (Err NoWindow) e = requested e.0 e.1
  found (Err NoEntry) (t, m, e) = admits m e
  found (Err DestinationInactive) (t, i, n, e) = named n ∙ passed _ _ e
  found (Err NotPassable) e = no_way_back e.0 e.1
  found (Ok (Goes t i)) e = named e.0 ∙ chosen _ _ e.1
  found (Ok (Comes id i)) e = passable e.0 ∙ passed _ _ e.1

-- a way is found exactly where what it says holds
pub exactly : (a : Asked) (y : Result Way Refusal) → (pass_way a ≡ y → Holds a y) × (Holds a y → pass_way a ≡ y)
exactly a y = (λ e. subst (Holds a) e (holds a), found a y)
