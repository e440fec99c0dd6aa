-- Demand 3, the return: where a request passed and came out in another partition, a completion from there that bears the number and the tag
-- that it came out with comes back to its sender, under the sender's own number and tag; in any later state in which the call is right, the
-- entry and both buses are as they were, and the sender has some row in force to there, with the bit if the completion is marked. The number
-- names bus and index, the index the entry and its owner, and so the completion's way is found; it comes out whole, and its bytes are those of
-- a returned completion. Assumes nothing.
use Rattle.std.specs.Prelude.{Result, Ok}
use Prim.Native.Nat.{ℕ, ◌+◌, ◌*◌, ◌/◌, ◌%◌, ◌^◌, ◌<◌}
use mathlib.Core.Path.{◌≡◌, refl, sym, ap, ◌∙◌, subst}
use mathlib.Core.Bool.{Bool, true, false, not, ◌&&◌}
use native.Mathlib.Omega.{arith}
use borrow.Author.Tests.{eq-eqb, ne_eqb, ltb-false}
use lib.Dec.{ltb}
use Rattle.ground.proofs.Laws.Field.{field_lt}
use Rattle.header.specs.Kind.{is_completion}
use Rattle.header.specs.Fields.{kind, is_poisoned, requester_id, address, completion_requester_id, completion_tag}
use Rattle.header.specs.Rewrite.{returned}
use Rattle.header.specs.declared.words.Header.{Header}
use Rattle.header.proofs.Laws.Rewrite.{returned_requester, returned_tag}
use Rattle.tlp.specs.Form.{form_of, packet_number}
use Rattle.tlp.specs.declared.form.Packet.{Packet}
use Rattle.tlp.specs.declared.form.Packet.TheVariants.{Completion}
use Rattle.tlp.proofs.Laws.Form.{inverted_completion}
use Rattle.tlp.proofs.Laws.Rules.{no_rule, two_kinds, each_form}
use Rattle.look.proofs.Laws.Look.{reaches_by, way_unmarked, covered_away}
use Rattle.numbers.specs.Entries.{look_at, entry_at}
use Rattle.numbers.specs.Buses.{bus_of, is_active}
use Rattle.switch.specs.declared.answer.Sent.{Sent}
use Rattle.routing.specs.declared.rule.Way.{Way}
use Rattle.routing.specs.declared.rule.Way.TheVariants.{Comes}
use Rattle.routing.specs.Call.{HasWay, Call, head_of, size_of, asked}
use Rattle.routing.specs.Rule.{bus_id, mapped_id, pass_way}
use Rattle.routing.specs.Why.{Mapped, Owned, Passable}
use Rattle.switch.specs.Answer.{Answer, crossed, sent_of, way_answer}
use Rattle.switch.specs.After.{logs_after, answer_of}
use Rattle.routing.proofs.Laws.Call.{bus_lt, bus_id_lt, mapped_index}
use Rattle.routing.proofs.Laws.Exactly.{exactly}
use Rattle.demands.specs.Call.{Passed}
use Rattle.demands.specs.Demand3.{Completes, Provided, ComesBack, Return}
use Rattle.demands.proofs.Laws.Crossing.{Went, Filled, went_entered, went_filled}
use Rattle.demands.proofs.Laws.Outgoing.{went_covered}
use Rattle.demands.proofs.Laws.CameOut.{whole_length, came_out_lem, came_out_whole}
use Rattle.demands.proofs.Laws.Number.{passed_went, number_out_lem, index_out, tag_out_lem}
use Rattle.demands.proofs.Laws.Bytes.{returned_bytes_lem}
use Rattle.routing.specs.declared.refusal.Refusal.{Refusal}
use Rattle.tlp.specs.declared.form.Rule.{Rule}
use Rattle.numbers.specs.declared.entries.Entry.TheVariants.{Held}

-- what breaks no rule and is of a completion's kind is read as a completion
whole_completion : (n : ℕ) (h : Header) → is_completion (kind h) ≡ true → packet_number (form_of n h) ≡ 0 → form_of n h ≡ Ok (Completion h)
whole_completion n h k =
    each_form n h (λ (m : Result Packet Rule). packet_number m ≡ 0 → m ≡ Ok (Completion h))
    (λ r _ e. absurd (no_rule r 0 (omega arith) (λ z. omega (arith, z)) e))
    (λ _ r _. absurd (two_kinds (kind h) r k))
    (λ _ _ _. refl)

-- the index of a slot names its partition
owner_of : (p s i : ℕ) → s < 4 → i ≡ 4 * p + s → i / 4 ≡ p
owner_of p s i l e = omega arith

-- what has the bit is not stopped
not_stopped : (marked bit : Bool) → bit ≡ true → (marked && not bit) ≡ false
not_stopped true bit e = ap not e
not_stopped false bit e = refl

module _ (a c : Call) (x : Sent) (p : Passed a x) (k : Completes a x c) (v : Provided a x c) where
  -- how the request went over
  abbrev w : Went a x
  w = passed_went a x p

  -- the entry that it went by
  abbrev i : ℕ
  i = w.index

  -- what that holds
  filled : Filled a i
  filled = went_filled a x w

  -- the requester's own ID
  abbrev id : ℕ
  id = requester_id (head_of a)

  -- the completion's header words
  abbrev h : Header
  h = head_of c

  -- whether it is marked
  abbrev marked : Bool
  marked = is_poisoned h

  -- the owner of the entry is the request's sender
  owner : i / 4 ≡ a.sender
  owner = owner_of a.sender filled.slot i filled.slot_lt filled.index_is

  -- the completion is sent from where the request went
  there : c.sender ≡ w.way.destination
  there = k.from_there ∙ ap (λ (y : Sent). y.partition) w.sent

  -- whose bus is as it was
  same_bus : bus_of c.tables.numbers c.sender ≡ bus_of a.tables.numbers w.way.destination
  same_bus =
      ap (bus_of c.tables.numbers) k.from_there ∙ v.bus
      ∙ ap (λ (y : Sent). bus_of a.tables.numbers y.partition) w.sent

  -- the number that it bears names that bus and the request's entry
  number : completion_requester_id h ≡ mapped_id (bus_of c.tables.numbers c.sender) i
  number = k.that_number ∙ number_out_lem a x p ∙ ap (λ (b : ℕ). mapped_id b i) (sym same_bus)

  -- the request's sender is active still
  active : is_active c.tables.numbers a.sender ≡ true
  active = ap (λ (b : ℕ). ltb b 256) v.own_bus ∙ (went_entered a x w).active

  -- and so is the completion's
  active_there : is_active c.tables.numbers c.sender ≡ true
  active_there = ap (λ (b : ℕ). ltb b 256) same_bus ∙ w.reached

  -- the owner has a way there
  way_there : HasWay c.tables (i / 4) c.sender marked
  way_there =
      subst (λ (o : ℕ). HasWay c.tables o c.sender marked) (sym owner)
      (subst (λ (q : ℕ). HasWay c.tables a.sender q marked) (sym k.from_there) v.window)

  -- the completion is one
  form : form_of (size_of c) h ≡ Ok (Completion h)
  form = whole_completion (size_of c) h k.completion k.well_formed

  -- it bears the entry's number
  mapped : Mapped (asked c) i
  mapped =
      record {
        returns = record { entered = record { right = k.right_call; active = active_there }; completion = form };
        index = ap (λ (n : ℕ). n % 64) number ∙ mapped_index (bus_of c.tables.numbers c.sender) i filled.index_lt;
        number = eq-eqb (completion_requester_id h) (mapped_id (bus_of c.tables.numbers c.sender) i) number;
      }

  -- the entry still holds the requester's ID
  held : entry_at c.tables.numbers i ≡ Held id
  held =
      subst (λ (j : ℕ). entry_at c.tables.numbers j ≡ entry_at a.tables.numbers j) (index_out a x p) (ap look_at v.entry)
      ∙ filled.held

  -- its owner is another than the completion's sender, since a window leads away
  owned : Owned (asked c) id i
  owned =
      let away = covered_away a.tables.windows a.sender (address (head_of a)) w.way (went_covered a x p.lent w) in
      record {
        is_held = record { mapped = mapped; held = held };
        another = ne_eqb (i / 4) c.sender (λ e. away (sym there ∙ sym e ∙ owner));
        owner_active = ap (is_active c.tables.numbers) owner ∙ active;
      }

  -- so it may come back
  passable : Passable (asked c) id i
  passable =
      let windows = c.tables.windows in
      record { owned = owned; row = reaches_by windows (i / 4) c.sender false (way_unmarked windows (i / 4) c.sender marked way_there) }

  -- its way
  way_back_lem : pass_way (asked c) ≡ Ok (Comes id i)
  way_back_lem =
      let reached = reaches_by c.tables.windows (i / 4) c.sender marked way_there in
      (exactly (asked c) (Ok (Comes id i))).1 (passable, not_stopped marked _ reached)

  -- the number of the sender's bus
  abbrev completer : ℕ
  completer = bus_id (bus_of c.tables.numbers a.sender)

  -- what it comes back with
  abbrev back : Sent
  back = sent_of (returned h id completer) a.sender

  -- it crosses
  crosses : answer_of c ≡ crossed back
  crosses =
      ap (λ (y : Result Way Refusal). way_answer y c.sender h c.tables.numbers) way_back_lem
      ∙ ap (λ (o : ℕ). crossed (sent_of (returned h id (bus_id (bus_of c.tables.numbers o))) o)) owner

  -- and comes back
  comes_back : ComesBack a c
  comes_back =
      let id-lt : id < 2 ^ 16 = field_lt 16 16 (head_of a).w1 in
      let bus-id : completer < 2 ^ 16 = bus_id_lt (bus_of c.tables.numbers a.sender) (bus_lt c.tables.numbers a.sender active) in
      let f = (inverted_completion (size_of c) h h form).0 in
      let long = ltb-false (size_of c) 12 f.long in
      let whole = came_out_whole c back k.lent crosses in
      record {
        back = back;
        crosses = crosses;
        partition = refl;
        whole = sym (whole_length (size_of c) h f.whole);
        bytes = came_out_lem c back k.lent crosses ∙ returned_bytes_lem c.packet k.lent.bytes id completer k.completion long id-lt bus-id;
        own_number = ap completion_requester_id whole.header_is ∙ returned_requester h id completer id-lt bus-id;
        own_tag = ap completion_tag whole.header_is ∙ returned_tag h id completer id-lt bus-id ∙ k.that_tag ∙ tag_out_lem a x p;
        beyond = whole.beyond;
        logs = ap (λ (r : Answer). logs_after r c.sender h c.logs) crosses;
      }

-- the demand's sentence
pub returns : Return
returns a c x = comes_back a c x
