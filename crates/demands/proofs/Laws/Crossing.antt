-- What a packet that crosses was: a request that went over by a window and an entry, or a completion that came back to the owner of one;
-- with what holds at its way. A refusal is no crossing, and the rest is the rule's one walk. Assumes nothing.
use Rattle.std.specs.Prelude.{Result, Ok, Err}
use Prim.Native.Nat.{ℕ, ◌*◌, ◌+◌, ◌/◌, ◌<◌}
use mathlib.Core.Path.{◌≡◌, refl}
use mathlib.Core.Bool.{true, ◌&&◌}
use mathlib.Core.Logic.{◌⊎◌, inl, inr}
use native.Mathlib.Omega.{arith}
use lib.ListN.{length}
use Rattle.ground.proofs.Laws.Pick.{either}
use Rattle.header.specs.Kind.{is_read}
use Rattle.header.specs.Fields.{kind, requester_id}
use Rattle.header.specs.Rewrite.{readdressed, renamed, returned}
use Rattle.look.specs.declared.Translation.{Translation}
use Rattle.numbers.specs.Entries.{entry_at}
use Rattle.numbers.specs.Buses.{bus_of, is_active}
use Rattle.numbers.proofs.Laws.Entries.{found_holds}
use Rattle.routing.specs.declared.refusal.Refusal.{Refusal}
use Rattle.switch.specs.declared.answer.Sent.{Sent}
use Rattle.routing.specs.declared.rule.Way.{Way}
use Rattle.routing.specs.declared.rule.Way.TheVariants.{Goes, Comes}
use Rattle.routing.specs.Call.{Call, head_of, asked}
use Rattle.routing.specs.Rule.{bus_id, mapped_id, pass_way}
use Rattle.routing.specs.Why.{Entered, Named, Holds}
use Rattle.switch.specs.Answer.{Answer, crossed, refused, sent_of, way_answer}
use Rattle.routing.specs.Refusal.{answers_reads}
use Rattle.switch.specs.After.{answer_of}
use Rattle.routing.proofs.Laws.Call.{Right, right_call}
use Rattle.routing.proofs.Laws.Exactly.{exactly}
use Rattle.numbers.specs.declared.entries.Entry.TheVariants.{Held}

-- the request that a way takes over, and the record that it comes out with
abbrev pub gone_over : Call → Translation → ℕ → Sent
gone_over c t i =
    sent_of (renamed (readdressed (head_of c) t.address) (mapped_id (bus_of c.tables.numbers t.destination) i)) t.destination

-- and the completion that one brings back
abbrev pub come_back : Call → ℕ → ℕ → Sent
come_back c id i = sent_of (returned (head_of c) id (bus_id (bus_of c.tables.numbers (i / 4)))) (i / 4)

-- a request went over
pub record Went (c : Call) (x : Sent) : Type 0 where
  pub way : Translation
  pub index : ℕ
  pub named : Named (asked c) way index
  pub reached : is_active c.tables.numbers way.destination ≡ true
  pub sent : x ≡ gone_over c way index

-- a completion came back
pub record Came (c : Call) (x : Sent) : Type 0 where
  pub id : ℕ
  pub index : ℕ
  pub holds : Holds (asked c) (Ok (Comes id index))
  pub sent : x ≡ come_back c id index

-- a refusal is no crossing
refused_not : (r : Refusal) (p bus : ℕ) (c : Call) (x : Sent) → refused r p bus (head_of c) ≡ crossed x → ⊥
unfolding refused
refused_not r p bus c x =
    either (λ (a : Answer). a ≡ crossed x → ⊥) (answers_reads r && is_read (kind (head_of c)))
    (λ _ e. let z : ◌≡◌ {A = ℕ} 0 1 = cc in omega arith)
    (λ _ e. let z : ◌≡◌ {A = ℕ} 0 1 = cc in omega arith)

-- one record crosses
one_record : (x y : Sent) → crossed x ≡ crossed y → y ≡ x
one_record x y e = cc

-- what crosses went over or came back
pub crossed_way : (c : Call) (x : Sent) → answer_of c ≡ crossed x → Went c x ⊎ Came c x
crossed_way c x e = by_way (pass_way (asked c)) refl e
  where
    by_way : (y : Result Way Refusal) → pass_way (asked c) ≡ y → way_answer y c.sender (head_of c) c.tables.numbers ≡ crossed x → Went c x ⊎ Came c x
    by_way (Err r) w a = absurd (refused_not r c.sender (bus_of c.tables.numbers c.sender) c x a)
    by_way (Ok (Goes t i)) w a =
        let h = (exactly (asked c) (Ok (Goes t i))).0 w in
        inl (record { way = t; index = i; named = h.0; reached = h.1; sent = one_record (gone_over c t i) x a })
    by_way (Ok (Comes id i)) w a = inr (record { id = id; index = i; holds = (exactly (asked c) (Ok (Comes id i))).0 w; sent = one_record (come_back c id i) x a })

-- what an entered call was given
pub right : (c : Call) → Entered (asked c) → Right c.sender c.tables (length c.logs) (length c.out)
right c e = right_call c.sender c.tables (length c.logs) (length c.out) e.right

-- both are of entered calls
pub went_entered : (c : Call) (x : Sent) → Went c x → Entered (asked c)
went_entered c x w = w.named.admitted.opened.requests.entered

pub came_entered : (c : Call) (x : Sent) → Came c x → Entered (asked c)
came_entered c x w = w.holds.0.owned.is_held.mapped.returns.entered

pub crossed_entered : (c : Call) (x : Sent) → Went c x ⊎ Came c x → Entered (asked c)
crossed_entered c x (inl w) = went_entered c x w
crossed_entered c x (inr w) = came_entered c x w

-- the entry of a request that went over: a slot of the sender's that holds the requester
pub record Filled (c : Call) (i : ℕ) : Type 0 where
  pub slot : ℕ
  pub slot_lt : slot < 4
  pub index_is : i ≡ 4 * c.sender + slot
  pub index_lt : i < 64
  pub held : entry_at c.tables.numbers i ≡ Held (requester_id (head_of c))

pub went_filled : (c : Call) (x : Sent) (w : Went c x) → Filled c w.index
went_filled c x w =
    let f = found_holds c.tables.numbers c.sender (requester_id (head_of c)) w.index w.named.entry in
    let p = (right c (went_entered c x w)).partition in
    record { slot = f.0; slot_lt = f.1; index_is = f.2; index_lt = omega (arith, f.1, f.2, p); held = f.3 }

-- the index of a completion that came back is below 64
pub came_index_lt : (c : Call) (x : Sent) (w : Came c x) → w.index < 64
came_index_lt c x w = let e = w.holds.0.owned.is_held.mapped.index in omega (arith, e)
