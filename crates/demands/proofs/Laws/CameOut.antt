-- What crosses comes out whole: from the start of Out stand as many bytes as the record says, they read back as the record's header words,
-- they break no rule of form, and beyond them Out is as it was. What is written is read as the packet that the record says, which tells its
-- words and its length; that is at most 4,112 bytes, and Out has as many. Assumes nothing.
use Rattle.std.specs.Prelude.{Ok}
use Prim.Native.Nat.{ℕ, ◌≤◌, ◌<◌, ◌^◌, ◌/◌}
use mathlib.Core.Path.{◌≡◌, refl, sym, ap, ◌∙◌, subst}
use mathlib.Core.Bool.{false}
use mathlib.Core.List.{List}
use mathlib.Core.Logic.{⊎_elim}
use native.Mathlib.Omega.{arith}
use borrow.Author.Tests.{eqb-true, not-false}
use lib.Dec.{eqb}
use lib.ListN.{length, take, drop}
use Rattle.ground.specs.Field.{field}
use Rattle.ground.proofs.Laws.Field.{field_lt}
use Rattle.ground.proofs.Laws.Pick.{either}
use Rattle.header.specs.Words.{header_of}
use Rattle.header.specs.Fields.{total_bytes}
use Rattle.header.specs.declared.words.Header.{Header}
use Rattle.header.proofs.Laws.Lengths.{total_at_most}
use Rattle.tlp.specs.Form.{wrong_length, packet_of, packet_number}
use Rattle.wire.specs.Write.{over, packet_list}
use Rattle.tlp.specs.declared.form.Packet.TheVariants.{Request, Completion}
use Rattle.tlp.proofs.Laws.Form.{inverted, inverted_completion, crosses_well_formed, returns_well_formed}
use Rattle.wire.proofs.Laws.Write.{take_over, drop_over}
use Rattle.numbers.specs.Entries.{look_at}
use Rattle.numbers.specs.Buses.{bus_of}
use Rattle.switch.specs.declared.answer.Sent.{Sent}
use Rattle.routing.specs.Call.{Call, body_of}
use Rattle.routing.specs.Rule.{bus_id}
use Rattle.switch.specs.Answer.{Answer, crossed}
use Rattle.switch.specs.After.{out_after, answer_of, out_of}
use Rattle.routing.proofs.Laws.Call.{bus_lt, bus_id_lt}
use Rattle.demands.specs.Call.{came_out, Lent}
use Rattle.demands.specs.Demand3.{CameOutWhole, AllCameOutWhole}
use Rattle.demands.proofs.Laws.Crossing.{Went, Came, crossed_way, crossed_entered, right}
use Rattle.demands.proofs.Laws.Outgoing.{translation_lt, translation_pages, number_over, number_lt}
use Rattle.numbers.specs.declared.entries.Entry.{Entry}
use Rattle.numbers.specs.declared.entries.Entry.TheVariants.{Held}

-- a length that is not wrong is the header's and the data's
pub whole_length : (n : ℕ) (h : Header) → wrong_length n h ≡ false → n ≡ total_bytes h
whole_length n h e = eqb-true n (total_bytes h) (not-false (eqb n (total_bytes h)) e)

-- bytes that are a packet with these header words: as long as they say, read as them, and well-formed
record Reads (s : List ℕ) (h : Header) : Type 0 where
  sized : length s ≡ total_bytes h
  words : header_of s ≡ h
  formed : packet_number (packet_of s) ≡ 0

-- so is what is read as a request
reads_request : (s : List ℕ) (h : Header) → packet_of s ≡ Ok (Request h) → Reads s h
reads_request s h e =
    let f = inverted (length s) (header_of s) h e in
    record {
      sized = whole_length (length s) (header_of s) f.0.whole ∙ ap total_bytes (sym f.1);
      words = sym f.1;
      formed = ap packet_number e;
    }

-- and what is read as a completion
reads_completion : (s : List ℕ) (h : Header) → packet_of s ≡ Ok (Completion h) → Reads s h
reads_completion s h e =
    let f = inverted_completion (length s) (header_of s) h e in
    record {
      sized = whole_length (length s) (header_of s) f.0.whole ∙ ap total_bytes (sym f.1);
      words = sym f.1;
      formed = ap packet_number e;
    }

-- a held ID is of 16 bits
pub held_lt : (w id : ℕ) → look_at w ≡ Held id → id < 2 ^ 16
unfolding look_at
held_lt w id =
    either (λ (e : Entry). e ≡ Held id → id < 2 ^ 16) (eqb (field 16 16 w) 1)
    (λ _ e. let same : field 0 16 w ≡ id = cc in subst (λ (n : ℕ). n < 2 ^ 16) same (field_lt 0 16 w))
    (λ _ e. absurd (let z : ◌≡◌ {A = ℕ} 0 1 = cc in omega arith))

-- what a crossing writes: the record's header words, and the packet's data
abbrev pub written : Call → Sent → List ℕ
written c x = packet_list x.header (body_of c)

-- that is a packet with the record's words, and the record says how long it is
record Made (c : Call) (x : Sent) : Type 0 where
  reads : Reads (written c x) x.header
  long : x.length ≡ total_bytes x.header

-- a request's is
went_made : (c : Call) (x : Sent) → Lent c → Went c x → Made c x
went_made c x l w =
    let a = w.way.address in
    let fits = translation_lt c x l w in
    let pages = translation_pages c x l w in
    let request = w.named.admitted.opened.requests.request in
    let form = crosses_well_formed c.packet a (number_over c x l w) l.bytes request fits pages (number_lt c x l w) in
    subst (Made c) (sym w.sent) (record { reads = reads_request _ _ form; long = refl })

-- and a completion's
came_made : (c : Call) (x : Sent) → Lent c → Came c x → Made c x
came_made c x l w =
    let held = w.holds.0.owned.is_held in
    let owner = w.index / 4 in
    let numbers = c.tables.numbers in
    let id-lt = held_lt _ w.id held.held in
    let bus-id = bus_id_lt (bus_of numbers owner) (bus_lt numbers owner w.holds.0.owned.owner_active) in
    let form = returns_well_formed c.packet w.id (bus_id (bus_of numbers owner)) l.bytes held.mapped.returns.completion id-lt bus-id in
    subst (Made c) (sym w.sent) (record { reads = reads_completion _ _ form; long = refl })

module _ (c : Call) (x : Sent) (l : Lent c) (e : answer_of c ≡ crossed x) where
  -- what was written is a packet
  made : Made c x
  made = ⊎_elim (went_made c x l) (came_made c x l) (crossed_way c x e)

  -- as long as the record says
  sized : length (written c x) ≡ x.length
  sized = made.reads.sized ∙ sym made.long

  -- Out after it
  out_is : out_of c ≡ over c.out 0 (written c x)
  out_is = ap (λ (a : Answer). out_after a (body_of c) c.out) e

  -- it fits
  fits : length (written c x) ≤ length c.out
  fits =
      let r = right c (crossed_entered c x (crossed_way c x e)) in
      omega (arith, made.reads.sized, total_at_most x.header, r.length_of_out)

  -- and is what came out
  pub came_out_lem : came_out c x ≡ written c x
  came_out_lem =
      ap (take x.length) out_is
      ∙ ap (λ (n : ℕ). take n (over c.out 0 (written c x))) (sym sized)
      ∙ take_over c.out (written c x) fits

  -- whole
  came_out_whole_of : CameOutWhole c x
  came_out_whole_of =
      record {
        bytes = came_out_lem;
        length_is = ap length came_out_lem ∙ sized;
        header_is = ap header_of came_out_lem ∙ made.reads.words;
        well_formed = ap (λ (s : List ℕ). packet_number (packet_of s)) came_out_lem ∙ made.reads.formed;
        beyond =
            ap (drop x.length) out_is
            ∙ ap (λ (n : ℕ). drop n (over c.out 0 (written c x))) (sym sized)
            ∙ drop_over c.out (written c x) fits
            ∙ ap (λ (n : ℕ). drop n c.out) sized;
      }

-- everything that crosses comes out whole
pub came_out_whole : AllCameOutWhole
came_out_whole = came_out_whole_of
