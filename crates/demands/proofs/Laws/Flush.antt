-- R-1, of flushes: none is refused for its enables; a read that is refused is answered, and a flush read with the byte count 1 and 00 as
-- the low bits of its lower address; and one that crosses is a flush of the same sort on the far side, with its data.
-- An answer is the answer to the read, whose fields are read back; what crosses comes out whole, and no rewriting moves the Length, the
-- enables or the data. Assumes nothing.
use Prim.Native.Nat.{ℕ, ◌+◌, ◌*◌, ◌%◌, ◌^◌, ◌≤◌}
use mathlib.Core.Path.{◌≡◌, refl, sym, ap, ◌∙◌, subst}
use mathlib.Core.Bool.{Bool, true, false, ◌||◌, true≢false}
use mathlib.Core.List.{List}
use native.Mathlib.Omega.{arith}
use borrow.Author.Tests.{eqb-true, eqb-false}
use lib.Dec.{eqb}
use lib.ListN.{length, drop, length-drop}
use lib.Seq.{drop_at}
use Rattle.ground.specs.Pick.{pick}
use Rattle.ground.specs.Field.{field}
use Rattle.ground.proofs.Laws.Join.{both}
use Rattle.header.specs.Kind.{is_read, is_write, is_request, is_completion, completion_with_data, header_bytes}
use Rattle.header.specs.Words.{header_of}
use Rattle.header.specs.Fields.{kind, data_of, dwords, data_bytes, byte_count_field, lower_address_field}
use Rattle.header.specs.declared.words.Header.{Header}
use Rattle.tlp.specs.Form.{enables_broken, contiguity_broken, crosses_page, rule_number}
use Rattle.tlp.specs.Rules.{of_requests, breaks}
use Rattle.wire.specs.Write.{header_list, packet_list}
use Rattle.tlp.specs.declared.form.Rule.{Rule}
use Rattle.tlp.specs.declared.form.Rule.TheVariants.{Enables, Contiguity, PageCrossing}
use Rattle.count.proofs.Laws.Answer.{answer_count, answer_lower}
use Rattle.count.proofs.Laws.Flush.{flush_count, flush_lower, flush_enables, flush_contiguous, flush_paged, flush_form}
use Rattle.tlp.proofs.Laws.Form.{WellFormed, accepted, inverted, moved_read, crosses_well_formed}
use Rattle.tlp.proofs.Laws.Rules.{two_kinds, carried_request}
use Rattle.wire.proofs.Laws.Write.{length_header}
use Rattle.numbers.specs.Buses.{bus_of}
use Rattle.switch.specs.declared.answer.Sent.{Sent}
use Rattle.routing.specs.Call.{Call, head_of, size_of, body_of}
use Rattle.routing.specs.Rule.{bus_id}
use Rattle.switch.specs.Answer.{dropped}
use Rattle.routing.proofs.Laws.Call.{bus_lt, bus_id_lt}
use Rattle.demands.specs.Call.{came_out, Lent}
use Rattle.demands.specs.Demand3.{CameOutWhole}
use Rattle.demands.specs.Flush.{FlushWellFormed, FlushNever33To35, RefusedReadsAnswered, FlushAnswered, FlushCrosses}
use Rattle.demands.proofs.Laws.CameOut.{whole_length, came_out_whole}
use Rattle.demands.proofs.Laws.Crossing.{gone_over, Went}
use Rattle.demands.proofs.Laws.Listed.{Listed, listed}
use Rattle.demands.proofs.Laws.Number.{passed_went}
use Rattle.demands.proofs.Laws.Outgoing.{translation_lt, translation_pages, number_over, number_lt, sent_keeps, sent_dwords}
use Rattle.demands.proofs.Laws.Rules.{number_names_rule}

-- a request is no completion
no_completion : (k : ℕ) → is_request k ≡ true → is_completion k ≡ false
no_completion k r = by_test (is_completion k) refl
  where
    by_test : (t : Bool) → is_completion k ≡ t → t ≡ false
    by_test true e = absurd (two_kinds k r e)
    by_test false e = refl

-- no flush is refused for its enables
pub flush_well_formed : FlushWellFormed
flush_well_formed n h f r =
    let request = no_completion (kind h) f.request in
    accepted n h (flush_form h f.one_dword f.none_first n f.none_last r.long r.carried r.whole request r.high)

-- a flush breaks neither 33 nor 34 nor 35
pub flush_never_33_to_35 : FlushNever33To35
flush_never_33_to_35 c n f a b e = by_test (eqb n 33) refl (eqb n 34) refl
  where
    -- the rule that the number names is broken, but what it asks is kept
    never : (r : Rule) (test : Bool) → breaks r (size_of c) (head_of c) ≡ of_requests (head_of c) test → test ≡ false → n ≡ rule_number r → ⊥
    never r test q k s =
        true≢false (sym (both (is_request (kind (head_of c))) test (sym q ∙ (number_names_rule c r (e ∙ ap dropped s)).broken)).1 ∙ k)

    by_test : (s : Bool) → eqb n 33 ≡ s → (t : Bool) → eqb n 34 ≡ t → ⊥
    by_test true s t u =
        never Enables (enables_broken (head_of c)) refl (flush_enables (head_of c) f.one_dword f.none_first f.none_last) (eqb-true n 33 s)
    by_test false s true u =
        never Contiguity (contiguity_broken (head_of c)) refl (flush_contiguous (head_of c) f.one_dword f.none_first) (eqb-true n 34 u)
    by_test false s false u =
        let k = eqb-false n 33 s in
        let l = eqb-false n 34 u in
        never PageCrossing (crosses_page (head_of c)) refl (flush_paged (head_of c) f.one_dword f.none_first) (omega (arith, a, b, k, l))

-- no read is dropped by 5 to 9: it is answered by them
pub refused_reads_answered : RefusedReadsAnswered
refused_reads_answered c n r a b e = (subst (Listed c) e (listed c)).no_read a b r

-- a flush that is answered has the byte count 1, and 00 as the low bits of its lower address
pub flush_answered : FlushAnswered
flush_answered c n x f e =
    let a = subst (Listed c) e (listed c) in
    let h = head_of c in
    let bus = bus_of c.tables.numbers c.sender in
    let id = bus_id bus in
    let id-lt = bus_id_lt bus (bus_lt c.tables.numbers c.sender a.entered.active) in
    let count = answer_count h id id-lt ∙ ap (λ (k : ℕ). k % 2 ^ 12) (flush_count h f.one_dword f.none_first) in (
      ap (λ (y : Sent). byte_count_field y.header) a.answer ∙ count,
      ap (λ (y : Sent). lower_address_field y.header) a.answer ∙ answer_lower h id id-lt ∙ flush_lower h f.one_dword f.none_first,
    )

-- the data of a packet that was written is read behind its header
data_back : (g : Header) (s payload : List ℕ) → s ≡ packet_list g payload → header_of s ≡ g → data_of s ≡ payload
data_back g s payload e k =
    ap (λ (m : Header). drop (header_bytes (kind m)) s) k
    ∙ ap (drop (header_bytes (kind g))) e
    ∙ drop_at (header_list g) payload (header_bytes (kind g)) (length_header g)

-- a well-formed write of one dword has 4 bytes of data
one_data_word : (s : List ℕ) → WellFormed (length s) (header_of s) → dwords (header_of s) ≡ 1 → is_write (kind (header_of s)) ≡ true → length (data_of s) ≡ 4
unfolding pick
one_data_word s w one write =
    let h = header_of s in
    let size = whole_length (length s) h w.whole in
    let some : data_bytes h ≡ 4 * dwords h = ap (λ (t : Bool). pick (t || eqb (kind h) completion_with_data) (4 * dwords h) 0) write in
    let four : data_bytes h ≡ 4 = some ∙ ap (λ (n : ℕ). 4 * n) one in
    length-drop (header_bytes (kind h)) s ∙ (omega (arith, size, four))

-- a request that went over is of a request's kind still
still_request : (c : Call) (x : Sent) → Lent c → Went c x → CameOutWhole c x → is_request (kind (header_of (came_out c x))) ≡ true
still_request c x l w o =
    let a = w.way.address in
    let id = number_over c x l w in
    let fits = translation_lt c x l w in
    let pages = translation_pages c x l w in
    let form = crosses_well_formed c.packet a id l.bytes w.named.admitted.opened.requests.request fits pages (number_lt c x l w) in
    let g = (gone_over c w.way w.index).header in
    let s = packet_list g (body_of c) in
    let f = (inverted (length s) (header_of s) g form).0 in
    ap (λ (b : List ℕ). is_request (kind (header_of b))) (o.bytes ∙ ap (λ (y : Sent). packet_list y.header (body_of c)) w.sent)
    ∙ carried_request (header_of s) f.carried f.request

-- a flush that crosses is one of the same sort on the far side, with its data
pub flush_crosses : FlushCrosses
flush_crosses c x l f e =
    let h = head_of c in
    let w = passed_went c x (record { lent = l; request = f.request; went = e }) in
    let form = (inverted (size_of c) h h w.named.admitted.opened.requests.request).0 in
    let o = came_out_whole c x l e in
    let kept : (i j : ℕ) → j + i ≤ 16 → field i j (header_of (came_out c x)).w1 ≡ field i j h.w1 =
    λ i j b. ap (λ (m : Header). field i j m.w1) o.header_is ∙ sent_keeps c x l w i j b in
    record {
      again = record {
        request = still_request c x l w o;
        one_dword = ap dwords o.header_is ∙ sent_dwords c x l w ∙ f.one_dword;
        none_first = kept 0 4 (omega arith) ∙ f.none_first;
        none_last = kept 4 4 (omega arith) ∙ f.none_last;
      };
      same_sort =
          ap (λ (m : Header). is_read (kind m)) o.header_is
          ∙ ap (λ (y : Sent). is_read (kind y.header)) w.sent
          ∙ moved_read (size_of c) h w.way.address form (translation_lt c x l w) (translation_pages c x l w);
      same_data = data_back x.header (came_out c x) (body_of c) o.bytes o.header_is;
      one_word = one_data_word c.packet form f.one_dword;
    }
