-- "What crosses is well-formed": a well-formed request that is moved by whole 4 KiB pages, in the header that fits, and
-- renamed is well-formed again; so is a completion that is returned.
-- The rules read TD, AT, the Length, the enables, the low 12 bits of the address and the kind but for its bit 5, and none of
-- these moves; and the high word, which is not 0 where the new header has one.
-- Assumes nothing.
use Prim.Native.Nat.{ℕ, ◌+◌, ◌/◌, ◌%◌, ◌^◌, ◌≤◌, ◌<◌}
use mathlib.Core.Path.{◌≡◌, refl, sym, ap, ◌∙◌}
use mathlib.Core.Bool.{Bool, true, false, not, ◌&&◌}
use mathlib.Core.Logic.{◌⊎◌, inl, inr}
use mathlib.Core.List.{List}
use native.Mathlib.Omega.{arith}
use borrow.Author.Tests.{eq-eqb, ne_eqb, eqb-true, le-ltb, not-false}
use lib.Dec.{eqb}
use lib.ListN.{length, drop, length-drop}
use Rattle.std.specs.Prelude.{Ok}
use Rattle.ground.specs.Pick.{pick}
use Rattle.ground.specs.Field.{field, place, with_field}
use Rattle.header.specs.Kind.{is_read, is_completion, is_carried, has_data, has_four_words, header_bytes}
use Rattle.header.specs.Words.{header_of}
use Rattle.header.specs.Fields.{kind, dwords, data_bytes, total_bytes, last_enables, first_enables, high_word, low_word, address}
use Rattle.tlp.specs.Form.{too_short, not_carried, wrong_length, enables_broken, gaps_allowed}
use Rattle.tlp.specs.Form.{contiguity_broken, crosses_page, zero_high_word, request_form, form_of, packet_of}
use Rattle.header.specs.Rewrite.{in64, readdressed, renamed, returned}
use Rattle.wire.specs.Write.{packet_list}
use Rattle.header.specs.declared.words.Header.{Header}
use Rattle.tlp.specs.declared.form.Packet.TheVariants.{Request, Completion}
use Rattle.ground.proofs.Laws.Pick.{hit}
use Rattle.header.proofs.Laws.Words.{Bytes, read_proper}
use Rattle.header.proofs.Laws.Lengths.{header_bounds}
use Rattle.header.proofs.Laws.Rewrite
use Rattle.wire.proofs.Laws.Write.{length_packet, read_back}

-- a request of n bytes that breaks no rule
pub record WellFormed (n : ℕ) (h : Header) : Type 0 where
  pub long : too_short n ≡ false
  pub carried : not_carried h ≡ false
  pub whole : wrong_length n h ≡ false
  pub request : is_completion (kind h) ≡ false
  pub enables : enables_broken h ≡ false
  pub contiguous : contiguity_broken h ≡ false
  pub paged : crosses_page h ≡ false
  pub high : zero_high_word h ≡ false

-- such a packet is read as the request that it is
pub accepted : (n : ℕ) (h : Header) → WellFormed n h → form_of n h ≡ Ok (Request h)
unfolding form_of request_form pick
accepted n h f = grind arith

-- a test whose answer is not what was read was passed over
passed : {A : Type 0} (t : Bool) (y x : A) {p : A} → (y ≡ p → ⊥) → pick t y x ≡ p → (t ≡ false) × (x ≡ p)
unfolding pick
passed true y x f e = absurd (f e)
passed false y x f e = (refl, e)

-- what is read as a request breaks no rule, and has its own words
pub inverted : (n : ℕ) (h g : Header) → form_of n h ≡ Ok (Request g) → WellFormed n h × (g ≡ h)
unfolding form_of request_form
inverted n h g e =
    let a = passed (too_short n) _ _ (λ q. (cc)) e in
    let b = passed (not_carried h) _ _ (λ q. (cc)) a.1 in
    let c = passed (wrong_length n h) _ _ (λ q. (cc)) b.1 in
    let d = passed (is_completion (kind h)) _ _ (λ q. (cc)) c.1 in
    let f = passed (enables_broken h) _ _ (λ q. (cc)) d.1 in
    let i = passed (contiguity_broken h) _ _ (λ q. (cc)) f.1 in
    let j = passed (crosses_page h) _ _ (λ q. (cc)) i.1 in
    let k = passed (zero_high_word h) _ _ (λ q. (cc)) j.1 in
    let own = k.1 in
    (record { long = a.0; carried = b.0; whole = c.0; request = d.0; enables = f.0; contiguous = i.0; paged = j.0; high = k.0 }, (cc))

-- a request's kind is the same request's, whichever header it has
record SameKind (k m : ℕ) : Type 0 where
  read : is_read m ≡ is_read k
  «data» : has_data m ≡ has_data k
  request : is_completion m ≡ false
  carried : is_carried m ≡ is_carried k

with_bit_5 : (k b : ℕ) → (b ≡ 0) ⊎ (b ≡ 1) → is_carried k ≡ true → is_completion k ≡ false → SameKind k (with_field 5 1 k b)
with_bit_5 k b c p n =
    record { read = grind arith; «data» = grind arith; request = grind arith; carried = grind arith }

-- the rules on the enables read them, the Length and whether gaps are allowed
enables_same : (g h : Header) → dwords g ≡ dwords h → first_enables g ≡ first_enables h → last_enables g ≡ last_enables h → enables_broken g ≡ enables_broken h
enables_same g h p q r = rw (p, q, r)

contiguity_same : (g h : Header) → gaps_allowed g ≡ gaps_allowed h → first_enables g ≡ first_enables h → last_enables g ≡ last_enables h
    → contiguity_broken g ≡ contiguity_broken h
contiguity_same g h p q r = rw (p, q, r)

-- a well-formed request moved by whole pages
module _ (n : ℕ) (h : Header) (a : ℕ) (f : WellFormed n h) (b : a < 2 ^ 64) (pages : a % 2 ^ 12 ≡ address h % 2 ^ 12) where
  moved_kind : SameKind (kind h) (kind (readdressed h a))
  moved_kind =
      let c : is_carried (kind h) ≡ true = let t = f.carried in grind arith in
      Rewrite.by_size h a b (λ (g : Header). SameKind (kind h) (kind g))
      (λ l e. rw (Rewrite.kind_with h.w0 1 (omega arith)) (with_bit_5 (kind h) 1 (inr refl) c f.request))
      (λ l e. rw (Rewrite.kind_with h.w0 0 (omega arith)) (with_bit_5 (kind h) 0 (inl refl) c f.request))

  -- a read stays a read, and a write a write
  pub moved_read : is_read (kind (readdressed h a)) ≡ is_read (kind h)
  moved_read = moved_kind.read

  moved_dwords : dwords (readdressed h a) ≡ dwords h
  moved_dwords = rw (Rewrite.readdressed_keeps_low h a b 0 10 (omega arith))

  -- the address is the new one, whole
  pub moved_address : address (readdressed h a) ≡ a
  moved_address = Rewrite.readdressed_address h a b ∙ whole_words (high_word h) (field 2 30 (low_word h)) pages
    where
      whole_words : (x y : ℕ) → a % 2 ^ 12 ≡ (place 32 x + place 2 y) % 2 ^ 12 → place 2 (a / 4) ≡ a
      whole_words x y e = omega arith

  -- no data is gained or lost
  pub moved_data : data_bytes (readdressed h a) ≡ data_bytes h
  moved_data = rw (moved_kind.«data», moved_dwords)

  moved_gaps : gaps_allowed (readdressed h a) ≡ gaps_allowed h
  moved_gaps = let e : address (readdressed h a) % 8 ≡ address h % 8 = let m = moved_address in omega arith in rw (moved_dwords, e)

  moved_page : crosses_page (readdressed h a) ≡ crosses_page h
  moved_page = rw (moved_address, moved_dwords, pages)

  moved_high : zero_high_word (readdressed h a) ≡ false
  moved_high =
      Rewrite.by_size h a b (λ (g : Header). zero_high_word g ≡ false)
      (λ l e.
      let up : field 32 32 a ≡ high_word (in64 h a) = hit (has_four_words (kind (in64 h a))) (field 32 32 a) 0 e refl in
      ap (λ (t : Bool). t && eqb (high_word (in64 h a)) 0) e ∙ ne_eqb (high_word (in64 h a)) 0 (λ z. above (high_word (in64 h a)) up l z))
      (λ l e. rw e)
    where
      above : (x : ℕ) → field 32 32 a ≡ x → 2 ^ 32 ≤ a → x ≡ 0 → ⊥
      above x p l z = omega arith

  moved_first : first_enables (readdressed h a) ≡ first_enables h
  moved_first = ap (field 0 4) (Rewrite.readdressed_word_1 h a b)

  moved_last : last_enables (readdressed h a) ≡ last_enables h
  moved_last = ap (field 4 4) (Rewrite.readdressed_word_1 h a b)

  moved_carried : not_carried (readdressed h a) ≡ not_carried h
  moved_carried =
      let digest = Rewrite.readdressed_keeps_low h a b 15 1 (omega arith) in
      let type = Rewrite.readdressed_keeps_low h a b 10 2 (omega arith) in
      rw (moved_kind.carried, digest, type)

  -- it is well-formed again
  pub moved : WellFormed (total_bytes (readdressed h a)) (readdressed h a)
  moved =
      record {
        long = le-ltb (total_bytes (readdressed h a)) 12 (omega (arith, header_bounds (kind (readdressed h a))));
        carried = moved_carried ∙ f.carried;
        whole = ap not (eq-eqb (total_bytes (readdressed h a)) (total_bytes (readdressed h a)) refl);
        request = moved_kind.request;
        enables = enables_same (readdressed h a) h moved_dwords moved_first moved_last ∙ f.enables;
        contiguous = contiguity_same (readdressed h a) h moved_gaps moved_first moved_last ∙ f.contiguous;
        paged = moved_page ∙ f.paged;
        high = moved_high;
      }

-- a well-formed request that is renamed is well-formed still
pub renamed_form : (n : ℕ) (h : Header) (id : ℕ) → id < 2 ^ 16 → WellFormed n h → WellFormed n (renamed h id)
renamed_form n h id b f =
    let first = Rewrite.renamed_keeps h id b 0 4 (omega arith) in
    let last = Rewrite.renamed_keeps h id b 4 4 (omega arith) in
    record {
      long = f.long;
      carried = f.carried;
      whole = f.whole;
      request = f.request;
      enables = enables_same (renamed h id) h refl first last ∙ f.enables;
      contiguous = contiguity_same (renamed h id) h refl first last ∙ f.contiguous;
      paged = f.paged;
      high = f.high;
    }

-- a completion of n bytes that breaks no rule
pub record WellFormedCompletion (n : ℕ) (h : Header) : Type 0 where
  pub long : too_short n ≡ false
  pub carried : not_carried h ≡ false
  pub whole : wrong_length n h ≡ false
  pub completion : is_completion (kind h) ≡ true

pub accepted_completion : (n : ℕ) (h : Header) → WellFormedCompletion n h → form_of n h ≡ Ok (Completion h)
unfolding form_of pick
accepted_completion n h f = grind arith

-- no request is one
no_completion : (h g : Header) → request_form h ≡ Ok (Completion g) → ⊥
unfolding request_form pick
no_completion h g e =
    let a = passed (enables_broken h) _ _ (λ q. (cc)) e in
    let b = passed (contiguity_broken h) _ _ (λ q. (cc)) a.1 in
    let c = passed (crosses_page h) _ _ (λ q. (cc)) b.1 in
    let d = passed (zero_high_word h) _ _ (λ q. (cc)) c.1 in
    cc (d.1)

-- what is read as a completion is one, with its own words
pub inverted_completion : (n : ℕ) (h g : Header) → form_of n h ≡ Ok (Completion g) → WellFormedCompletion n h × (g ≡ h)
unfolding form_of pick
inverted_completion n h g e = grind (arith, no_completion)

-- a completion's form is all in word 0, which no returning touches
pub returned_form : (n : ℕ) (h : Header) (id completer : ℕ) → form_of n h ≡ Ok (Completion h)
    → form_of n (returned h id completer) ≡ Ok (Completion (returned h id completer))
returned_form n h id completer e =
    let f = (inverted_completion n h h e).0 in
    accepted_completion n (returned h id completer) (record { long = f.long; carried = f.carried; whole = f.whole; completion = f.completion })

-- a packet whose length is not wrong has the length that its header says
own_length : (n : ℕ) (h : Header) → wrong_length n h ≡ false → n ≡ total_bytes h
own_length n h e = eqb-true n (total_bytes h) (not-false (eqb n (total_bytes h)) e)

-- "What crosses is well-formed", in bytes: the request read from s, moved by whole pages, renamed and written with its data
pub crosses_well_formed : (s : List ℕ) (a id : ℕ) → Bytes s → packet_of s ≡ Ok (Request (header_of s)) → a < 2 ^ 64
    → a % 2 ^ 12 ≡ address (header_of s) % 2 ^ 12 → id < 2 ^ 16
    → packet_of (packet_list (renamed (readdressed (header_of s) a) id) (drop (header_bytes (kind (header_of s))) s))
    ≡ Ok (Request (renamed (readdressed (header_of s) a) id))
crosses_well_formed s a id bytes e b pages c =
    let h = header_of s in
    let g = readdressed h a in
    let k = renamed g id in
    let p = drop (header_bytes (kind h)) s in
    let f = (inverted (length s) h h e).0 in
    let size : length s ≡ total_bytes h = own_length (length s) h f.whole in
    let rest : length p ≡ data_bytes g = length-drop (header_bytes (kind h)) s ∙ (omega arith) ∙ sym (moved_data (length s) h a f b pages) in
    let whole : length (packet_list k p) ≡ total_bytes g = length_packet k p ∙ ap (λ (m : ℕ). header_bytes (kind g) + m) rest in
    ap (λ (m : ℕ). form_of m (header_of (packet_list k p))) whole
    ∙ ap (form_of (total_bytes g)) (read_back k p (Rewrite.renamed_proper g id c (Rewrite.readdressed_proper h a b (read_proper s bytes))))
    ∙ accepted (total_bytes g) k (renamed_form (total_bytes g) g id c (moved (length s) h a f b pages))

-- the same of completions: the one read from s, returned and written with its data
pub returns_well_formed : (s : List ℕ) (id completer : ℕ) → Bytes s → packet_of s ≡ Ok (Completion (header_of s)) → id < 2 ^ 16 → completer < 2 ^ 16
    → packet_of (packet_list (returned (header_of s) id completer) (drop (header_bytes (kind (header_of s))) s)) ≡ Ok (Completion (returned (header_of s) id completer))
returns_well_formed s id completer bytes e b c =
    let h = header_of s in
    let k = returned h id completer in
    let p = drop (header_bytes (kind h)) s in
    let f = (inverted_completion (length s) h h e).0 in
    let size : length s ≡ total_bytes h = own_length (length s) h f.whole in
    let rest = length-drop (header_bytes (kind h)) s in
    let whole : length (packet_list k p) ≡ length s = length_packet k p ∙ ap (λ (m : ℕ). header_bytes (kind h) + m) rest ∙ (omega arith) in
    ap (λ (m : ℕ). form_of m (header_of (packet_list k p))) whole
    ∙ ap (form_of (length s)) (read_back k p (Rewrite.returned_proper h id completer b c (read_proper s bytes)))
    ∙ returned_form (length s) h id completer e
