-- The answer to a refused read, read back: each field is the one that was put there, and it is a well-formed completion.
-- Its words are sums of fields at their places, each below its bound. Assumes nothing.
use Rattle.std.specs.Prelude.{Ok}
use Prim.Native.Nat.{ℕ, ◌+◌, ◌*◌, ◌%◌, ◌<◌, ◌^◌}
use mathlib.Core.Path.{◌≡◌, refl, ap, ◌∙◌}
use mathlib.Core.List.{[]}
use mathlib.Core.Bool.{false, not, ◌||◌}
use native.Mathlib.Omega.{arith}
use native.Mathlib.Nat.{mod-lt}
use lib.Dec.{eqb}
use lib.Pow.{pow_pos}
use Rattle.ground.specs.Pick.{pick}
use Rattle.ground.specs.Field.{field, place}
use Rattle.header.specs.Kind.{completion, is_carried, is_completion, has_data, header_bytes}
use Rattle.header.specs.Fields.{kind, traffic_class, has_digest, attributes, address_type, dwords, requester_id, tag, first_enables, address}
use Rattle.header.specs.Fields.{completer_id, status, byte_count_modified, byte_count_field, completion_requester_id, completion_tag, lower_address_field}
use Rattle.count.specs.Count.{byte_count, lower_address, unsupported_request, answer_word_0, answer_word_1, answer_word_2, answer_to}
use Rattle.tlp.specs.Form.{form_of, packet_of}
use Rattle.header.specs.declared.words.Header.{Header}
use Rattle.header.specs.Words.{header_of}
use Rattle.wire.specs.Write.{packet_list}
use Rattle.tlp.specs.declared.form.Packet.TheVariants.{Completion}
use Rattle.ground.proofs.Laws.Field.{field_lt}
use Rattle.count.proofs.Laws.Count.{places}
use Rattle.header.proofs.Laws.Words.{Proper}
use Rattle.tlp.proofs.Laws.Form.{accepted_completion}
use Rattle.wire.proofs.Laws.Write.{length_packet, read_back}

-- a lower address is of seven bits
pub lower_address_lt : (h : Header) → lower_address h < 2 ^ 7
lower_address_lt h = omega (arith, places (first_enables h), field_lt 2 5 (address h))

-- word 0, of a TC and an Attr
record Word0 (w t a : ℕ) : Type 0 where
  fits : w < 2 ^ 32
  kind : field 24 8 w ≡ completion
  class : field 20 3 w ≡ t
  digest : field 15 1 w ≡ 0
  attributes : field 12 2 w ≡ a
  translated : field 10 2 w ≡ 0

word_0 : (t a : ℕ) → t < 2 ^ 3 → a < 2 ^ 2 → Word0 (place 24 completion + place 20 t + place 12 a) t a
word_0 t a p q = grind arith

-- word 1, of a completer ID and a byte count's field
record Word1 (w c n : ℕ) : Type 0 where
  fits : w < 2 ^ 32
  completer : field 16 16 w ≡ c
  status : field 13 3 w ≡ unsupported_request
  modified : field 12 1 w ≡ 0
  count : field 0 12 w ≡ n

word_1 : (c n : ℕ) → c < 2 ^ 16 → n < 2 ^ 12 → Word1 (place 16 c + place 13 unsupported_request + n) c n
word_1 c n p q = grind arith

-- word 2, of a requester ID, a tag and a lower address
record Word2 (w r t l : ℕ) : Type 0 where
  fits : w < 2 ^ 32
  requester : field 16 16 w ≡ r
  tag : field 8 8 w ≡ t
  lower : field 0 7 w ≡ l

word_2 : (r t l : ℕ) → r < 2 ^ 16 → t < 2 ^ 8 → l < 2 ^ 7 → Word2 (place 16 r + place 8 t + l) r t l
word_2 r t l p q s = grind arith

module _ (h : Header) (c : ℕ) (b : c < 2 ^ 16) where
  zeroth : Word0 (answer_word_0 h) (traffic_class h) (attributes h)
  zeroth = word_0 (traffic_class h) (attributes h) (field_lt 20 3 h.w0) (field_lt 12 2 h.w0)

  first : Word1 (answer_word_1 h c) c (byte_count h % 2 ^ 12)
  first = word_1 c (byte_count h % 2 ^ 12) b (mod-lt (byte_count h) (pow_pos 12))

  second : Word2 (answer_word_2 h) (requester_id h) (tag h) (lower_address h)
  second = word_2 (requester_id h) (tag h) (lower_address h) (field_lt 16 16 h.w1) (field_lt 8 8 h.w1) (lower_address_lt h)

  pub answer_class : traffic_class (answer_to h c) ≡ traffic_class h
  answer_class = zeroth.class

  pub answer_attributes : attributes (answer_to h c) ≡ attributes h
  answer_attributes = zeroth.attributes

  pub answer_completer : completer_id (answer_to h c) ≡ c
  answer_completer = first.completer

  pub answer_status : status (answer_to h c) ≡ unsupported_request
  answer_status = first.status

  pub answer_modified : byte_count_modified (answer_to h c) ≡ 0
  answer_modified = first.modified

  pub answer_count : byte_count_field (answer_to h c) ≡ byte_count h % 2 ^ 12
  answer_count = first.count

  pub answer_requester : completion_requester_id (answer_to h c) ≡ requester_id h
  answer_requester = second.requester

  pub answer_tag : completion_tag (answer_to h c) ≡ tag h
  answer_tag = second.tag

  pub answer_lower : lower_address_field (answer_to h c) ≡ lower_address h
  answer_lower = second.lower

  -- its words are header words
  pub answer_proper : Proper (answer_to h c)
  answer_proper = record { fits_0 = zeroth.fits; fits_1 = first.fits; fits_2 = second.fits; fits_3 = omega arith; lacks = λ _. refl }

  -- it is a well-formed completion of 12 bytes
  pub answer_form : form_of 12 (answer_to h c) ≡ Ok (Completion (answer_to h c))
  unfolding pick
  answer_form =
      let k : kind (answer_to h c) ≡ completion = zeroth.kind in
      accepted_completion 12 (answer_to h c)
      (record {
        long = refl;
        carried =
            ap (λ (m : ℕ). not (is_carried m) || has_digest (answer_to h c) || not (eqb (address_type (answer_to h c)) 0)) k
            ∙ ap (λ (m : ℕ). false || eqb m 1 || not (eqb (address_type (answer_to h c)) 0)) zeroth.digest
            ∙ ap (λ (m : ℕ). not (eqb m 0)) zeroth.translated;
        whole = ap (λ (m : ℕ). not (eqb 12 (header_bytes m + pick (has_data m) (4 * dwords (answer_to h c)) 0))) k;
        completion = ap is_completion k;
      })

  -- so are its bytes
  pub answer_bytes : packet_of (packet_list (answer_to h c) []) ≡ Ok (Completion (answer_to h c))
  unfolding pick
  answer_bytes =
      ap (λ (m : ℕ). form_of m (header_of (packet_list (answer_to h c) []))) (length_packet (answer_to h c) [] ∙ ap (λ (m : ℕ). header_bytes m + 0) zeroth.kind)
      ∙ ap (form_of 12) (read_back (answer_to h c) [] answer_proper)
      ∙ answer_form
