-- What each rewriting makes of a header: the field is the new value, every other field is as it was, and the words stay
-- header words. All of it is the law of a replaced field, at the field's place. Assumes nothing.
use Prim.Native.Nat.{ℕ, ◌+◌, ◌*◌, ◌/◌, ◌^◌, ◌≤◌, ◌<◌}
use mathlib.Core.Path.{◌≡◌, refl, sym, ap, ◌∙◌}
use mathlib.Core.Bool.{true, false, true≢false}
use native.Mathlib.Omega.{arith}
use borrow.Author.Tests.{leb-true, leb-false, le-leb, lt-leb}
use lib.Dec.{eqb, leb}
use lib.Pow.{shr_mod, shr-shr, split}
use Rattle.ground.specs.Pick.{pick}
use Rattle.ground.specs.Field.{field, place, with_field}
use Rattle.header.specs.Kind.{has_four_words}
use Rattle.header.specs.Fields.{kind, requester_id, tag, high_word, low_word, address, below_address, completer_id, completion_requester_id, completion_tag}
use Rattle.header.specs.Rewrite.{low_word_for, in64, in32, readdressed, renamed, returned}
use Rattle.header.specs.declared.words.Header.{Header}
use Rattle.ground.proofs.Laws.Pick.{hit, pass, either}
use Rattle.ground.proofs.Laws.Field.{field_same, field_below, field_above, field_of_field, field_lt, stays_lt}
use Rattle.header.proofs.Laws.Words.{Proper}

-- a request with another requester ID
module _ (h : Header) (id : ℕ) (b : id < 2 ^ 16) where
  pub renamed_requester : requester_id (renamed h id) ≡ id
  renamed_requester = field_same 16 16 h.w1 id b

  -- every field of word 1 below the requester ID is as it was; the other words are untouched
  pub renamed_keeps : (i j : ℕ) → j + i ≤ 16 → field i j (renamed h id).w1 ≡ field i j h.w1
  renamed_keeps i j k = field_below i j 16 16 h.w1 id b k

  pub renamed_tag : tag (renamed h id) ≡ tag h
  renamed_tag = renamed_keeps 8 8 (omega arith)

  pub renamed_proper : Proper h → Proper (renamed h id)
  renamed_proper p =
      record {
        fits_0 = p.fits_0;
        fits_1 = stays_lt 16 16 h.w1 id b 32 (omega arith) p.fits_1;
        fits_2 = p.fits_2;
        fits_3 = p.fits_3;
        lacks = p.lacks;
      }

-- a completion with another requester ID and another completer ID
module _ (h : Header) (id completer : ℕ) (b : id < 2 ^ 16) (d : completer < 2 ^ 16) where
  pub returned_requester : completion_requester_id (returned h id completer) ≡ id
  returned_requester = field_same 16 16 h.w2 id b

  pub returned_completer : completer_id (returned h id completer) ≡ completer
  returned_completer = field_same 16 16 h.w1 completer d

  -- every field of words 1 and 2 below the IDs is as it was; the other words are untouched
  pub returned_keeps_1 : (i j : ℕ) → j + i ≤ 16 → field i j (returned h id completer).w1 ≡ field i j h.w1
  returned_keeps_1 i j k = field_below i j 16 16 h.w1 completer d k

  pub returned_keeps_2 : (i j : ℕ) → j + i ≤ 16 → field i j (returned h id completer).w2 ≡ field i j h.w2
  returned_keeps_2 i j k = field_below i j 16 16 h.w2 id b k

  pub returned_tag : completion_tag (returned h id completer) ≡ completion_tag h
  returned_tag = returned_keeps_2 8 8 (omega arith)

  pub returned_proper : Proper h → Proper (returned h id completer)
  returned_proper p =
      record {
        fits_0 = p.fits_0;
        fits_1 = stays_lt 16 16 h.w1 completer d 32 (omega arith) p.fits_1;
        fits_2 = stays_lt 16 16 h.w2 id b 32 (omega arith) p.fits_2;
        fits_3 = p.fits_3;
        lacks = p.lacks;
      }

-- eight bits by their fields
by_digits : (k m b : ℕ) → m < 2 ^ 8 → k < 2 ^ 8 → field 5 1 m ≡ b → field 6 2 m ≡ field 6 2 k → field 0 5 m ≡ field 0 5 k → m ≡ with_field 5 1 k b
by_digits k m b p q r s t = omega arith

module _ (w b : ℕ) (h : b < 2) where
  -- bit 29 of word 0 is bit 5 of the kind
  bit_5 : field 5 1 (field 24 8 (with_field 29 1 w b)) ≡ b
  bit_5 = field_of_field 5 1 24 8 (with_field 29 1 w b) (omega arith) ∙ field_same 29 1 w b h

  -- so the kind says which header it is
  four_if : has_four_words (field 24 8 (with_field 29 1 w b)) ≡ eqb b 1
  four_if = ap (λ (k : ℕ). eqb k 1) bit_5

  -- and its other bits are as they were
  pub kind_with : field 24 8 (with_field 29 1 w b) ≡ with_field 5 1 (field 24 8 w) b
  kind_with =
      by_digits (field 24 8 w) (field 24 8 (with_field 29 1 w b)) b (field_lt 24 8 (with_field 29 1 w b)) (field_lt 24 8 w) bit_5
      (field_of_field 6 2 24 8 (with_field 29 1 w b) (omega arith) ∙ field_above 30 2 29 1 w b h (omega arith) ∙ sym (field_of_field 6 2 24 8 w (omega arith)))
      (field_of_field 0 5 24 8 (with_field 29 1 w b) (omega arith) ∙ field_below 24 5 29 1 w b h (omega arith) ∙ sym (field_of_field 0 5 24 8 w (omega arith)))

-- a low address word is of 32 bits
low_word_lt : (h : Header) → Proper h → low_word h < 2 ^ 32
unfolding pick
low_word_lt h p = grind arith

-- a request with another address
module _ (h : Header) (a : ℕ) (b : a < 2 ^ 64) where
  -- what holds of the header that fits holds of the request
  pub by_size : (P : Header → Type 0) → (2 ^ 32 ≤ a → has_four_words (kind (in64 h a)) ≡ true → P (in64 h a))
      → (a < 2 ^ 32 → has_four_words (kind (in32 h a)) ≡ false → P (in32 h a)) → P (readdressed h a)
  unfolding readdressed
  by_size P f g =
      either P (leb (2 ^ 32) a)
      (λ e. f (leb-true (2 ^ 32) a e) (four_if h.w0 1 (omega arith)))
      (λ e. g (leb-false (2 ^ 32) a e) (four_if h.w0 0 (omega arith)))

  -- the low address word: the address above, the two bits that are no part of it below
  low_field : field 2 30 (low_word_for h a) ≡ field 2 30 a
  low_field = field_same 2 30 (low_word h) (field 2 30 a) (field_lt 2 30 a)

  low_below : field 0 2 (low_word_for h a) ≡ below_address h
  low_below = field_below 0 2 2 30 (low_word h) (field 2 30 a) (field_lt 2 30 a) (omega arith)

  -- it is in a 64-bit header exactly if the address is 2^32 or more
  pub readdressed_size : has_four_words (kind (readdressed h a)) ≡ leb (2 ^ 32) a
  readdressed_size =
      by_size (λ (g : Header). has_four_words (kind g) ≡ leb (2 ^ 32) a)
      (λ l e. e ∙ sym (le-leb (2 ^ 32) a l))
      (λ l e. e ∙ sym (lt-leb (2 ^ 32) a l))

  -- its address is a; the two bits below the address are no part of it
  pub readdressed_address : address (readdressed h a) ≡ place 2 (a / 4)
  readdressed_address =
      by_size (λ (g : Header). address g ≡ place 2 (a / 4))
      (λ l e.
      let up : high_word (in64 h a) ≡ field 32 32 a = sym (hit (has_four_words (kind (in64 h a))) (field 32 32 a) 0 e refl) in
      let low : low_word (in64 h a) ≡ low_word_for h a = sym (hit (has_four_words (kind (in64 h a))) (low_word_for h a) (field 32 32 a) e refl) in
      sum (high_word (in64 h a)) (field 2 30 (low_word (in64 h a))) up (ap (field 2 30) low ∙ low_field))
      (λ l e.
      let up : high_word (in32 h a) ≡ field 32 32 a = sym (pass (has_four_words (kind (in32 h a))) (low_word_for h a) 0 e refl) ∙ (omega arith) in
      let low : low_word (in32 h a) ≡ low_word_for h a = sym (pass (has_four_words (kind (in32 h a))) 0 (low_word_for h a) e refl) in
      sum (high_word (in32 h a)) (field 2 30 (low_word (in32 h a))) up (ap (field 2 30) low ∙ low_field))
    where
      shifted : (x y u v c : ℕ) → x ≡ u → y ≡ v → u * 2 ^ 30 + v ≡ c → place 32 x + place 2 y ≡ place 2 c
      shifted x y u v c p q r = omega arith

      sum : (x y : ℕ) → x ≡ field 32 32 a → y ≡ field 2 30 a → place 32 x + place 2 y ≡ place 2 (a / 4)
      sum x y p q = shifted x y (a / 4 / 2 ^ 30) (field 2 30 a) (a / 4) (p ∙ shr_mod 32 32 b ∙ sym (shr-shr a 2 30)) q (split (a / 4) 30)

  pub readdressed_below : below_address (readdressed h a) ≡ below_address h
  readdressed_below =
      by_size (λ (g : Header). below_address g ≡ below_address h)
      (λ l e. ap (field 0 2) (sym (hit (has_four_words (kind (in64 h a))) (low_word_for h a) (field 32 32 a) e refl)) ∙ low_below)
      (λ l e. ap (field 0 2) (sym (pass (has_four_words (kind (in32 h a))) 0 (low_word_for h a) e refl)) ∙ low_below)

  -- every field of word 0 but the kind's bit 5 is as it was, and word 1 is untouched
  pub readdressed_keeps_low : (i j : ℕ) → j + i ≤ 29 → field i j (readdressed h a).w0 ≡ field i j h.w0
  readdressed_keeps_low i j k =
      by_size (λ (g : Header). field i j g.w0 ≡ field i j h.w0)
      (λ l e. field_below i j 29 1 h.w0 1 (omega arith) k)
      (λ l e. field_below i j 29 1 h.w0 0 (omega arith) k)

  pub readdressed_keeps_high : (i j : ℕ) → 30 ≤ i → field i j (readdressed h a).w0 ≡ field i j h.w0
  readdressed_keeps_high i j k =
      by_size (λ (g : Header). field i j g.w0 ≡ field i j h.w0)
      (λ l e. field_above i j 29 1 h.w0 1 (omega arith) k)
      (λ l e. field_above i j 29 1 h.w0 0 (omega arith) k)

  pub readdressed_word_1 : (readdressed h a).w1 ≡ h.w1
  readdressed_word_1 = by_size (λ (g : Header). g.w1 ≡ h.w1) (λ l e. refl) (λ l e. refl)

  pub readdressed_proper : Proper h → Proper (readdressed h a)
  readdressed_proper p =
      let low : low_word_for h a < 2 ^ 32 = stays_lt 2 30 (low_word h) (field 2 30 a) (field_lt 2 30 a) 32 (omega arith) (low_word_lt h p) in
      by_size Proper
      (λ l e. record {
        fits_0 = stays_lt 29 1 h.w0 1 (omega arith) 32 (omega arith) p.fits_0;
        fits_1 = p.fits_1;
        fits_2 = field_lt 32 32 a;
        fits_3 = low;
        lacks = λ f. absurd (true≢false (sym e ∙ f));
      })
      (λ l e. record {
        fits_0 = stays_lt 29 1 h.w0 0 (omega arith) 32 (omega arith) p.fits_0;
        fits_1 = p.fits_1;
        fits_2 = low;
        fits_3 = omega arith;
        lacks = λ f. refl;
      })
