-- Header words and the bytes that they are read from. A word is its four bytes, as digits of 256. Assumes nothing.
use Prim.Native.Nat.{ℕ, ◌+◌, ◌%◌, ◌<◌, ◌^◌}
use mathlib.Core.Path.{◌≡◌, refl, sym, ap, ◌∙◌}
use mathlib.Core.Bool.{false}
use mathlib.Core.List.{List, [], ◌∷◌}
use native.Mathlib.Omega.{arith}
use Rattle.std.specs.Int.{w32, to_be_bytes}
use Rattle.ground.specs.Field.{field}
use Rattle.header.specs.Kind.{has_four_words}
use Rattle.header.specs.Words.{byte_at, joined, word_at, header_of, word_bytes}
use Rattle.header.specs.Fields.{kind}
use Rattle.header.specs.declared.words.Header.{Header}
use Rattle.ground.proofs.Laws.Pick.{pass, either}

-- a list of bytes, as a slice of them is
abbrev pub Bytes : List ℕ → Type 0
Bytes s = (i : ℕ) → byte_at s i < 2 ^ 8

-- header words as they are read from bytes: each of 32 bits, and a fourth word only where the header has one
pub record Proper (h : Header) : Type 0 where
  pub fits_0 : h.w0 < 2 ^ 32
  pub fits_1 : h.w1 < 2 ^ 32
  pub fits_2 : h.w2 < 2 ^ 32
  pub fits_3 : h.w3 < 2 ^ 32
  pub lacks : has_four_words (kind h) ≡ false → h.w3 ≡ 0

-- headers are equal word by word
pub words_equal : {g h : Header} → g.w0 ≡ h.w0 → g.w1 ≡ h.w1 → g.w2 ≡ h.w2 → g.w3 ≡ h.w3 → g ≡ h
words_equal p q r s = λ i. record { w0 = p i; w1 = q i; w2 = r i; w3 = s i }

module _ (s : List ℕ) (b : Bytes s) where
  -- a word read from bytes is of 32 bits
  pub word_lt : (at : ℕ) → word_at s at < 2 ^ 32
  unfolding word_at
  word_lt at = omega (arith, b at, b (at + 1), b (at + 2), b (at + 3))

  -- the kind is byte 0
  pub kind_is_byte_0 : kind (header_of s) ≡ byte_at s 0
  unfolding word_at
  kind_is_byte_0 = omega (arith, b 0, b 1, b 2, b 3)

  -- header words read from bytes are proper
  pub read_proper : Proper (header_of s)
  read_proper =
      record {
        fits_0 = word_lt 0;
        fits_1 = word_lt 4;
        fits_2 = word_lt 8;
        fits_3 = either (λ (w : ℕ). w < 2 ^ 32) (has_four_words (byte_at s 0)) (λ _. word_lt 12) (λ _. omega arith);
        lacks = λ e. sym (pass (has_four_words (byte_at s 0)) (word_at s 12) 0 (ap has_four_words (sym kind_is_byte_0) ∙ e) refl);
      }

-- a word's four bytes are the library's
pub be_bytes : (w : ℕ) → to_be_bytes w32 w ≡ word_bytes w
be_bytes w =
    let low : w % 2 ^ 8 ≡ field 0 8 w = omega arith in
    ap (λ (b : ℕ). field 24 8 w ∷ field 16 8 w ∷ field 8 8 w ∷ b ∷ []) low

-- they make the word
pub word_back : (w : ℕ) → w < 2 ^ 32 → joined (field 24 8 w) (field 16 8 w) (field 8 8 w) (field 0 8 w) ≡ w
word_back w b = omega arith
