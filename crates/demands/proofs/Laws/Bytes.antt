-- The bytes of a returned completion: those that it was read from, with another completer and another requester. A word that is read from four
-- bytes has them, and one whose ID is replaced has the ID's two bytes and then its own last two; a completion's header is three such words.
-- Assumes nothing.
use Prim.Native.Nat.{ℕ, zero, suc, ◌+◌, ◌/◌, ◌%◌, ◌^◌, ◌≤◌, ◌<◌}
use mathlib.Core.Path.{◌≡◌, refl, sym, ap, ◌∙◌}
use mathlib.Core.Bool.{true, false}
use mathlib.Core.List.{List, [], ◌∷◌, ◌++◌}
use native.Mathlib.Omega.{arith}
use lib.ListN.{length, take, drop}
use lib.Seq.{drop-cons}
use Rattle.ground.specs.Field.{field, with_field}
use Rattle.header.specs.Kind.{is_completion, has_four_words}
use Rattle.header.specs.Words.{byte_at, joined, word_at, header_of, word_bytes}
use Rattle.header.specs.Fields.{kind, data_of}
use Rattle.header.specs.Rewrite.{returned}
use Rattle.ground.proofs.Laws.Field.{field_same, field_below, field_of_field}
use Rattle.ground.proofs.Laws.Pick.{pass}
use Rattle.header.proofs.Laws.Words.{Bytes}
use Rattle.wire.specs.Write.{three_words, packet_list}
use Rattle.tlp.proofs.Laws.Rules.{of_completions}
use Rattle.wire.proofs.Laws.Write.{without_fourth}
use Rattle.demands.specs.Demand3.{id_bytes, returned_bytes}

-- four bytes, each by itself
four : (a b c d e f g h : ℕ) → a ≡ e → b ≡ f → c ≡ g → d ≡ h → (a ∷ b ∷ c ∷ d ∷ []) ≡ (e ∷ f ∷ g ∷ h ∷ [])
four a b c d e f g h p q r s = λ i. p i ∷ q i ∷ r i ∷ s i ∷ []

-- the bytes of a word whose upper half is replaced
named_bytes : (w id : ℕ) → id < 2 ^ 16 → word_bytes (with_field 16 16 w id) ≡ id_bytes id ++ (field 8 8 w ∷ field 0 8 w ∷ [])
named_bytes w id b =
    let v = with_field 16 16 w id in
    let upper : (i : ℕ) → 8 + i ≤ 16 → field (16 + i) 8 v ≡ field i 8 id =
    λ i h. sym (field_of_field i 8 16 16 v h) ∙ ap (field i 8) (field_same 16 16 w id b) in
    let high : field 8 8 id ≡ id / 256 = omega arith in
    let low : field 0 8 id ≡ id % 256 = omega arith in
    let kept : (i : ℕ) → 8 + i ≤ 16 → field i 8 v ≡ field i 8 w = λ i h. field_below i 8 16 16 w id b h in
    four _ _ _ _ _ _ _ _ (upper 8 (omega arith) ∙ high) (upper 0 (omega arith) ∙ low) (kept 8 (omega arith)) (kept 0 (omega arith))

-- the bytes of a word that is made of bytes
joined_bytes : (a b c d : ℕ) → a < 2 ^ 8 → b < 2 ^ 8 → c < 2 ^ 8 → d < 2 ^ 8 → word_bytes (joined a b c d) ≡ a ∷ b ∷ c ∷ d ∷ []
joined_bytes a b c d p q r s = four _ _ _ _ a b c d (omega arith) (omega arith) (omega arith) (omega arith)

-- n bytes of a list, one by one from a place on, and what follows them
abbrev spelt : List ℕ → ℕ → ℕ → List ℕ
spelt s at zero = drop at s
spelt s at (suc n) = byte_at s at ∷ spelt s (suc at) n

-- that is the list from that place on, where it has them
spelt_out : (s : List ℕ) (at n : ℕ) → at + n ≤ length s → spelt s at n ≡ drop at s
spelt_out s at zero h = refl
spelt_out s at (suc n) h = ap (λ (t : List ℕ). byte_at s at ∷ t) (spelt_out s (suc at) n (omega arith)) ∙ sym (drop-cons s at 0 (omega arith))

module _ (s : List ℕ) (b : Bytes s) where
  -- the bytes of a word that is read from bytes
  word_bytes_lem : (at : ℕ) → word_bytes (word_at s at) ≡ byte_at s at ∷ byte_at s (at + 1) ∷ byte_at s (at + 2) ∷ byte_at s (at + 3) ∷ []
  unfolding word_at
  word_bytes_lem at = joined_bytes (byte_at s at) (byte_at s (at + 1)) (byte_at s (at + 2)) (byte_at s (at + 3)) (b at) (b (at + 1)) (b (at + 2)) (b (at + 3))

  -- and of one whose ID is replaced
  word_named : (at id : ℕ) → id < 2 ^ 16 → word_bytes (with_field 16 16 (word_at s at) id) ≡ id_bytes id ++ (byte_at s (at + 2) ∷ byte_at s (at + 3) ∷ [])
  word_named at id l = named_bytes (word_at s at) id l ∙ ap (λ (t : List ℕ). id_bytes id ++ drop 2 t) (word_bytes_lem at)

  -- the bytes of a returned completion
  pub returned_bytes_lem : (id completer : ℕ) → is_completion (kind (header_of s)) ≡ true → 12 ≤ length s → id < 2 ^ 16 → completer < 2 ^ 16
      → packet_list (returned (header_of s) id completer) (data_of s) ≡ returned_bytes s completer id
  returned_bytes_lem id completer e l i c =
      let g = returned (header_of s) id completer in
      let three = of_completions has_four_words false refl refl (kind (header_of s)) e in
      let rest : data_of s ≡ drop 12 s = ap (λ (n : ℕ). drop n s) (sym (pass (has_four_words (kind (header_of s))) 16 12 three refl)) in
      let new = take 12 (returned_bytes (spelt s 0 12) completer id) in
      let words : three_words g ≡ new = λ j. word_bytes_lem 0 j ++ (word_named 4 completer c j ++ word_named 8 id i j) in
      ap (λ (t : List ℕ). t ++ data_of s) (without_fourth g three ∙ words)
      ∙ ap (λ (t : List ℕ). new ++ t) rest
      ∙ ap (λ (t : List ℕ). returned_bytes t completer id) (spelt_out s 0 12 l)
