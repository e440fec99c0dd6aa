-- A word's digits are ASCII, so they are text. Assumes nothing.
use Prim.Native.Nat.{ℕ, ◌<◌}
use native.Mathlib.Omega.{arith}
use Rattle.std.specs.Str.{IsUtf8}
use Rattle.std.proofs.lemmas.Str.{IsUtf8-from_ascii}
use Rattle.std.proofs.lemmas.Str.Ascii.{IsAscii-nil, IsAscii-cons}
use Rattle.ground.proofs.Laws.Pick.{either}
use Rattle.ground.proofs.Laws.Field.{field_lt}
use Rattle.desk.specs.Hex.{digit_at, hex_word}

-- a digit is ASCII
digit_lt : (low w : ℕ) → digit_at low w < 128
digit_lt low w = either (λ (k : ℕ). k < 128) _ (λ e. let l = field_lt low 4 w in omega arith) (λ e. let l = field_lt low 4 w in omega arith)

-- a word is text
pub word_is_text : (w : ℕ) → IsUtf8 (hex_word w)
word_is_text w = IsUtf8-from_ascii (hex_word w) (search (IsAscii-cons, IsAscii-nil, digit_lt) depth 12)
