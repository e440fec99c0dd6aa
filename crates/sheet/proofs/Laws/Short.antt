-- Case K for every packet of fewer than 12 bytes from partition 1, over any Out that is long enough: 31, and the row holds the words
-- of what came, with missing bytes as 0. The length is the first test of form; the rest is computed on the sheet's tables.
-- Assumes nothing.
use Rattle.std.specs.Prelude.{Result, Err}
use Prim.Native.Nat.{ℕ, ◌≤◌, ◌<◌}
use mathlib.Core.Path.{◌≡◌, refl, sym, ap, ◌∙◌}
use mathlib.Core.List.{List, [], ◌∷◌}
use native.Mathlib.Omega.{arith}
use borrow.Author.Tests.{lt-ltb}
use lib.ListN.{length, get_or-eq_default}
use Rattle.ground.specs.Pick.{pick}
use Rattle.header.specs.Kind.{has_four_words}
use Rattle.header.specs.Words.{byte_at, word_at, fourth_word, header_of}
use Rattle.ground.proofs.Laws.Pick.{hit, either}
use Rattle.tlp.specs.Form.{too_short, form_of}
use Rattle.tlp.specs.declared.form.Packet.{Packet}
use Rattle.tlp.specs.declared.form.Rule.TheVariants.{TooShort}
use Rattle.logs.specs.Logs.{noted, recorded}
use Rattle.routing.specs.Call.{lent}
use Rattle.routing.specs.Rule.{gate_of, plan_of, plan_way}
use Rattle.switch.specs.Answer.{dropped, refused, way_answer, pass_rule}
use Rattle.switch.specs.After.{log_bit, logs_after}
use Rattle.sheet.specs.Tables.{windows, numbers, logs}
use Rattle.sheet.specs.Cases.{logs_with}
use Rattle.sheet.proofs.Laws.Cases.{asked_of, long_enough}
use Rattle.tlp.specs.declared.form.Rule.{Rule}

-- fewer than 12 bytes are read as too short
short_form : (s : List ℕ) → length s < 12 → form_of (length s) (header_of s) ≡ Err TooShort
unfolding form_of
short_form s l = sym (hit (too_short (length s)) (Err TooShort) _ (lt-ltb (length s) 12 l) refl)

-- a fourth word that is missing is 0
no_fourth : (s : List ℕ) → length s < 12 → fourth_word s ≡ 0
unfolding word_at
no_fourth s l =
    either (λ (w : ℕ). w ≡ 0) (has_four_words (byte_at s 0))
    (λ _. rw (get_or-eq_default s 0 {n = 12} (omega arith), get_or-eq_default s 0 {n = 13} (omega arith), get_or-eq_default s 0 {n = 14} (omega arith), get_or-eq_default s 0 {n = 15} (omega arith)) refl)
    (λ _. refl)

-- K, whatever the bytes are
pub too_short_lem : (s : List ℕ) → length s < 12 → (out : ℕ) → 4112 ≤ out
    → (pass_rule (asked_of 1 s (lent windows numbers) out) ≡ dropped 31)
    × (logs_after (dropped 31) 1 (header_of s) logs ≡ logs_with 1 (0x00040000 ∷ 18 ∷ word_at s 0 ∷ word_at s 4 ∷ word_at s 8 ∷ 0 ∷ []))
unfolding pick noted recorded log_bit gate_of refused windows numbers logs
too_short_lem s l out h = (
  long_enough 1 s (lent windows numbers) out h
      ∙ ap (λ (k : Result Packet Rule). way_answer (plan_way 1 (header_of s) (lent windows numbers) (plan_of k 1 2 numbers)) 1 (header_of s) numbers) (short_form s l),
  ap (λ (w : ℕ). logs_with 1 (0x00040000 ∷ 18 ∷ word_at s 0 ∷ word_at s 4 ∷ word_at s 8 ∷ w ∷ [])) (no_fourth s l),
)
