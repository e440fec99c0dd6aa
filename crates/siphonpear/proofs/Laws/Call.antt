-- What a call for C leaves: with a buffer for the answer that is too short it is refused before all else, and everything stays; with
-- any other it leaves what the passing call does. By the first test. Assumes nothing.
use Prim.Native.Nat.{ℕ, ◌≤◌, ◌<◌}
use mathlib.Core.Path.{◌≡◌, refl, sym, ap, ◌∙◌, subst}
use mathlib.Core.List.{List}
use borrow.Author.Tests.{lt-ltb, le-ltb}
use lib.ListN.{length}
use lib.Dec.{ltb}
use Rattle.ground.specs.Pick.{pick}
use Rattle.ground.proofs.Laws.Pick.{hit, pass}
use Rattle.wire.proofs.Laws.Write.{over_none, over_short}
use Rattle.routing.specs.Call.{Call, head_of, body_of}
use Rattle.switch.specs.Answer.{Answer, dropped, number_of}
use Rattle.switch.specs.After.{log_bit, out_after, logs_after, answer_of, Passes}
use Rattle.siphonpear.specs.Abi.{answer_words, answer_after, call_rule, Leaves}

module _ (c : Call) (buffer : List ℕ) where
  -- refusal 1 is not logged, lets nothing out, and does not write a short buffer
  untouched : length buffer < 8 → Leaves c (dropped 1) buffer 1 c.out c.logs c.tables.numbers buffer
  unfolding log_bit pick
  untouched h =
      record {
        number = refl;
        out_is = sym (over_none c.out 0);
        logs_are = refl;
        numbers_kept = refl;
        words_are = sym (over_short buffer 0 (answer_words (dropped 1)) h);
      }

  pub too_short_lem : length buffer < 8 → Leaves c (call_rule c buffer) buffer 1 c.out c.logs c.tables.numbers buffer
  unfolding call_rule
  too_short_lem h =
      subst (λ (a : Answer). Leaves c a buffer 1 c.out c.logs c.tables.numbers buffer)
      (hit (ltb (length buffer) 8) (dropped 1) (answer_of c) (lt-ltb (length buffer) 8 h) refl)
      (untouched h)

  pub long_enough : (a : Answer) (n : ℕ) (out logs numbers words : List ℕ) → 8 ≤ length buffer → Passes c a out logs numbers → n ≡ number_of a
      → words ≡ answer_after (answer_words a) buffer → Leaves c (call_rule c buffer) buffer n out logs numbers words
  unfolding call_rule
  long_enough a n out logs numbers words h p e w =
      let same : a ≡ call_rule c buffer = pass (ltb (length buffer) 8) (dropped 1) (answer_of c) (le-ltb (length buffer) 8 h) p.answer in
      record {
        number = e ∙ ap number_of same;
        out_is = p.out_is ∙ ap (λ (b : Answer). out_after b (body_of c) c.out) (sym p.answer ∙ same);
        logs_are = p.logs_are ∙ ap (λ (b : Answer). logs_after b c.sender (head_of c) c.logs) (sym p.answer ∙ same);
        numbers_kept = p.numbers_kept;
        words_are = w ∙ ap (λ (b : Answer). answer_after (answer_words b) buffer) same;
      }
