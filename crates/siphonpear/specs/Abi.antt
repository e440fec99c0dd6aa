-- What C sees as numbers: a choice, the number that a call returns, and the eight words of an answer.
use Rattle.std.specs.Prelude.{ℕ, Bool, not, ◌≡◌, List, [], ◌∷◌, length, eqb, ltb}
use Rattle.ground.specs.Pick.{pick}
use Rattle.wire.specs.Write.{over}
use Rattle.switch.specs.declared.answer.Sent.{Sent}
use Rattle.routing.specs.Call.{Call, head_of, body_of}
use Rattle.switch.specs.Answer.{Answer, crossed, answered, dropped, number_of}
use Rattle.switch.specs.After.{out_after, logs_after, answer_of}

-- a choice that is given as a number: 0 is no, and any other is yes
abbrev pub is_yes : ℕ → Bool
is_yes n = not (eqb n 0)

-- an outcome with its record: outcome, partition, length, word count, the four header words
abbrev pub record_words : ℕ → Sent → List ℕ
record_words outcome s =
    outcome ∷ s.partition ∷ s.length ∷ s.words ∷ s.header.w0 ∷ s.header.w1 ∷ s.header.w2 ∷ s.header.w3 ∷ []

-- the eight words: crossed is 0, answered 1, and dropped 2 with seven zeros
abbrev pub answer_words : Answer → List ℕ
answer_words (crossed s) = record_words 0 s
answer_words (answered n s) = record_words 1 s
answer_words (dropped n) = 2 ∷ 0 ∷ 0 ∷ 0 ∷ 0 ∷ 0 ∷ 0 ∷ 0 ∷ []

-- the buffer after the words were written over its start; a shorter one stays as it is
abbrev pub answer_after : List ℕ → List ℕ → List ℕ
answer_after words buffer = over buffer 0 words

-- the passing rule, where a buffer for the answer of fewer than eight words is refusal 1 before all else
unfoldable pub call_rule : Call → List ℕ → Answer
call_rule c buffer = pick (ltb (length buffer) 8) (dropped 1) (answer_of c)

-- what a call leaves where it gets the answer a: the number returned, Out, the logs, the numbers and the buffer for the answer
pub record Leaves (c : Call) (a : Answer) (buffer : List ℕ) (n : ℕ) (out logs numbers words : List ℕ) : Type 0 where
  pub number : n ≡ number_of a
  pub out_is : out ≡ out_after a (body_of c) c.out
  pub logs_are : logs ≡ logs_after a c.sender (head_of c) c.logs
  pub numbers_kept : numbers ≡ c.tables.numbers
  pub words_are : words ≡ answer_after (answer_words a) buffer

-- what `siphon_pass` leaves: that of the rule's answer
abbrev pub Called : Call → List ℕ → ℕ → List ℕ → List ℕ → List ℕ → List ℕ → Type 0
Called c buffer n out logs numbers words = Leaves c (call_rule c buffer) buffer n out logs numbers words
