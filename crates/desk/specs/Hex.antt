-- "Words as eight upper-case hex digits", in ASCII.
use Rattle.std.specs.Prelude.{ℕ, ◌+◌, List, [], ◌∷◌, ltb}
use Rattle.ground.specs.Pick.{pick}
use Rattle.ground.specs.Field.{field}

-- a digit of 0 to 15: 0 stands at 48, A, which is 10, at 65
abbrev pub hex_digit : ℕ → ℕ
hex_digit d = pick (ltb d 10) (48 + d) (55 + d)

-- the digit that stands for the four bits from `low` on
abbrev pub digit_at : ℕ → ℕ → ℕ
digit_at low w = hex_digit (field low 4 w)

-- a word, the highest digit first
abbrev pub hex_word : ℕ → List ℕ
hex_word w = digit_at 28 w ∷ digit_at 24 w ∷ digit_at 20 w ∷ digit_at 16 w ∷ digit_at 12 w ∷ digit_at 8 w ∷ digit_at 4 w ∷ digit_at 0 w ∷ []
