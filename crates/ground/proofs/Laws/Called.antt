-- The number of a table call's answer determines the answer. Assumes nothing.
use Prim.Native.Nat.{ℕ}
use mathlib.Core.Path.{◌≡◌, refl, sym, ap, ◌∙◌}
use lib.Dec.{eqb}
use Rattle.std.specs.Prelude.{Result, Ok, Err}
use Rattle.ground.specs.Pick.{pick}
use Rattle.ground.specs.Table.{call_number}
use Rattle.ground.specs.declared.table.Refused.{Refused}
use Rattle.ground.specs.declared.table.Refused.TheVariants.{WrongCall, WindowValues, Overlap, Repetition}

-- the answer of a number
abbrev of_number : ℕ → Result Unit Refused
of_number n =
    pick (eqb n 0) (Ok tt)
    (pick (eqb n 1) (Err WrongCall)
    (pick (eqb n 10) (Err WindowValues)
    (pick (eqb n 11) (Err Overlap) (Err Repetition))))

led_back : (a : Result Unit Refused) → of_number (call_number a) ≡ a
unfolding pick
led_back (Ok done) = refl
led_back (Err WrongCall) = refl
led_back (Err WindowValues) = refl
led_back (Err Overlap) = refl
led_back (Err Repetition) = refl

-- two answers of table calls that have one number are the same
pub call_determines : (a b : Result Unit Refused) → call_number a ≡ call_number b → a ≡ b
call_determines a b e = sym (led_back a) ∙ ap of_number e ∙ led_back b
