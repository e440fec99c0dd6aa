-- What all the lent tables share.
use Rattle.std.specs.Prelude.{ℕ, Bool, not, ◌||◌, List, eqb, ltb, Result, Ok, Err}
use Rattle.ground.specs.Pick.{pick}
use Rattle.ground.specs.declared.table.Refused.{Refused}
use Rattle.ground.specs.declared.table.Refused.TheVariants.{WrongCall, WindowValues, Overlap, Repetition}

-- "partition above 15", and "a table of another length" than the call's
abbrev pub wrong_table : ℕ → ℕ → ℕ → Bool
wrong_table p have want = ltb 15 p || not (eqb have want)

-- the list's numbers of the refusals of table calls
abbrev pub refused_number : Refused → ℕ
refused_number WrongCall = 1
refused_number WindowValues = 10
refused_number Overlap = 11
refused_number Repetition = 12

-- what a table call answers, as a number: 0 for done, else that of its refusal
abbrev pub call_number : Result Unit Refused → ℕ
call_number (Ok done) = 0
call_number (Err refused) = refused_number refused

-- a table after a call that gave this number, 0 for done: "a refused call changes nothing"
unfoldable pub edited : ℕ → List ℕ → List ℕ → List ℕ
edited n new old = pick (eqb n 0) new old
