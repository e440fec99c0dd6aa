-- R-4's rules are each met, alone and with a neighbour, and the first broken gives its number. Computed on the sheet's tables.
-- Assumes nothing.
use Prim.Native.Nat.{ℕ}
use mathlib.Core.Path.{◌≡◌, refl}
use mathlib.Core.List.{List, map}
use Rattle.ground.specs.Pick.{pick}
use Rattle.header.specs.Words.{word_at}
use Rattle.tlp.specs.Form.{request_form, form_of}
use Rattle.switch.specs.Answer.{Answer, dropped, refused, pass_rule}
use Rattle.tlp.specs.Rules.{rules}
use Rattle.routing.specs.Call.{lent}
use Rattle.routing.specs.Rule.{gate_of}
use Rattle.sheet.specs.Tables.{windows, numbers}
use Rattle.sheet.specs.Rules.{broken_of, Faulty, alone, neighbours, together}
use Rattle.sheet.proofs.Laws.Cases.{asked_of}

-- the rules that a packet breaks, and what it gets
abbrev found : Faulty → List ℕ × Answer
found f = (broken_of rules f.packet, pass_rule (asked_of 1 f.packet (lent windows numbers) 4112))

-- as the table has it
abbrev said : Faulty → List ℕ × Answer
said f = (f.breaks_all, dropped f.gets)

pub each_alone : map found alone ≡ map said alone
unfolding pick word_at request_form form_of gate_of refused windows numbers
each_alone = refl

pub each_with_neighbour : map found neighbours ≡ map said neighbours
unfolding pick word_at request_form form_of gate_of refused windows numbers
each_with_neighbour = refl

pub all_together : map found together ≡ map said together
unfolding pick word_at request_form form_of gate_of refused windows numbers
all_together = refl
