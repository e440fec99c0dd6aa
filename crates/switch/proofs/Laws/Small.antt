-- What comes out is at most 4,112 bytes long, whichever way a packet goes: every record is made of a header, whose packet is no longer.
-- Assumes nothing.
use Rattle.std.specs.Prelude.{Result, Ok, Err}
use Prim.Native.Nat.{ℕ, ◌/◌, ◌≤◌}
use mathlib.Core.Path.{◌≡◌, sym, subst}
use mathlib.Core.Bool.{◌&&◌}
use mathlib.Core.List.{List}
use native.Mathlib.Omega.{arith}
use Rattle.ground.proofs.Laws.Pick.{either}
use Rattle.header.specs.Kind.{is_read}
use Rattle.header.specs.Fields.{kind}
use Rattle.header.specs.Rewrite.{readdressed, renamed, returned}
use Rattle.header.specs.declared.words.Header.{Header}
use Rattle.header.proofs.Laws.Lengths.{total_at_most}
use Rattle.count.specs.Count.{answer_to}
use Rattle.numbers.specs.Buses.{bus_of}
use Rattle.routing.specs.declared.rule.Way.{Way}
use Rattle.routing.specs.declared.rule.Way.TheVariants.{Goes, Comes}
use Rattle.routing.specs.Call.{Asked}
use Rattle.routing.specs.Rule.{bus_id, mapped_id, pass_way}
use Rattle.switch.specs.Answer.{Answer, length_of, refused, way_answer, pass_rule}
use Rattle.routing.specs.Refusal.{answers_reads}
use Rattle.routing.specs.declared.refusal.Refusal.{Refusal}

-- an answer is small
abbrev Small : Answer → Type 0
Small r = length_of r ≤ 4112

small_way : (y : Result Way Refusal) (p : ℕ) (h : Header) (numbers : List ℕ) → Small (way_answer y p h numbers)
unfolding refused
small_way (Err r) p h numbers =
    either Small (answers_reads r && is_read (kind h)) (λ _. total_at_most (answer_to h (bus_id (bus_of numbers p)))) (λ _. omega arith)
small_way (Ok (Goes t i)) p h numbers = total_at_most (renamed (readdressed h t.address) (mapped_id (bus_of numbers t.destination) i))
small_way (Ok (Comes id i)) p h numbers = total_at_most (returned h id (bus_id (bus_of numbers (i / 4))))

-- the rule's answer is small
pub small : (a : Asked) {r : Answer} → r ≡ pass_rule a → length_of r ≤ 4112
small a e = subst Small (sym e) (small_way (pass_way a) a.sender a.head a.tables.numbers)
