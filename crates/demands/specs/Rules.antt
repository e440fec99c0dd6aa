-- R-4: "the packet layer shall name the first rule broken, and all above pass it on". What the packet layer names is stated there
-- (tlp/specs/Rules).
use Rattle.std.specs.Prelude.{ℕ, ◌^◌, ◌≤◌, true, false, ◌≡◌, length}
use Rattle.std.specs.Int.Bits.{bit_or}
use Rattle.tlp.specs.Form.{rule_number}
use Rattle.tlp.specs.Rules.{FirstBroken}
use Rattle.tlp.specs.declared.form.Rule.{Rule}
use Rattle.numbers.specs.Buses.{is_active}
use Rattle.logs.specs.Logs.{status_of}
use Rattle.routing.specs.Call.{Call, head_of, size_of}
use Rattle.routing.specs.Rule.{wrong_call}
use Rattle.switch.specs.Answer.{dropped}
use Rattle.switch.specs.After.{answer_of, logs_of}

-- who is refused by the number of a rule broke this rule first
abbrev pub NumberNamesRule : Type 0
NumberNamesRule = (c : Call) (r : Rule) → answer_of c ≡ dropped (rule_number r) → FirstBroken (size_of c) (head_of c) r

-- and who breaks a rule first, where neither 1 nor 2 is given, is refused by its number, whatever the tables hold
abbrev pub RuleGivesNumber : Type 0
RuleGivesNumber =
    (c : Call) (r : Rule) → wrong_call c.sender c.tables (length c.logs) (length c.out) ≡ false
    → is_active c.tables.numbers c.sender ≡ true → FirstBroken (size_of c) (head_of c) r → answer_of c ≡ dropped (rule_number r)

-- "log bit 18 stays": 31 to 36 set it in the sender's status, and every other bit of it is kept
abbrev pub Bit18Stays : Type 0
Bit18Stays = (c : Call) (n : ℕ) → 31 ≤ n → answer_of c ≡ dropped n → status_of c.sender (logs_of c) ≡ bit_or (status_of c.sender c.logs) (2 ^ 18)
