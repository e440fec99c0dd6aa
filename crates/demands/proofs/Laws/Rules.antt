-- R-4, of the call's answer: the number of a rule names the first that the packet broke, whoever breaks a rule first gets its number, and 31
-- to 36 are logged under bit 18.
-- No two refusals share a number, and the packet layer names the first rule broken; the rule finds a refusal exactly in its case. Assumes nothing.
use Rattle.std.specs.Prelude.{Option}
use Rattle.std.specs.Prelude.{Some, Result, Err}
use Prim.Native.Nat.{◌≤◌}
use mathlib.Core.Path.{◌≡◌, sym, ap, ◌∙◌, subst}
use mathlib.Core.Logic.{⊎_elim}
use native.Mathlib.Omega.{arith}
use lib.Bits.{bit_or}
use Rattle.ground.specs.Pick.{pick}
use Rattle.tlp.proofs.Laws.Rules.{layer_names_first}
use Rattle.logs.specs.Logs.{status_of, bit_mask}
use Rattle.logs.specs.declared.Bit.{Bit}
use Rattle.logs.specs.declared.Bit.TheVariants.{Malformed}
use Rattle.routing.specs.declared.refusal.Refusal.TheVariants.{Broken}
use Rattle.routing.specs.declared.rule.Way.{Way}
use Rattle.routing.specs.Call.{head_of, size_of, asked}
use Rattle.routing.specs.Why.{Why}
use Rattle.switch.specs.Answer.{refused, way_answer}
use Rattle.routing.proofs.Laws.Exactly.{exactly}
use Rattle.switch.proofs.Laws.Logged.{malformed}
use Rattle.switch.proofs.Laws.Paper.{number_determines}
use Rattle.demands.specs.Settled.{Fate}
use Rattle.demands.specs.Rules.{NumberNamesRule, RuleGivesNumber, Bit18Stays}
use Rattle.demands.proofs.Laws.Listed.{Listed, listed}
use Rattle.demands.proofs.Laws.Settled.{settles}
use Rattle.routing.specs.declared.refusal.Refusal.{Refusal}

-- the number names the first rule broken
pub number_names_rule : NumberNamesRule
number_names_rule c r e =
    let s = (subst (Listed c) e (listed c)).stopped in
    let why = subst (Why (asked c)) (number_determines s.refusal (Broken r) s.number) s.why in
    (layer_names_first (size_of c) (head_of c) r).0 why.1

-- who breaks a rule first is refused by its number
pub rule_gives_number : RuleGivesNumber
unfolding pick refused
rule_gives_number c r w a f =
    ap (λ (y : Result Way Refusal). way_answer y c.sender (head_of c) c.tables.numbers)
    ((exactly (asked c) (Err (Broken r))).1 (record { right = w; active = a }, (layer_names_first (size_of c) (head_of c) r).1 f))

-- bit 18
pub bit_18_stays : Bit18Stays
bit_18_stays c n a e =
    let l = (subst (Listed c) e (listed c)).listed in
    let to : n ≤ 36 = ⊎_elim (λ s. omega (arith, s, a)) (λ s. ⊎_elim (λ t. omega (arith, t, a)) (λ t. t.1) s) l in
    let home = (subst (Fate c) e (settles c)).logged (omega (arith, a)) in
    let same : home.bit ≡ Malformed = under home.bit (sym home.named ∙ malformed n a to) in
    home.status ∙ ap (λ (b : Bit). bit_or (status_of c.sender c.logs) (bit_mask b)) same
  where
    under : (b : Bit) → ◌≡◌ {A = Option Bit} (Some b) (Some Malformed) → b ≡ Malformed
    under b q = cc
