-- The paper's answer determines the outcome: the contract on paper, `on_paper r ≡ rule`, says all of r.
-- The refusals' numbers are led back to the refusals, and the answers' constructors are one to one. Assumes nothing.
use Prim.Native.Nat.{ℕ}
use mathlib.Core.Path.{◌≡◌, refl, sym, ap, ◌∙◌}
use native.Mathlib.Omega.{arith}
use lib.Dec.{eqb}
use Rattle.ground.specs.Pick.{pick}
use Rattle.tlp.specs.declared.form.Rule.TheVariants.{TooShort, NotCarried, WrongLength, Enables, Contiguity, PageCrossing, ZeroHighWord}
use Rattle.routing.specs.declared.refusal.Refusal.{Refusal}
use Rattle.routing.specs.declared.refusal.Refusal.TheVariants.{WrongCall, SenderInactive, Broken, Poisoned}
use Rattle.routing.specs.declared.refusal.Refusal.TheVariants.{NoWindow, NoEntry, DestinationInactive, NotPassable}
use Rattle.switch.specs.declared.answer.Outcome.{Outcome}
use Rattle.switch.specs.declared.answer.Outcome.TheVariants.{Crossed, Answered, Dropped}
use Rattle.switch.specs.Answer.{on_paper}
use Rattle.routing.specs.Refusal.{refusal_number}

-- the refusal of a number
abbrev of_number : ℕ → Refusal
of_number n =
    pick (eqb n 1) WrongCall
    (pick (eqb n 2) SenderInactive
    (pick (eqb n 4) (Broken NotCarried)
    (pick (eqb n 5) Poisoned
    (pick (eqb n 6) NoWindow
    (pick (eqb n 7) NoEntry
    (pick (eqb n 8) DestinationInactive
    (pick (eqb n 9) NotPassable
    (pick (eqb n 31) (Broken TooShort)
    (pick (eqb n 32) (Broken WrongLength)
    (pick (eqb n 33) (Broken Enables)
    (pick (eqb n 34) (Broken Contiguity)
    (pick (eqb n 35) (Broken PageCrossing) (Broken ZeroHighWord)))))))))))))

led_back : (r : Refusal) → of_number (refusal_number r) ≡ r
unfolding pick
led_back WrongCall = refl
led_back SenderInactive = refl
led_back (Broken TooShort) = refl
led_back (Broken NotCarried) = refl
led_back (Broken WrongLength) = refl
led_back (Broken Enables) = refl
led_back (Broken Contiguity) = refl
led_back (Broken PageCrossing) = refl
led_back (Broken ZeroHighWord) = refl
led_back Poisoned = refl
led_back NoWindow = refl
led_back NoEntry = refl
led_back DestinationInactive = refl
led_back NotPassable = refl

-- two refusals of one number are the same
pub number_determines : (r s : Refusal) → refusal_number r ≡ refusal_number s → r ≡ s
number_determines r s e = sym (led_back r) ∙ ap of_number e ∙ led_back s

-- two outcomes that give the same are the same
pub paper_determines : (a b : Outcome) → on_paper a ≡ on_paper b → a ≡ b
paper_determines (Crossed s) (Crossed t) e = let q : s ≡ t = cc in ap Crossed q
paper_determines (Crossed s) (Answered r t) e = let z : ◌≡◌ {A = ℕ} 0 1 = cc in absurd (omega arith)
paper_determines (Crossed s) (Dropped r) e = let z : ◌≡◌ {A = ℕ} 0 1 = cc in absurd (omega arith)
paper_determines (Answered r s) (Crossed t) e = let z : ◌≡◌ {A = ℕ} 0 1 = cc in absurd (omega arith)
paper_determines (Answered r s) (Answered u t) e =
    let n : refusal_number r ≡ refusal_number u = cc in
    let q : s ≡ t = cc in
    ap (λ (k : Refusal). Answered k s) (number_determines r u n) ∙ ap (Answered u) q
paper_determines (Answered r s) (Dropped u) e = let z : ◌≡◌ {A = ℕ} 0 1 = cc in absurd (omega arith)
paper_determines (Dropped r) (Crossed t) e = let z : ◌≡◌ {A = ℕ} 0 1 = cc in absurd (omega arith)
paper_determines (Dropped r) (Answered u t) e = let z : ◌≡◌ {A = ℕ} 0 1 = cc in absurd (omega arith)
paper_determines (Dropped r) (Dropped u) e =
    let n : refusal_number r ≡ refusal_number u = cc in
    ap Dropped (number_determines r u n)
