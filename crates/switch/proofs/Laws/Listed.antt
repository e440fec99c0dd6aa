-- A refusal is one of the list's: its number is listed, a read alone is answered, by 5 to 8 and with the answer to it, and but for 1 and 2 the
-- packet entered. By the refusal, and by what holds at a way. Assumes nothing.
use Rattle.std.specs.Prelude.{Result, Ok, Err}
use Prim.Native.Nat.{ℕ, ◌≤◌}
use mathlib.Core.Path.{◌≡◌, refl, sym}
use mathlib.Core.Bool.{true, ◌&&◌, true≢false}
use mathlib.Core.Logic.{◌⊎◌, inl, inr, ⊎_elim}
use native.Mathlib.Omega.{arith}
use Rattle.ground.proofs.Laws.Pick.{either}
use Rattle.ground.proofs.Laws.Join.{both}
use Rattle.header.specs.Kind.{is_read}
use Rattle.header.specs.Fields.{kind}
use Rattle.count.specs.Count.{answer_to}
use Rattle.tlp.proofs.Laws.Rules.{form_number}
use Rattle.numbers.specs.Buses.{bus_of}
use Rattle.routing.specs.declared.refusal.Refusal.{Refusal}
use Rattle.routing.specs.declared.refusal.Refusal.TheVariants.{WrongCall, SenderInactive, Broken, Poisoned}
use Rattle.routing.specs.declared.refusal.Refusal.TheVariants.{NoWindow, NoEntry, DestinationInactive, NotPassable}
use Rattle.switch.specs.declared.answer.Sent.{Sent}
use Rattle.routing.specs.declared.rule.Way.{Way}
use Rattle.routing.specs.declared.rule.Way.TheVariants.{Goes, Comes}
use Rattle.routing.specs.Call.{Asked}
use Rattle.routing.specs.Rule.{bus_id, pass_way}
use Rattle.routing.specs.Why.{Entered, going, coming, Why, Holds}
use Rattle.switch.specs.Answer.{Answer, crossed, answered, dropped, sent_of, refused, way_answer, pass_rule}
use Rattle.routing.specs.Refusal.{refusal_number, answers_reads}
use Rattle.routing.proofs.Laws.Exactly.{holds}

-- one of the list's numbers for passing: 1, 2, 4 to 9, and R-4's 31 to 36
abbrev pub Numbered : ℕ → Type 0
Numbered n = ((1 ≤ n) × (n ≤ 2)) ⊎ (((4 ≤ n) × (n ≤ 9)) ⊎ ((31 ≤ n) × (n ≤ 36)))

-- every refusal has one
pub number_listed : (r : Refusal) → Numbered (refusal_number r)
number_listed WrongCall = inl (omega arith)
number_listed SenderInactive = inl (omega arith)
number_listed (Broken r) = inr (⊎_elim (λ e. inl (omega (arith, e))) (λ b. inr b) (form_number r))
number_listed Poisoned = inr (inl (omega arith))
number_listed NoWindow = inr (inl (omega arith))
number_listed NoEntry = inr (inl (omega arith))
number_listed DestinationInactive = inr (inl (omega arith))
number_listed NotPassable = inr (inl (omega arith))

-- reads are answered by 5 to 8 alone
pub answered_number : (r : Refusal) → answers_reads r ≡ true → (5 ≤ refusal_number r) × (refusal_number r ≤ 8)
answered_number WrongCall e = absurd (true≢false (sym e))
answered_number SenderInactive e = absurd (true≢false (sym e))
answered_number (Broken r) e = absurd (true≢false (sym e))
answered_number Poisoned e = omega arith
answered_number NoWindow e = omega arith
answered_number NoEntry e = omega arith
answered_number DestinationInactive e = omega arith
answered_number NotPassable e = absurd (true≢false (sym e))

-- but for 1 and 2, the packet entered
pub why_right : (a : Asked) (r : Refusal) → 3 ≤ refusal_number r → Why a r → Entered a
why_right a WrongCall l e = absurd (omega arith)
why_right a SenderInactive l e = absurd (omega arith)
why_right a (Broken r) l e = e.0
why_right a Poisoned l (going t o e) = o.requests.entered
why_right a Poisoned l (coming id i p e) = p.owned.is_held.mapped.returns.entered
why_right a NoWindow l e = e.0.entered
why_right a NoEntry l (t, m, e) = m.opened.requests.entered
why_right a DestinationInactive l (t, i, n, e) = n.admitted.opened.requests.entered
why_right a NotPassable l e = e.0.entered

-- a read that n refuses, answered with x in the sender's partition
pub record Answers (a : Asked) (n : ℕ) (x : Sent) : Type 0 where
  pub number : (5 ≤ n) × (n ≤ 8)
  pub read : is_read (kind a.head) ≡ true
  pub answer : x ≡ sent_of (answer_to a.head (bus_id (bus_of a.tables.numbers a.sender))) a.sender
  pub entered : Entered a

-- what is said of an answer
abbrev pub Listed : Asked → Answer → Type 0
Listed a (crossed x) = Unit {0}
Listed a (answered n x) = Answers a n x
Listed a (dropped n) = Numbered n × (3 ≤ n → Entered a)

listed_way : (a : Asked) (y : Result Way Refusal) → Holds a y → Listed a (way_answer y a.sender a.head a.tables.numbers)
unfolding refused
listed_way a (Err r) e =
    either (Listed a) (answers_reads r && is_read (kind a.head))
    (λ t.
    let b = both (answers_reads r) (is_read (kind a.head)) t in
    let n = answered_number r b.0 in
    record { number = n; read = b.1; answer = refl; entered = why_right a r (omega (arith, n)) e })
    (λ _. (number_listed r, λ l. why_right a r l e))
listed_way a (Ok (Goes t i)) e = tt
listed_way a (Ok (Comes id i)) e = tt

-- every answer
pub listed : (a : Asked) → Listed a (pass_rule a)
listed a = listed_way a (pass_way a) (holds a)
