-- A refusal is one of the list's: a read alone is answered, by 5 to 8 and with the answer to it; what is dropped is dropped by 1, 2, 4 to 9
-- or 31 to 36, and a read by none of 5 to 9; and but for 1 and 2 the call had entered. By clauses on the refusal, with what holds where the
-- rule's one walk ends at it. Assumes nothing.
use Rattle.std.specs.Prelude.{Result, Ok, Err}
use Prim.Native.Nat.{ℕ, ◌≤◌}
use mathlib.Core.Path.{◌≡◌, refl, sym, ap, ◌∙◌}
use mathlib.Core.Bool.{Bool, true, ◌&&◌, ◌||◌, true≢false}
use mathlib.Core.Logic.{inl, inr, ⊎_elim}
use native.Mathlib.Omega.{arith}
use Rattle.ground.proofs.Laws.Join.{both}
use Rattle.ground.proofs.Laws.Pick.{either}
use Rattle.header.specs.Kind.{is_read, is_write}
use Rattle.header.specs.Fields.{kind}
use Rattle.count.specs.Count.{answer_to}
use Rattle.tlp.proofs.Laws.Form.{inverted_completion}
use Rattle.tlp.proofs.Laws.Rules.{form_number, no_rule, two_kinds}
use Rattle.numbers.specs.Buses.{bus_of}
use Rattle.routing.specs.declared.refusal.Refusal.{Refusal}
use Rattle.routing.specs.declared.refusal.Refusal.TheVariants.{WrongCall, SenderInactive, Broken, Poisoned}
use Rattle.routing.specs.declared.refusal.Refusal.TheVariants.{NoWindow, NoEntry, DestinationInactive, NotPassable}
use Rattle.switch.specs.declared.answer.Sent.{Sent}
use Rattle.routing.specs.declared.rule.Way.{Way}
use Rattle.routing.specs.declared.rule.Way.TheVariants.{Goes, Comes}
use Rattle.routing.specs.Call.{Asked, Call, head_of, asked}
use Rattle.routing.specs.Rule.{bus_id, pass_way}
use Rattle.routing.specs.Why.{Entered, going, coming, Why, Holds}
use Rattle.switch.specs.Answer.{Answer, crossed, answered, dropped, sent_of, refused, way_answer}
use Rattle.routing.specs.Refusal.{refusal_number, answers_reads}
use Rattle.switch.specs.After.{answer_of}
use Rattle.routing.proofs.Laws.Exactly.{holds}
use Rattle.demands.specs.Demand1.{OnList}

-- every refusal has a number of the list
pub number_listed : (r : Refusal) → OnList (refusal_number r)
number_listed WrongCall = inl (omega arith)
number_listed SenderInactive = inl (omega arith)
number_listed (Broken r) = inr (⊎_elim (λ e. inl (omega (arith, e))) (λ b. inr b) (form_number r))
number_listed Poisoned = inr (inl (omega arith))
number_listed NoWindow = inr (inl (omega arith))
number_listed NoEntry = inr (inl (omega arith))
number_listed DestinationInactive = inr (inl (omega arith))
number_listed NotPassable = inr (inl (omega arith))

-- those that answer reads are 5 to 8
pub answered_number : (r : Refusal) → answers_reads r ≡ true → (5 ≤ refusal_number r) × (refusal_number r ≤ 8)
answered_number WrongCall e = absurd (true≢false (sym e))
answered_number SenderInactive e = absurd (true≢false (sym e))
answered_number (Broken r) e = absurd (true≢false (sym e))
answered_number Poisoned e = omega arith
answered_number NoWindow e = omega arith
answered_number NoEntry e = omega arith
answered_number DestinationInactive e = omega arith
answered_number NotPassable e = absurd (true≢false (sym e))

-- but for 1 and 2 the call had entered
pub why_entered : (a : Asked) (r : Refusal) → 3 ≤ refusal_number r → Why a r → Entered a
why_entered a WrongCall l w = absurd (omega (arith, l))
why_entered a SenderInactive l w = absurd (omega (arith, l))
why_entered a (Broken r) l w = w.0
why_entered a Poisoned l (going t o e) = o.requests.entered
why_entered a Poisoned l (coming id i p e) = p.owned.is_held.mapped.returns.entered
why_entered a NoWindow l w = w.0.entered
why_entered a NoEntry l (t, m, e) = m.opened.requests.entered
why_entered a DestinationInactive l (t, i, n, e) = n.admitted.opened.requests.entered
why_entered a NotPassable l w = w.0.entered

-- a read that 5 to 9 refuse is answered: 5 to 8 answer reads, and 9 is a completion's
pub read_answered : (a : Asked) (r : Refusal) → Why a r → 5 ≤ refusal_number r → refusal_number r ≤ 9 → is_read (kind a.head) ≡ true
    → (answers_reads r && is_read (kind a.head)) ≡ true
read_answered a WrongCall w l m e = absurd (omega (arith, l))
read_answered a SenderInactive w l m e = absurd (omega (arith, l))
read_answered a (Broken r) w l m e = absurd (no_rule r _ (omega (arith, m)) (λ z. omega (arith, z, l)) refl)
read_answered a Poisoned w l m e = e
read_answered a NoWindow w l m e = e
read_answered a NoEntry w l m e = e
read_answered a DestinationInactive w l m e = e
read_answered a NotPassable w l m e =
    let k = kind a.head in
    absurd (two_kinds k (ap (λ (t : Bool). t || is_write k) e) (inverted_completion a.size a.head a.head w.0.completion).0.completion)

-- a call that was refused by n: by which refusal, and why
pub record Stopped (c : Call) (n : ℕ) : Type 0 where
  pub refusal : Refusal
  pub number : refusal_number refusal ≡ n
  pub why : Why (asked c) refusal

-- a read that n refuses, answered with x in the sender's partition
pub record Answers (c : Call) (n : ℕ) (x : Sent) : Type 0 where
  pub stopped : Stopped c n
  pub from_5 : 5 ≤ n
  pub to_8 : n ≤ 8
  pub read : is_read (kind (head_of c)) ≡ true
  pub answer : x ≡ sent_of (answer_to (head_of c) (bus_id (bus_of c.tables.numbers c.sender))) c.sender
  pub entered : Entered (asked c)

-- a packet that n drops: no read, where n is 5 to 9
pub record Drops (c : Call) (n : ℕ) : Type 0 where
  pub stopped : Stopped c n
  pub listed : OnList n
  pub entered : 3 ≤ n → Entered (asked c)
  pub no_read : 5 ≤ n → n ≤ 9 → is_read (kind (head_of c)) ≡ true → ⊥

-- what is said of the answer to a call
abbrev pub Listed : Call → Answer → Type 0
Listed c (crossed x) = Unit {0}
Listed c (answered n x) = Answers c n x
Listed c (dropped n) = Drops c n

-- of a refusal
refused_listed : (c : Call) (r : Refusal) → Why (asked c) r → Listed c (refused r c.sender (bus_of c.tables.numbers c.sender) (head_of c))
unfolding refused
refused_listed c r w =
    let s : Stopped c (refusal_number r) = record { refusal = r; number = refl; why = w } in
    let read = is_read (kind (head_of c)) in
    either (Listed c) (answers_reads r && read)
    (λ e.
    let b = both (answers_reads r) read e in
    let n = answered_number r b.0 in
    record { stopped = s; from_5 = n.0; to_8 = n.1; read = b.1; answer = refl; entered = why_entered (asked c) r (omega (arith, n.0)) w })
    (λ e.
    record {
      stopped = s;
      listed = number_listed r;
      entered = λ l. why_entered (asked c) r l w;
      no_read = λ l m q. true≢false (sym (read_answered (asked c) r w l m q) ∙ e);
    })

-- of every call
pub listed : (c : Call) → Listed c (answer_of c)
listed c = by_way (pass_way (asked c)) (holds (asked c))
  where
    by_way : (y : Result Way Refusal) → Holds (asked c) y → Listed c (way_answer y c.sender (head_of c) c.tables.numbers)
    by_way (Err r) w = refused_listed c r w
    by_way (Ok (Goes t i)) w = tt
    by_way (Ok (Comes id i)) w = tt
