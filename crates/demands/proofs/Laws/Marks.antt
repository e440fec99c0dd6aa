-- R-3: what crosses keeps its mark; where no row has the bit no marked packet crosses; and 5 is given to marked packets alone, where the bit
-- of the request's own window, or of every row on the completion's way back, is absent.
-- No rewriting moves the mark; what crossed was admitted by its row; and 5 is one refusal, given exactly where a test of the mark holds. Assumes
-- nothing.
use Prim.Native.Nat.{ℕ, ◌/◌, ◌≤◌}
use mathlib.Core.Path.{◌≡◌, sym, ap, ◌∙◌, subst}
use mathlib.Core.Bool.{Bool, true, false, not, ◌&&◌, true≢false}
use mathlib.Core.Logic.{◌⊎◌, inl, inr, ⊎_elim}
use mathlib.Core.List.{List}
use native.Mathlib.Omega.{arith}
use borrow.Author.Tests.{eqb-true, eqb-false, not-true, not-false}
use Rattle.ground.proofs.Laws.Join.{both}
use Rattle.header.specs.Fields.{is_poisoned, address, completion_requester_id}
use Rattle.tlp.proofs.Laws.Form.{inverted, inverted_completion}
use Rattle.tlp.proofs.Laws.Rules.{carried_request}
use Rattle.rows.specs.Row.{row_of}
use Rattle.look.specs.Look.{CoveredBy, WayTo, NoneChosen}
use Rattle.look.specs.declared.Translation.{Translation}
use Rattle.rows.proofs.Laws.Row.{led}
use Rattle.look.proofs.Laws.Look.{opened, reached_by, reaches_by}
use Rattle.numbers.specs.Buses.{bus_of}
use Rattle.routing.specs.declared.refusal.Refusal.TheVariants.{Poisoned}
use Rattle.switch.specs.declared.answer.Sent.{Sent}
use Rattle.routing.specs.Call.{Call, reached, head_of, size_of, asked}
use Rattle.routing.specs.Rule.{mapped_id}
use Rattle.routing.specs.Why.{IsMarked, going, coming, Why}
use Rattle.switch.specs.Answer.{Answer, crossed, answered, dropped}
use Rattle.switch.specs.After.{answer_of}
use Rattle.switch.proofs.Laws.Paper.{number_determines}
use Rattle.demands.specs.Marks.{MarkKept, NoMarkCrosses, Is5, RequestStopped, CompletionStopped, FiveOnlyThere}
use Rattle.demands.proofs.Laws.CameOut.{came_out_whole}
use Rattle.demands.proofs.Laws.Crossing.{crossed_way, crossed_entered, right}
use Rattle.demands.proofs.Laws.Listed.{Stopped, Listed, listed}
use Rattle.demands.proofs.Laws.Outgoing.{sent_marked}
use Rattle.demands.proofs.Laws.Settled.{passed_by}

-- ---- what crosses

-- it keeps its mark
pub mark_kept : MarkKept
mark_kept c x l e =
    ap is_poisoned (came_out_whole c x l e).header_is
    ∙ ⊎_elim (sent_marked c x l) (λ w. ap (λ (y : Sent). is_poisoned y.header) w.sent) (crossed_way c x e)

-- ---- where no row has the bit

-- no covered address has it,
covered_unchosen : (windows : List ℕ) → NoneChosen windows → (p a : ℕ) (t : Translation) → p ≤ 15 → CoveredBy windows p a t → t.marked ≡ false
covered_unchosen windows none p a t k o = ap (λ (u : Translation). u.marked) o.becomes ∙ none p o.slot k o.slot_lt

-- and there is no way for marked packets
no_marked_way : (windows : List ℕ) → NoneChosen windows → (p q : ℕ) → p ≤ 15 → WayTo windows p q true → ⊥
no_marked_way windows none p q k w = true≢false (sym (led p q true (row_of windows p w.slot) w.leading).2 ∙ none p w.slot k w.slot_lt)

-- who is marked and not stopped passes where the bit is
passes : (marked bit : Bool) → marked ≡ true → (marked && not bit) ≡ false → bit ≡ true
passes true bit m e = not-false bit e
passes false bit m e = absurd (true≢false (sym m))

-- so no marked packet crosses
pub no_mark_crosses : NoMarkCrosses
no_mark_crosses c x none marked e =
    let windows = c.tables.windows in
    let p = (right c (crossed_entered c x (crossed_way c x e))).partition in
    let m = is_poisoned (head_of c) in
    ⊎_elim
    (λ r.
    let bit = r.way.marked in
    true≢false (sym (passes m bit marked r.admitted) ∙ covered_unchosen windows none c.sender (address (head_of c)) r.way p r.window))
    (λ r. no_marked_way windows none r.owner c.sender (omega (arith, r.owner_lt)) (subst (WayTo windows r.owner c.sender) marked r.window))
    (passed_by c x e)

-- ---- 5

-- a marked packet that a test of the mark stopped
stopped_marked : (c : Call) → IsMarked (asked c) → (is_poisoned (head_of c) ≡ true) × (RequestStopped c ⊎ CompletionStopped c)
stopped_marked c (going t o e) =
    let h = head_of c in
    let b = both (is_poisoned h) (not t.marked) e in
    let f = (inverted (size_of c) h h o.requests.request).0 in (
      b.0,
      inl (record {
        request = carried_request h f.carried f.request;
        way = t;
        window = opened c.tables.windows c.sender (address h) t o.opened;
        absent = not-true t.marked b.1;
      }),
    )
stopped_marked c (coming id i p e) =
    let h = head_of c in
    let windows = c.tables.windows in
    let owned = p.owned in
    let mapped = owned.is_held.mapped in
    let chosen : Bool → Bool = reached c.tables (i / 4) c.sender in
    let b = both (is_poisoned h) (not (chosen (is_poisoned h))) e in
    let none : chosen true ≡ false = ap chosen (sym b.0) ∙ not-true (chosen (is_poisoned h)) b.1 in (
      b.0,
      inr (record {
        completion = (inverted_completion (size_of c) h h mapped.returns.completion).0.completion;
        index = i;
        index_lt = omega (arith, mapped.index);
        number = eqb-true (completion_requester_id h) (mapped_id (bus_of c.tables.numbers c.sender) i) mapped.number;
        id = id;
        filled = owned.is_held.held;
        another = eqb-false (i / 4) c.sender owned.another;
        active = owned.owner_active;
        window = reached_by windows (i / 4) c.sender false p.row;
        absent = λ w. true≢false (sym (reaches_by windows (i / 4) c.sender true w) ∙ none);
      }),
    )

-- 5 is one refusal
five_why : (c : Call) (n : ℕ) → Stopped c n → n ≡ 5 → IsMarked (asked c)
five_why c n s e = subst (Why (asked c)) (number_determines s.refusal Poisoned (s.number ∙ e)) s.why

-- every call's answer
pub five_only_there : FiveOnlyThere
five_only_there c five = stopped_marked c (by_answer (answer_of c) (listed c) five)
  where
    by_answer : (a : Answer) → Listed c a → Is5 a → IsMarked (asked c)
    by_answer (crossed x) l e = absurd e
    by_answer (answered n x) l e = five_why c n l.stopped e
    by_answer (dropped n) l e = five_why c n l.stopped e
