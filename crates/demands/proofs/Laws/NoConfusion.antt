-- Demand 3, no confusion: two requests that passed, in any two states, and came out with one requester number and one tag, were sent from one
-- partition by one requester with one tag, where the mapping entry that the number names is the same in both states. The number holds the
-- index, the index the partition and the entry, and the entry the ID; the tag is kept. Windows, buses, logs and destinations may differ between
-- the two. Assumes nothing.
use Prim.Native.Nat.{ℕ, ◌+◌, ◌*◌, ◌%◌, ◌<◌}
use mathlib.Core.Path.{◌≡◌, sym, ap, ◌∙◌}
use native.Mathlib.Omega.{arith}
use lib.ListN.{get_or}
use Rattle.header.specs.Fields.{requester_id}
use Rattle.numbers.specs.Entries.{look_at, entry_at}
use Rattle.switch.specs.declared.answer.Sent.{Sent}
use Rattle.routing.specs.Call.{Call, head_of}
use Rattle.demands.specs.Call.{Passed}
use Rattle.demands.specs.Demand3.{number_out, tag_out, OneSender, NoConfusion}
use Rattle.demands.proofs.Laws.Crossing.{went_filled}
use Rattle.demands.proofs.Laws.Number.{passed_went, index_out, tag_out_lem}
use Rattle.numbers.specs.declared.entries.Entry.TheVariants.{Held}

-- one held entry, one ID
one_id : (a b : ℕ) → Held a ≡ Held b → a ≡ b
one_id a b e = cc

-- equal indices are of one partition
same_partition : (p q s r i j : ℕ) → s < 4 → r < 4 → i ≡ 4 * p + s → j ≡ 4 * q + r → i ≡ j → p ≡ q
same_partition p q s r i j a b c d e = omega arith

-- where the one entry that the number names is unchanged
pub no_confusion_at : (a b : Call) (x y : Sent) → Passed a x → Passed b y
    → get_or a.tables.numbers (number_out a x % 64) 0 ≡ get_or b.tables.numbers (number_out a x % 64) 0
    → number_out a x ≡ number_out b y → tag_out a x ≡ tag_out b y → OneSender a b
no_confusion_at a b x y p q same same_number same_tag =
    let t = passed_went a x p in
    let u = passed_went b y q in
    let f = went_filled a x t in
    let g = went_filled b y u in
    let i : number_out a x % 64 ≡ t.index = index_out a x p in
    let j : number_out a x % 64 ≡ u.index = ap (λ (n : ℕ). n % 64) same_number ∙ index_out b y q in
    let entry : entry_at a.tables.numbers t.index ≡ entry_at b.tables.numbers u.index =
    ap (entry_at a.tables.numbers) (sym i) ∙ ap look_at same ∙ ap (entry_at b.tables.numbers) j in
    record {
      one_partition =
          same_partition a.sender b.sender f.slot g.slot t.index u.index f.slot_lt g.slot_lt f.index_is g.index_is
          (sym i ∙ j);
      one_requester = one_id (requester_id (head_of a)) (requester_id (head_of b)) (sym f.held ∙ entry ∙ g.held);
      one_tag = sym (tag_out_lem a x p) ∙ same_tag ∙ tag_out_lem b y q;
    }

-- the demand's sentence: where the mapping entries are unchanged; that the two passed into one partition is not needed
pub no_confusion : NoConfusion
no_confusion a b x y p q _ same = no_confusion_at a b x y p q (same (number_out a x % 64) (omega arith))
