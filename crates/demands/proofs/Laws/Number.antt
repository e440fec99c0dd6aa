-- A request that passed, by what came out of it: the number names the bus that it went to and the entry that it went by, and the tag is the
-- request's. What came out has the record's header words, and the laws of the record say so of those. Assumes nothing.
use Prim.Native.Nat.{ℕ, ◌%◌}
use mathlib.Core.Path.{◌≡◌, ap, ◌∙◌}
use mathlib.Core.Logic.{⊎_elim}
use Rattle.header.specs.Words.{header_of}
use Rattle.header.specs.Fields.{kind, requester_id, tag}
use Rattle.tlp.proofs.Laws.Form.{inverted_completion}
use Rattle.tlp.proofs.Laws.Rules.{two_kinds}
use Rattle.numbers.specs.Buses.{bus_of}
use Rattle.switch.specs.declared.answer.Sent.{Sent}
use Rattle.routing.specs.Call.{Call, head_of, size_of}
use Rattle.routing.specs.Rule.{mapped_id}
use Rattle.demands.specs.Call.{came_out, Passed}
use Rattle.demands.specs.Demand3.{number_out, tag_out}
use Rattle.demands.proofs.Laws.Crossing.{Went, Came, crossed_way}
use Rattle.demands.proofs.Laws.Outgoing.{sent_requester, sent_tag, sent_index}
use Rattle.demands.proofs.Laws.CameOut.{came_out_whole}

-- what came back is a completion
came_completion : (c : Call) (x : Sent) → Passed c x → Came c x → ⊥
came_completion c x p w =
    let form = w.holds.0.owned.is_held.mapped.returns.completion in
    two_kinds (kind (head_of c)) p.request (inverted_completion (size_of c) (head_of c) (head_of c) form).0.completion

module _ (c : Call) (x : Sent) (p : Passed c x) where
  -- so a request that passed went over
  pub passed_went : Went c x
  passed_went = ⊎_elim (λ w. w) (λ w. absurd (came_completion c x p w)) (crossed_way c x p.went)

  -- the header words that came out
  words_out : header_of (came_out c x) ≡ x.header
  words_out = (came_out_whole c x p.lent p.went).header_is

  -- the number is that of bus and index
  pub number_out_lem : number_out c x ≡ mapped_id (bus_of c.tables.numbers passed_went.way.destination) passed_went.index
  number_out_lem = ap requester_id words_out ∙ sent_requester c x p.lent passed_went

  -- the index is read off it
  pub index_out : number_out c x % 64 ≡ passed_went.index
  index_out = ap (λ (n : ℕ). n % 64) (ap requester_id words_out) ∙ sent_index c x p.lent passed_went

  -- the tag is the request's
  pub tag_out_lem : tag_out c x ≡ tag (head_of c)
  tag_out_lem = ap tag words_out ∙ sent_tag c x p.lent passed_went
