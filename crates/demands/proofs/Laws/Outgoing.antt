-- The number, the tag, the mark and the Length that a request goes over with, as its record's header words say them, and the bounds they rest
-- on. A covered address fits 64 bits and keeps its low twelve, a bus of an active partition fits eight, an index six; the rewriting's laws give
-- the fields. Assumes nothing.
use Prim.Native.Nat.{ℕ, ◌+◌, ◌%◌, ◌^◌, ◌≤◌, ◌<◌}
use mathlib.Core.Path.{◌≡◌, ap, ◌∙◌}
use native.Mathlib.Omega.{arith}
use lib.Dec.{eqb}
use Rattle.ground.specs.Pick.{pick}
use Rattle.ground.specs.Field.{field}
use Rattle.header.specs.Fields.{is_poisoned, dwords, requester_id, tag, address}
use Rattle.header.specs.Rewrite.{readdressed}
use Rattle.header.specs.declared.words.Header.{Header}
use Rattle.header.proofs.Laws.Rewrite.{renamed_requester, renamed_keeps, readdressed_keeps_low, readdressed_word_1}
use Rattle.rows.specs.Row.{row_at}
use Rattle.look.specs.declared.Translation.{Translation}
use Rattle.look.proofs.Laws.Look.{opened, covered_lt, covered_page}
use Rattle.numbers.specs.Buses.{bus_of}
use Rattle.switch.specs.declared.answer.Sent.{Sent}
use Rattle.routing.specs.Call.{Covered, Call, head_of}
use Rattle.routing.specs.Rule.{mapped_id}
use Rattle.routing.proofs.Laws.Call.{bus_lt, mapped_lt, mapped_index}
use Rattle.demands.specs.Call.{Lent}
use Rattle.demands.proofs.Laws.Crossing.{Went, went_filled}

module _ (c : Call) (x : Sent) (l : Lent c) (w : Went c x) where
  -- its header words
  abbrev h : Header
  h = head_of c

  -- the way that it went
  abbrev t : Translation
  t = w.way

  -- the number that it goes out under
  abbrev pub number_over : ℕ
  number_over = mapped_id (bus_of c.tables.numbers t.destination) w.index

  -- its address was covered
  pub went_covered : Covered c.tables c.sender (address h) t
  went_covered = opened c.tables.windows c.sender (address h) t w.named.admitted.opened.opened

  -- the translated address fits 64 bits
  pub translation_lt : t.address < 2 ^ 64
  translation_lt =
      let o = went_covered in
      covered_lt c.tables.windows c.sender (address h) t o (l.words (row_at c.sender o.slot + 1))

  -- and keeps its low twelve bits
  pub translation_pages : t.address % 2 ^ 12 ≡ address h % 2 ^ 12
  translation_pages = covered_page c.tables.windows c.sender (address h) t went_covered

  -- the number is of 16 bits
  pub number_lt : number_over < 2 ^ 16
  number_lt =
      let bus = bus_of c.tables.numbers t.destination in
      mapped_lt bus w.index (bus_lt c.tables.numbers t.destination w.reached) (went_filled c x w).index_lt

  -- the requester ID of the record is that number
  pub sent_requester : requester_id x.header ≡ number_over
  sent_requester = ap (λ (y : Sent). requester_id y.header) w.sent ∙ renamed_requester (readdressed h t.address) number_over number_lt

  -- every field of the record's word 1 below the requester ID is the request's
  pub sent_keeps : (i j : ℕ) → j + i ≤ 16 → field i j x.header.w1 ≡ field i j h.w1
  sent_keeps i j b =
      ap (λ (y : Sent). field i j y.header.w1) w.sent
      ∙ renamed_keeps (readdressed h t.address) number_over number_lt i j b
      ∙ ap (field i j) (readdressed_word_1 h t.address translation_lt)

  -- so is the tag
  pub sent_tag : tag x.header ≡ tag h
  sent_tag = sent_keeps 8 8 (omega arith)

  -- and the mark, in word 0
  pub sent_marked : is_poisoned x.header ≡ is_poisoned h
  sent_marked =
      ap (λ (y : Sent). is_poisoned y.header) w.sent
      ∙ ap (λ (k : ℕ). eqb k 1) (readdressed_keeps_low h t.address translation_lt 14 1 (omega arith))

  -- and the Length, in word 0
  pub sent_dwords : dwords x.header ≡ dwords h
  sent_dwords =
      ap (λ (y : Sent). dwords y.header) w.sent
      ∙ ap (λ (k : ℕ). pick (eqb k 0) 1024 k) (readdressed_keeps_low h t.address translation_lt 0 10 (omega arith))

  -- the index is what the record's requester ID says
  pub sent_index : requester_id x.header % 64 ≡ w.index
  sent_index = ap (λ (n : ℕ). n % 64) sent_requester ∙ mapped_index (bus_of c.tables.numbers t.destination) w.index (went_filled c x w).index_lt
