-- R-1, a flush: one dword of which no byte is enabled. It breaks no rule on enables, gaps or pages, its byte count is 1, and its
-- lower address is the address's own.
-- The tests, computed at Length 1 and enables 0; an address is a multiple of 4, so one dword stays in its page. Assumes nothing.
use Prim.Native.Nat.{ℕ, ◌+◌, ◌*◌, ◌%◌, ◌^◌, ◌≤◌}
use mathlib.Core.Path.{◌≡◌, ap, ◌∙◌}
use mathlib.Core.Bool.{false, not, ◌&&◌, ◌||◌}
use native.Mathlib.Omega.{arith}
use native.Mathlib.Nat.{add-zero}
use borrow.Author.Tests.{le-ltb}
use lib.Dec.{eqb}
use Rattle.ground.specs.Pick.{pick}
use Rattle.ground.specs.Field.{field, place}
use Rattle.header.specs.Kind.{is_completion}
use Rattle.header.specs.Fields.{kind, dwords, last_enables, first_enables, high_word, low_word, address}
use Rattle.tlp.specs.Form.{too_short, not_carried, wrong_length, enables_broken, reaches_up, reaches_down, contiguity_broken, crosses_page, zero_high_word}
use Rattle.count.specs.Count.{lowest, byte_count_of, byte_count, lower_address}
use Rattle.header.specs.declared.words.Header.{Header}
use Rattle.tlp.proofs.Laws.Form.{WellFormed}

-- one dword at a multiple of 4 stays in its page
one_in_page : (x y : ℕ) → (place 32 x + place 2 y) % 2 ^ 12 + 4 * 1 ≤ 2 ^ 12
one_in_page x y = omega arith

module _ (h : Header) (one : dwords h ≡ 1) (first : first_enables h ≡ 0) where
  -- "the byte count is 1"
  pub flush_count : byte_count h ≡ 1
  unfolding pick byte_count_of
  flush_count =
      ap (λ (n : ℕ). byte_count_of n (first_enables h) (last_enables h)) one
      ∙ ap (λ (e : ℕ). byte_count_of 1 e (last_enables h)) first

  -- "the low two bits of the lower address are 0": it is bits 6:2 of the address, and no place is added
  pub flush_lower : lower_address h ≡ place 2 (field 2 5 (address h))
  unfolding pick
  flush_lower = ap (λ (e : ℕ). place 2 (field 2 5 (address h)) + lowest e) first ∙ add-zero (place 2 (field 2 5 (address h)))

  -- no enables are broken where the last are 0 too
  pub flush_enables : last_enables h ≡ 0 → enables_broken h ≡ false
  unfolding pick
  flush_enables last =
      ap (λ (k : ℕ). pick (eqb k 1) (not (eqb (last_enables h) 0)) (eqb (first_enables h) 0 || eqb (last_enables h) 0)) one
      ∙ ap (λ (e : ℕ). not (eqb e 0)) last

  -- no contiguity is asked of one dword
  pub flush_contiguous : contiguity_broken h ≡ false
  flush_contiguous =
      ap
      (λ (k : ℕ). not (eqb k 1 || (eqb k 2 && eqb (address h % 2 ^ 3) 0)) && not (reaches_up (first_enables h) && reaches_down (last_enables h)))
      one

  -- and it crosses no page
  pub flush_paged : crosses_page h ≡ false
  flush_paged = le-ltb (2 ^ 12) (address h % 2 ^ 12 + 4 * dwords h) (rw one (one_in_page (high_word h) (field 2 30 (low_word h))))

  -- so of the rules of form only those remain that look at no enables, no gaps and no page
  pub flush_form : (n : ℕ) → last_enables h ≡ 0 → too_short n ≡ false → not_carried h ≡ false → wrong_length n h ≡ false → is_completion (kind h) ≡ false
      → zero_high_word h ≡ false → WellFormed n h
  flush_form n last long carried whole request high =
      record {
        long = long;
        carried = carried;
        whole = whole;
        request = request;
        enables = flush_enables last;
        contiguous = flush_contiguous;
        paged = flush_paged;
        high = high;
      }
