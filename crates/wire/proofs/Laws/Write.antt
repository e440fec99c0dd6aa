-- The laws of `over`: what it writes and leaves, that a write to a part of a slice is it and so are stores byte by byte, and
-- that two writes side by side are one, and that two writes apart may change places; and of packets as lists of bytes: how long they
-- are, that their parts in a row or in the order of the code make one, and that the words read from them are those written.
-- A buffer is what lies before, what is written, and what lies beyond; each law takes these parts apart. Assumes nothing.
use Prim.Native.Nat.{ℕ, ◌+◌, ◌-◌, ◌≤◌, ◌<◌}
use mathlib.Core.Path.{◌≡◌, refl, sym, ap, ◌∙◌}
use mathlib.Core.Bool.{Bool, true, false}
use mathlib.Core.List.{List, [], ◌++◌, append_assoc}
use native.Mathlib.Omega.{arith}
use native.Mathlib.Nat.{add_assoc, zero-add, add-zero}
use Rattle.std.proofs.lemmas.Bool.Decides.{nat_tests}
use lib.ListN.{length, take, drop, length-append, length-take, length-drop, take-append-drop}
use lib.Seq.{take_at, drop_at, take-append-le, drop-append-le, take-append-add, drop-append-add, take-take, drop-drop, take-add}
use lib.Seq.{length-take-le, take-length, paste}
use Rattle.std.proofs.lemmas.List.Edits.{paste_all, paste_more}
use borrow.Rule.Slice.PartMut.{put_mid}
use Rattle.std.proofs.lemmas.Slice.{put_mid-paste, take-put_mid, drop-put_mid}
use Rattle.ground.specs.Pick.{pick}
use Rattle.header.specs.Kind.{has_four_words, header_bytes}
use Rattle.header.specs.Words.{word_at, fourth_word, header_of, word_bytes}
use Rattle.header.specs.Fields.{kind}
use Rattle.wire.specs.Write.{over, three_words, header_list, packet_list, written_bytes}
use Rattle.header.specs.declared.words.Header.{Header}
use Rattle.ground.proofs.Laws.Pick.{hit, pass, either, decide}
use Rattle.header.proofs.Laws.Lengths.{header_bounds, header_16}
use Rattle.header.proofs.Laws.Words.{Proper, words_equal, word_back, be_bytes}

module _ (o : List ℕ) (at : ℕ) (xs : List ℕ) where
  -- where the bytes fit they stand between what lies before and what lies beyond
  pub over_fits : at + length xs ≤ length o → over o at xs ≡ take at o ++ (xs ++ drop (at + length xs) o)
  unfolding over pick
  over_fits h = grind (arith, nat_tests)

  -- where they do not fit nothing is written
  pub over_short : length o < at + length xs → over o at xs ≡ o
  unfolding over pick
  over_short h = grind (arith, nat_tests)

  -- the buffer keeps its length
  pub length_over : length (over o at xs) ≡ length o
  unfolding over pick
  length_over = grind (arith, nat_tests, length-append {A = ℕ}, length-take {A = ℕ}, length-drop {A = ℕ})

-- writing nothing changes nothing
pub over_none : (o : List ℕ) (at : ℕ) → over o at [] ≡ o
unfolding over pick
over_none o at = grind (arith, take-append-drop {A = ℕ}, add-zero)

-- it is what a write to a part of a slice leaves
pub put_over : (o : List ℕ) (at k : ℕ) (xs ys : List ℕ) → ys ≡ xs → k ≡ length xs → at + length xs ≤ length o → put_mid at k o ys ≡ over o at xs
put_over o at k xs ys e n h =
    put_mid-paste at k o ys xs (length xs) e (sym n) refl
    ∙ ap (λ (l : List ℕ). take at o ++ l ++ drop (at + length xs) o) (take-length xs)
    ∙ append_assoc (take at o) xs (drop (at + length xs) o)
    ∙ sym (over_fits o at xs h)

-- and it is what the last of the stores byte by byte leaves
pub paste_over : (o : List ℕ) (at : ℕ) (xs : List ℕ) (n : ℕ) → n ≡ length xs → at + length xs ≤ length o → paste o at xs n ≡ over o at xs
paste_over o at xs n e h =
    paste_all o at xs n e ∙ ap (λ (k : ℕ). take at o ++ (xs ++ drop (at + k) o)) e ∙ sym (over_fits o at xs h)

-- two writes, the second where the first ends, are one
pub over_over : (o : List ℕ) (at : ℕ) (xs ys : List ℕ) → at + length xs + length ys ≤ length o → over (over o at xs) (at + length xs) ys ≡ over o at (xs ++ ys)
over_over o at xs ys h =
    let mid : ℕ = at + length xs in
    let end : ℕ = at + length (xs ++ ys) in
    let sum : mid + length ys ≡ end = add_assoc at (length xs) (length ys) ∙ ap (λ (n : ℕ). at + n) (sym (length-append xs ys)) in
    let part : over o at xs ≡ put_mid at (length xs) o xs = sym (put_over o at (length xs) xs xs refl refl (omega arith)) in
    let kept : take mid (over o at xs) ≡ take at o ++ xs = ap (take mid) part ∙ take-put_mid at (length xs) o xs mid refl (omega arith) in
    let beyond : drop (mid + length ys) (over o at xs) ≡ drop end o =
    ap (drop (mid + length ys)) part ∙ drop-put_mid at (length xs) o xs (mid + length ys) (omega arith) (omega arith) refl ∙ ap (λ (n : ℕ). drop n o) sum in
    over_fits (over o at xs) mid ys (rw length_over h)
    ∙ ap (λ (l : List ℕ). l ++ (ys ++ drop (mid + length ys) (over o at xs))) kept
    ∙ ap (λ (l : List ℕ). take at o ++ xs ++ (ys ++ l)) beyond
    ∙ append_assoc (take at o) xs (ys ++ drop end o)
    ∙ ap (λ (l : List ℕ). take at o ++ l) (sym (append_assoc xs ys (drop end o)))
    ∙ sym (over_fits o at (xs ++ ys) (omega arith))

-- two writes to places apart, the one before the other, in either order
pub over_apart : (o : List ℕ) (a b : ℕ) (xs ys : List ℕ) → a + length xs ≤ b → b + length ys ≤ length o → over (over o a xs) b ys ≡ over (over o b ys) a xs
over_apart o a b xs ys h k =
    let e : ℕ = a + length xs in
    let d : ℕ = b - e in
    let sum : b ≡ e + d = omega arith in
    let q : List ℕ = drop (b + length ys) o in
    let r : List ℕ = drop e o in
    let before : length (take a o ++ xs) ≡ e = length-append (take a o) xs ∙ ap (λ (n : ℕ). n + length xs) (length-take-le a o (omega arith)) in
    let first : over o a xs ≡ take a o ++ xs ++ r = over_fits o a xs (omega arith) ∙ sym (append_assoc (take a o) xs r) in
    let second : over o b ys ≡ take b o ++ (ys ++ q) = over_fits o b ys k in
    let kept : take b (over o a xs) ≡ take a o ++ xs ++ take d r =
    ap (take b) first
    ∙ ap (λ (n : ℕ). take n (take a o ++ xs ++ r)) (sum ∙ ap (λ (n : ℕ). n + d) (sym before))
    ∙ take-append-add (take a o ++ xs) r d in
    let past : b + length ys ≡ e + (d + length ys) = ap (λ (n : ℕ). n + length ys) sum ∙ add_assoc e d (length ys) in
    let beyond : drop (b + length ys) (over o a xs) ≡ q =
    ap (drop (b + length ys)) first
    ∙ ap (λ (n : ℕ). drop n (take a o ++ xs ++ r)) (past ∙ ap (λ (n : ℕ). n + (d + length ys)) (sym before))
    ∙ drop-append-add (take a o ++ xs) r (d + length ys)
    ∙ drop-drop (d + length ys) e o
    ∙ ap (λ (n : ℕ). drop n o) (sym past) in
    let low : take a (over o b ys) ≡ take a o =
    ap (take a) second ∙ take-append-le a (take b o) (ys ++ q) (rw (length-take-le b o (omega arith)) (omega arith)) ∙ take-take a b o (omega arith) in
    let between : drop e (take b o) ≡ take d r =
    ap (λ (n : ℕ). drop e (take n o)) sum ∙ ap (drop e) (take-add e d o) ∙ drop_at (take e o) (take d r) e (length-take-le e o (omega arith)) in
    let high : drop e (over o b ys) ≡ take d r ++ (ys ++ q) =
    ap (drop e) second
    ∙ drop-append-le e (take b o) (ys ++ q) (rw (length-take-le b o (omega arith)) (omega arith))
    ∙ ap (λ (l : List ℕ). l ++ (ys ++ q)) between in
    over_fits (over o a xs) b ys (rw length_over k)
    ∙ ap (λ (l : List ℕ). l ++ (ys ++ drop (b + length ys) (over o a xs))) kept
    ∙ ap (λ (l : List ℕ). take a o ++ xs ++ take d r ++ (ys ++ l)) beyond
    ∙ append_assoc (take a o ++ xs) (take d r) (ys ++ q)
    ∙ append_assoc (take a o) xs (take d r ++ (ys ++ q))
    ∙ ap (λ (l : List ℕ). take a o ++ (xs ++ l)) (sym high)
    ∙ ap (λ (l : List ℕ). l ++ (xs ++ drop e (over o b ys))) (sym low)
    ∙ sym (over_fits (over o b ys) a xs (rw length_over (omega arith)))

-- what was written at the start is read there
pub take_over : (o xs : List ℕ) → length xs ≤ length o → take (length xs) (over o 0 xs) ≡ xs
take_over o xs h =
    ap (take (length xs)) (over_fits o 0 xs (omega arith)) ∙ take_at xs (drop (0 + length xs) o) (length xs) refl

-- and what lies beyond is as it was
pub drop_over : (o xs : List ℕ) → length xs ≤ length o → drop (length xs) (over o 0 xs) ≡ drop (length xs) o
drop_over o xs h =
    ap (drop (length xs)) (over_fits o 0 xs (omega arith))
    ∙ drop_at xs (drop (0 + length xs) o) (length xs) refl
    ∙ ap (λ (n : ℕ). drop n o) (zero-add (length xs))

-- a header of four words, and one of three
pub with_fourth : (h : Header) → has_four_words (kind h) ≡ true → header_list h ≡ three_words h ++ word_bytes h.w3
unfolding header_list pick
with_fourth h e = rw e

pub without_fourth : (h : Header) → has_four_words (kind h) ≡ false → header_list h ≡ three_words h
unfolding header_list pick
without_fourth h e = rw e

-- a header's bytes are as many as its kind says
pub length_header : (h : Header) → length (header_list h) ≡ header_bytes (kind h)
unfolding header_list pick
length_header h = grind (arith, length-append {A = ℕ})

-- a packet is as long as its header and its data
pub length_packet : (h : Header) (payload : List ℕ) → length (packet_list h payload) ≡ header_bytes (kind h) + length payload
length_packet h payload = length-append (header_list h) payload ∙ ap (λ (n : ℕ). n + length payload) (length_header h)

-- a header written word by word: k after the first word, l after the second, m after the third, r after the fourth or none
pub header_over : (h : Header) (o k l m r : List ℕ)
    → k ≡ over o 0 (word_bytes h.w0) → l ≡ over k 4 (word_bytes h.w1) → m ≡ over l 8 (word_bytes h.w2)
    → r ≡ over m 12 (pick (has_four_words (kind h)) (word_bytes h.w3) []) → header_bytes (kind h) ≤ length o → r ≡ over o 0 (header_list h)
unfolding header_list
header_over h o k l m r p-k p-l p-m p-r fits =
    let w0 : List ℕ = word_bytes h.w0 in
    let w1 : List ℕ = word_bytes h.w1 in
    let w2 : List ℕ = word_bytes h.w2 in
    let w3 : List ℕ = pick (has_four_words (kind h)) (word_bytes h.w3) [] in
    let room : 12 + length w3 ≤ length o = omega (arith, length_header h) in
    let two : l ≡ over o 0 (w0 ++ w1) = p-l ∙ ap (λ (x : List ℕ). over x 4 w1) p-k ∙ over_over o 0 w0 w1 (omega arith) in
    let three : m ≡ over o 0 (three_words h) = p-m ∙ ap (λ (x : List ℕ). over x 8 w2) two ∙ over_over o 0 (w0 ++ w1) w2 (omega arith) in
    p-r ∙ ap (λ (x : List ℕ). over x 12 w3) three ∙ over_over o 0 (three_words h) w3 room

-- data written where the header ends make the packet
pub data_over : (h : Header) (payload o : List ℕ) → header_bytes (kind h) + length payload ≤ length o
    → over (over o 0 (header_list h)) (header_bytes (kind h)) payload ≡ over o 0 (packet_list h payload)
data_over h payload o fits =
    ap (λ (i : ℕ). over (over o 0 (header_list h)) i payload) (sym (length_header h) ∙ sym (zero-add (length (header_list h))))
    ∙ over_over o 0 (header_list h) payload (omega (arith, length_header h))

-- a packet written in parts: k after the first word and the fourth, l after the second too, m after the data, r after the third
pub packet_over : (h : Header) (payload o k l m r : List ℕ)
    → k ≡ over (over o 0 (word_bytes h.w0)) 12 (pick (has_four_words (kind h)) (word_bytes h.w3) [])
    → l ≡ over k 4 (word_bytes h.w1) → m ≡ over l (header_bytes (kind h)) payload → r ≡ over m 8 (word_bytes h.w2)
    → header_bytes (kind h) + length payload ≤ length o → r ≡ over o 0 (packet_list h payload)
unfolding header_list
packet_over h payload o k l m r p-k p-l p-m p-r fits =
    let n : ℕ = header_bytes (kind h) in
    let w0 : List ℕ = word_bytes h.w0 in
    let w1 : List ℕ = word_bytes h.w1 in
    let w2 : List ℕ = word_bytes h.w2 in
    let w3 : List ℕ = pick (has_four_words (kind h)) (word_bytes h.w3) [] in
    let one : List ℕ = over o 0 w0 in
    let two : List ℕ = over one 4 w1 in
    let size : n ≡ 12 + length w3 = omega (arith, length_header h) in
    let room : 12 + length w3 ≤ length o = omega arith in
    let in_one : length one ≡ length o = length_over o 0 w0 in
    let in_two : length two ≡ length o = length_over one 4 w1 ∙ in_one in
    let in_l : length l ≡ length o = ap length p-l ∙ length_over k 4 w1 ∙ ap length p-k ∙ length_over one 12 w3 ∙ in_one in
    let after-1 : l ≡ over two 12 w3 =
    p-l ∙ ap (λ (x : List ℕ). over x 4 w1) p-k ∙ sym (over_apart one 4 12 w1 w3 (omega arith) (rw in_one room)) in
    let after-2 : over l 8 w2 ≡ over o 0 (header_list h) =
    ap (λ (x : List ℕ). over x 8 w2) after-1
    ∙ sym (over_apart two 8 12 w2 w3 (omega arith) (rw in_two room))
    ∙ header_over h o one two (over two 8 w2) (over (over two 8 w2) 12 w3) refl refl refl refl (omega arith) in
    p-r ∙ ap (λ (x : List ℕ). over x 8 w2) p-m
    ∙ sym (over_apart l 8 n w2 payload (omega (arith, header_bounds (kind h))) (rw in_l fits))
    ∙ ap (λ (x : List ℕ). over x n payload) after-2
    ∙ data_over h payload o fits

-- all of a packet is written, or none of it
pub written_fits : (n : ℕ) (xs : List ℕ) → length xs ≤ n → written_bytes n xs ≡ length xs
unfolding pick
written_fits n xs h = grind (arith, nat_tests)

pub written_short : (n : ℕ) (xs : List ℕ) → n < length xs → written_bytes n xs ≡ 0
unfolding pick
written_short n xs h = grind (arith, nat_tests)

-- the words that are read from a written packet are those that were written
pub read_back : (h : Header) (payload : List ℕ) → Proper h → header_of (packet_list h payload) ≡ h
unfolding word_at header_list
read_back h payload p =
    words_equal (word_back h.w0 p.fits_0) (word_back h.w1 p.fits_1) (word_back h.w2 p.fits_2)
    (by_kind (has_four_words (kind h)) refl)
  where
    by_kind : (t : Bool) → has_four_words (kind h) ≡ t → fourth_word (packet_list h payload) ≡ h.w3
    by_kind true e =
        sym (hit (has_four_words (kind h)) (word_at (packet_list h payload) 12) 0 e refl)
        ∙ ap (λ (l : List ℕ). word_at (l ++ payload) 12) (with_fourth h e)
        ∙ word_back h.w3 p.fits_3
    by_kind false e = sym (pass (has_four_words (kind h)) (word_at (packet_list h payload) 12) 0 e refl) ∙ sym (p.lacks e)

-- what the functions' proofs cite
pub ruleset writing = (put_over, paste_over, paste_more, over_none, over_short, packet_over, length_packet, written_fits, written_short, header_bounds, header_16, be_bytes, decide)
