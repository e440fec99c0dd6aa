-- Replacing a field of a word, once for every place and width: the field is then the new value, every field that lies
-- below or above is as it was, and the word keeps its width.
-- A word is three digits, its high part, the field and its low part; each law takes the digits apart. Assumes nothing.
use Prim.Native.Nat.{ℕ, ◌+◌, ◌-◌, ◌*◌, ◌/◌, ◌%◌, ◌^◌, ◌≤◌, ◌<◌}
use mathlib.Core.Path.{◌≡◌, sym, ap, ◌∙◌}
use native.Mathlib.Omega.{arith}
use native.Mathlib.Nat.{mul_assoc, add-mul, mod-lt, mod-eq_of_lt}
use lib.Pow as Pow
use lib.Pow.{pow_pos, pow-add, split, high, low, shr-shr, shr_lt, mod-pow-add, mod-mod-pow}
use lib.Arith.{digits_lt}
use Rattle.ground.specs.Field.{field, place, with_field}

-- a field is below its bound
pub field_lt : (l n w : ℕ) → field l n w < 2 ^ n
field_lt l n w = mod-lt (w / 2 ^ l) (pow_pos n)

-- a word is its three digits
pub parts : (l n w : ℕ) → w ≡ w / 2 ^ (n + l) * 2 ^ (n + l) + place l (field l n w) + w % 2 ^ l
parts l n w = omega (arith, split w (n + l), mod-pow-add w n l)

module _ (l n w x : ℕ) (h : x < 2 ^ n) where
  -- the two lower digits are below the place of the high one
  lower : place l x + w % 2 ^ l < 2 ^ (n + l)
  lower = rw pow-add (digits_lt h (mod-lt w (pow_pos l)))

  -- the high digit first, then the two lower ones
  high_first : with_field l n w x ≡ w / 2 ^ (n + l) * 2 ^ (n + l) + (place l x + w % 2 ^ l)
  high_first = omega arith

  -- the two higher digits first, then the low one
  low_last : with_field l n w x ≡ (w / 2 ^ (n + l) * 2 ^ n + x) * 2 ^ l + w % 2 ^ l
  low_last =
      let above = w / 2 ^ (n + l) in
      let e : above * 2 ^ (n + l) ≡ above * 2 ^ n * 2 ^ l = ap (λ (k : ℕ). above * k) (pow-add 2 n l) ∙ sym (mul_assoc above (2 ^ n) (2 ^ l)) in
      omega (arith, e, add-mul (above * 2 ^ n) x (2 ^ l))

  -- the field is the new value
  pub field_same : field l n (with_field l n w x) ≡ x
  field_same =
      ap (λ (k : ℕ). field l n k) low_last
      ∙ ap (λ (k : ℕ). k % 2 ^ n) (high (w / 2 ^ (n + l) * 2 ^ n + x) l (mod-lt w (pow_pos l)))
      ∙ low (w / 2 ^ (n + l)) n h

  -- what lies below it is as it was
  pub low_kept : with_field l n w x % 2 ^ l ≡ w % 2 ^ l
  low_kept = ap (λ (k : ℕ). k % 2 ^ l) low_last ∙ low (w / 2 ^ (n + l) * 2 ^ n + x) l (mod-lt w (pow_pos l))

  -- what lies above it is as it was
  pub high_kept : with_field l n w x / 2 ^ (n + l) ≡ w / 2 ^ (n + l)
  high_kept = ap (λ (k : ℕ). k / 2 ^ (n + l)) high_first ∙ high (w / 2 ^ (n + l)) (n + l) lower

  -- a word of m bits, the field among them, stays one
  pub stays_lt : (m : ℕ) → n + l ≤ m → w < 2 ^ m → with_field l n w x < 2 ^ m
  stays_lt m k b =
      let e : m ≡ m - (n + l) + (n + l) = omega arith in
      let b' : w < 2 ^ (m - (n + l) + (n + l)) = rw (← e) b in
      rw (high_first, e, pow-add 2 (m - (n + l)) (n + l)) (digits_lt (shr_lt (m - (n + l)) (n + l) b') lower)

-- a field below place l is one of the low part
in_low : (l i j w : ℕ) → j + i ≤ l → field i j w ≡ w % 2 ^ l % 2 ^ (j + i) / 2 ^ i
in_low l i j w h =
    sym (Pow.field w j i)
    ∙ ap (λ (k : ℕ). k / 2 ^ i) (sym (mod-mod-pow w (l - (j + i)) (j + i)))
    ∙ ap (λ (k : ℕ). w % 2 ^ k % 2 ^ (j + i) / 2 ^ i) (omega arith)

-- every field below the replaced one is as it was
pub field_below : (i j l n w x : ℕ) → x < 2 ^ n → j + i ≤ l → field i j (with_field l n w x) ≡ field i j w
field_below i j l n w x b h =
    in_low l i j (with_field l n w x) h ∙ ap (λ (k : ℕ). k % 2 ^ (j + i) / 2 ^ i) (low_kept l n w x b) ∙ sym (in_low l i j w h)

-- a field from place m on is one of the high part
in_high : (m i j w : ℕ) → m ≤ i → field i j w ≡ w / 2 ^ m / 2 ^ (i - m) % 2 ^ j
in_high m i j w h = ap (λ (k : ℕ). w / 2 ^ k % 2 ^ j) (omega arith) ∙ ap (λ (k : ℕ). k % 2 ^ j) (sym (shr-shr w m (i - m)))

-- every field above the replaced one is as it was
pub field_above : (i j l n w x : ℕ) → x < 2 ^ n → n + l ≤ i → field i j (with_field l n w x) ≡ field i j w
field_above i j l n w x b h =
    in_high (n + l) i j (with_field l n w x) h
    ∙ ap (λ (k : ℕ). k / 2 ^ (i - (n + l)) % 2 ^ j) (high_kept l n w x b)
    ∙ sym (in_high (n + l) i j w h)

-- a field of a field is a field of the word
pub field_of_field : (i j l n w : ℕ) → j + i ≤ n → field i j (field l n w) ≡ field (l + i) j w
field_of_field i j l n w h =
    in_low n i j (field l n w) h
    ∙ ap (λ (k : ℕ). k % 2 ^ (j + i) / 2 ^ i) (mod-eq_of_lt (field_lt l n w))
    ∙ sym (in_low n i j (w / 2 ^ l) h)
    ∙ ap (λ (k : ℕ). k % 2 ^ j) (shr-shr w l i)
