-- The laws of `first`: it stops where the test holds, goes on where it does not, and ends at the end; and what is known of the
-- place that it answers. And of `some`: it holds exactly where a place is found. Each is by its recursion on the number of places.
-- Assumes nothing.
use Prim.Native.Nat.{ℕ, zero, suc, ◌+◌, ◌-◌, ◌≤◌, ◌<◌}
use mathlib.Core.Path.{◌≡◌, refl, sym, ap, ◌∙◌}
use mathlib.Core.Bool.{Bool, true, false, ◌||◌, true≢false}
use native.Mathlib.Omega.{arith}
use native.Mathlib.Numerals.{add-one}
use borrow.Author.Tests.{eqb-true, eqb-false, ltb-true, ltb-false, lt-ltb}
use lib.Dec.{eqb, ltb}
use Rattle.ground.proofs.Laws.Join.{or_yes, or_no}
use Rattle.ground.proofs.Laws.Pick.{hit, pass, either}
use Rattle.ground.specs.Scan.{first, some}

-- where no place is left, the end
pub over : (test : ℕ → Bool) (s : ℕ) → first test s 0 ≡ s
unfolding first
over test s = refl

-- where the test holds, there
pub found : (test : ℕ → Bool) (s n : ℕ) → test s ≡ true → first test s (suc n) ≡ s
unfolding first
found test s n e = sym (hit (test s) s (first test (suc s) n) e refl)

-- where it does not, further on
pub missed : (test : ℕ → Bool) (s n : ℕ) → test s ≡ false → first test s (suc n) ≡ first test (suc s) n
unfolding first
missed test s n e = sym (pass (test s) s (first test (suc s) n) e refl)

-- the answer lies between the first place and the end
pub within : (test : ℕ → Bool) (s n : ℕ) → (s ≤ first test s n) × (first test s n ≤ s + n)
unfolding first
within test s zero = omega arith
within test s (suc n) =
    let r = within test (suc s) n in
    either (λ (k : ℕ). (s ≤ k) × (k ≤ s + suc n)) (test s) (λ _. omega arith) (λ _. omega (arith, r))

-- at a place before the end the test holds
pub holds : (test : ℕ → Bool) (s n : ℕ) → first test s n < s + n → test (first test s n) ≡ true
unfolding first
holds test s zero h = absurd (omega arith)
holds test s (suc n) h = by_test (test s) refl (λ k. holds test (suc s) n k)
  where
    by_test : (t : Bool) → test s ≡ t → (first test (suc s) n < suc s + n → test (first test (suc s) n) ≡ true) → test (first test s (suc n)) ≡ true
    by_test true e r = ap test (found test s n e) ∙ e
    by_test false e r =
        let m = missed test s n e in
        ap test m ∙ r (omega (arith, m))

-- a test that fails here and later on fails at every place from here on
from_here : (test : ℕ → Bool) (s i : ℕ) → test s ≡ false → s ≤ i → (suc s ≤ i → test i ≡ false) → test i ≡ false
from_here test s i e l r = by_place (eqb s i) refl
  where
    by_place : (b : Bool) → eqb s i ≡ b → test i ≡ false
    by_place true q = ap test (sym (eqb-true s i q)) ∙ e
    by_place false q = r (omega (arith, eqb-false s i q))

-- at every place before the answer it fails
pub fails_before : (test : ℕ → Bool) (s n i : ℕ) → s ≤ i → i < first test s n → test i ≡ false
unfolding first
fails_before test s zero i l h = absurd (omega arith)
fails_before test s (suc n) i l h = by_test (test s) refl (λ k m. fails_before test (suc s) n i k m)
  where
    by_test : (t : Bool) → test s ≡ t → (suc s ≤ i → i < first test (suc s) n → test i ≡ false) → test i ≡ false
    by_test true e r = absurd (omega (arith, found test s n e))
    by_test false e r = from_here test s i e l (λ k. r k (omega (arith, missed test s n e)))

-- ---- one turn of a loop that looks for the first place below n, and is at s

-- it stops where the test holds
pub stop : (test : ℕ → Bool) (s n : ℕ) → s < n → test s ≡ true → first test s (n - s) ≡ s
stop test s n h e =
    let k : n - s ≡ suc (n - (s + 1)) = omega arith in
    ap (first test s) k ∙ found test s (n - (s + 1)) e

-- it goes on where the test fails
pub go_on : (test : ℕ → Bool) (s n : ℕ) → s < n → test s ≡ false → first test s (n - s) ≡ first test (s + 1) (n - (s + 1))
go_on test s n h e =
    let k : n - s ≡ suc (n - (s + 1)) = omega arith in
    ap (first test s) k ∙ missed test s (n - (s + 1)) e ∙ ap (λ (t : ℕ). first test t (n - (s + 1))) (sym (add-one s))

-- it ends at the end
pub end : (test : ℕ → Bool) (s n : ℕ) → n ≤ s → first test s (n - s) ≡ s
end test s n h =
    let k : n - s ≡ 0 = omega arith in
    ap (first test s) k ∙ over test s

-- ---- some place

-- at no place before the first
pub none_yet : (test : ℕ → Bool) → some test 0 ≡ false
unfolding some
none_yet test = refl

-- one place more
pub one_more : (test : ℕ → Bool) (n : ℕ) → some test (n + 1) ≡ (some test n || test n)
unfolding some
one_more test n = ap (some test) (add-one n)

-- a place at which it holds is one
pub some_at : (test : ℕ → Bool) (n i : ℕ) → i < n → test i ≡ true → some test n ≡ true
unfolding some
some_at test zero i l e = absurd (omega arith)
some_at test (suc n) i l e = by_place (ltb i n) refl (λ k. some_at test n i k e)
  where
    either_way : (b : Bool) → test n ≡ true → (b || test n) ≡ true
    either_way true h = refl
    either_way false h = h

    by_place : (b : Bool) → ltb i n ≡ b → (i < n → some test n ≡ true) → (some test n || test n) ≡ true
    by_place true q r = sym (or_yes (some test n) (test n) (r (ltb-true i n q)))
    by_place false q r =
        let here : i ≡ n = let k = ltb-false i n q in omega arith in
        either_way (some test n) (ap test (sym here) ∙ e)

-- where it holds at none, it fails at each
pub none_at : (test : ℕ → Bool) (n : ℕ) → some test n ≡ false → (i : ℕ) → i < n → test i ≡ false
none_at test n e i l = by_test (test i) refl
  where
    by_test : (b : Bool) → test i ≡ b → test i ≡ false
    by_test true q = absurd (true≢false (sym (some_at test n i l q) ∙ e))
    by_test false q = q

-- a test that fails at each place holds at none
nowhere : (test : ℕ → Bool) (n : ℕ) → ((i : ℕ) → i < n → test i ≡ false) → some test n ≡ false
unfolding some
nowhere test zero f = refl
nowhere test (suc n) f = sym (or_no (some test n) (test n) false (nowhere test n (λ i l. f i (omega arith))) (sym (f n (omega arith))))

-- where it holds at some, the first of them is one
pub some_first : (test : ℕ → Bool) (n : ℕ) → some test n ≡ true → (first test 0 n < n) × (test (first test 0 n) ≡ true)
some_first test n e = by_place (ltb (first test 0 n) n) refl
  where
    by_place : (b : Bool) → ltb (first test 0 n) n ≡ b → (first test 0 n < n) × (test (first test 0 n) ≡ true)
    by_place true q = let l = ltb-true (first test 0 n) n q in (l, holds test 0 n (omega arith))
    by_place false q =
        let past = ltb-false (first test 0 n) n q in
        absurd (true≢false (sym e ∙ nowhere test n (λ i l. fails_before test 0 n i (omega arith) (omega arith))))

-- so some place is the same as a first one below the end
pub first_some : (test : ℕ → Bool) (n : ℕ) → ltb (first test 0 n) n ≡ some test n
first_some test n = by_test (some test n) refl
  where
    below : (b : Bool) → ltb (first test 0 n) n ≡ b → some test n ≡ false → ltb (first test 0 n) n ≡ false
    below true q e =
        let l = ltb-true (first test 0 n) n q in
        absurd (true≢false (sym (holds test 0 n (omega arith)) ∙ none_at test n e (first test 0 n) l))
    below false q e = q

    by_test : (b : Bool) → some test n ≡ b → ltb (first test 0 n) n ≡ b
    by_test true e = lt-ltb (first test 0 n) n (some_first test n e).0
    by_test false e = below (ltb (first test 0 n) n) refl e
