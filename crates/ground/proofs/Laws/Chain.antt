-- What a chain over a range of places answers, by the first place at which the test holds. By recursion on the number of places.
-- Assumes nothing.
use Prim.Native.Nat.{ℕ, zero, suc, ◌+◌}
use mathlib.Core.Path.{◌≡◌, refl, sym, ap, ◌∙◌}
use mathlib.Core.Bool.{Bool, true, false}
use native.Mathlib.Omega.{arith}
use native.Mathlib.Numerals.{add-one}
use borrow.Author.Tests.{lt-ltb, le-ltb}
use lib.Dec.{ltb}
use Rattle.std.specs.Prelude.{Option, Some, None}
use Rattle.std.specs.Option.{option_map}
use Rattle.std.specs.List.{list_any, range_with_len, find}
use Rattle.ground.specs.Pick.{pick}
use Rattle.ground.specs.Scan.{first}
use Rattle.ground.proofs.Laws.Pick.{hit, pass}
use Rattle.ground.proofs.Laws.Scan.{over, found, missed}

-- where the test fails, the first place is the first further on, for whatever is made of it
further : {B : Type 0} (make : ℕ → B) (test : ℕ → Bool) (s n : ℕ) → test s ≡ false → make (first test (s + 1) n) ≡ make (first test s (suc n))
further make test s n t = ap make (ap (λ (k : ℕ). first test k n) (add-one s) ∙ sym (missed test s n t))

-- `any`: a place passes where the first lies before the end
pub any_first : (test : ℕ → Bool) (s n e : ℕ) → s + n ≡ e → list_any test (range_with_len s n) ≡ ltb (first test s n) e
any_first test s zero e h = sym (le-ltb (first test s 0) e (omega (arith, over test s)))
any_first test s (suc n) e h = by_test (test s) refl (any_first test (s + 1) n e (omega arith))
  where
    by_test : (t : Bool) → test s ≡ t → list_any test (range_with_len (s + 1) n) ≡ ltb (first test (s + 1) n) e
        → list_any test (range_with_len s (suc n)) ≡ ltb (first test s (suc n)) e
    by_test true t r = rw t (sym (lt-ltb (first test s (suc n)) e (omega (arith, found test s n t))))
    by_test false t r = rw (t, r) (further (λ (k : ℕ). ltb k e) test s n t)

-- `find`, and `map` after it: what is made of the first place, where that lies before the end
pub find_first : {B : Type 0} (make : ℕ → B) (test : ℕ → Bool) (s n e : ℕ) → s + n ≡ e
    → option_map make (find test (range_with_len s n)) ≡ pick (ltb (first test s n) e) (Some (make (first test s n))) None
find_first make test s zero e h = pass _ _ _ (le-ltb (first test s 0) e (omega (arith, over test s))) refl
find_first {B} make test s (suc n) e h = by_test (test s) refl (find_first make test (s + 1) n e (omega arith))
  where
    answer : ℕ → Option B
    answer k = pick (ltb k e) (Some (make k)) None

    by_test : (t : Bool) → test s ≡ t → option_map make (find test (range_with_len (s + 1) n)) ≡ answer (first test (s + 1) n)
        → option_map make (find test (range_with_len s (suc n))) ≡ answer (first test s (suc n))
    by_test true t r = let f = found test s n t in rw t (hit _ _ _ (lt-ltb (first test s (suc n)) e (omega (arith, f))) (ap (λ (k : ℕ). Some (make k)) (sym f)))
    by_test false t r = rw (t, r) (further answer test s n t)
