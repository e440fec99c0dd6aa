-- A refusal above 2 has a log bit, 31 to 36 have 18, and 1 and 2 have none. The column is read test by test. Assumes nothing.
use Rattle.std.specs.Prelude.{Option, Some, None}
use Prim.Native.Nat.{ℕ, ◌≤◌, ◌<◌}
use mathlib.Core.Path.{◌≡◌, refl, sym}
use mathlib.Core.Bool.{true, ◌&&◌}
use native.Mathlib.Omega.{arith}
use borrow.Author.Tests.{ltb-true, lt-ltb, le-ltb, le-leb}
use lib.Dec.{eqb, ltb, leb}
use Rattle.ground.proofs.Laws.Join.{and_yes}
use Rattle.ground.proofs.Laws.Pick.{hit, pass, either}
use Rattle.logs.specs.declared.Bit.{Bit}
use Rattle.logs.specs.declared.Bit.TheVariants.{Poisoned, UnexpectedCompletion, Malformed, Unsupported}
use Rattle.switch.specs.After.{log_bit}

-- every refusal but 1 and 2 has a log bit
pub has_bit : (n : ℕ) → 3 ≤ n → (b : Bit) × (log_bit n ≡ Some b)
unfolding log_bit
has_bit n h =
    let named : Option Bit → Type 0 = λ l. (b : Bit) × (l ≡ Some b) in
    either named (ltb n 3) (λ e. absurd (let k = ltb-true n 3 e in omega arith))
    (λ _. either named (leb 31 n && leb n 36) (λ _. (Malformed, refl))
    (λ _. either named (eqb n 5) (λ _. (Poisoned, refl))
    (λ _. either named (eqb n 9) (λ _. (UnexpectedCompletion, refl)) (λ _. (Unsupported, refl)))))

-- 1 and 2 have none
pub no_bit : (n : ℕ) → n < 3 → log_bit n ≡ None
unfolding log_bit
no_bit n h = sym (hit (ltb n 3) None _ (lt-ltb n 3 h) refl)

-- 31 to 36 have 18
pub malformed : (n : ℕ) → 31 ≤ n → n ≤ 36 → log_bit n ≡ Some Malformed
unfolding log_bit
malformed n a b =
    sym
    (pass (ltb n 3) None _ (le-ltb n 3 (omega (arith, a)))
    (hit (leb 31 n && leb n 36) (Some Malformed) _ (sym (and_yes (leb 31 n) (leb n 36) true (le-leb 31 n a) (sym (le-leb n 36 b)))) refl))
