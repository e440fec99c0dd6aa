-- What a row in force tells, and one that leads somewhere; and what a covered address becomes: it fits 64 bits, and its low twelve bits stay.
-- Base and target are multiples of 2^k, and the offset is below 2^k. Assumes nothing.
use Prim.Native.Nat.{ℕ, ◌+◌, ◌-◌, ◌*◌, ◌/◌, ◌%◌, ◌^◌, ◌≤◌, ◌<◌}
use mathlib.Core.Path.{◌≡◌, refl, sym, ap, ◌∙◌}
use mathlib.Core.Bool.{Bool, true, false, not, ◌&&◌}
use native.Mathlib.Omega.{arith}
use borrow.Author.Tests.{leb-true, ltb-true, eqb-true, eqb-false, not-true}
use lib.Dec.{eqb, ltb, leb}
use lib.Pow.{shl_exact, pow-add, split, shr_lt, mod-mod-pow}
use lib.Arith.{digits_lt}
use native.Mathlib.Nat.{one-mul, zero-mod}
use Rattle.ground.proofs.Laws.Join.{both, and_yes}
use Rattle.rows.specs.Row.{exponent, destination, is_enabled, spare_zero, is_sized, is_fit, is_plain, aligned, in_force, spans, covers, admits, leads}
use Rattle.rows.specs.declared.Window.{Window}

-- a size that is one
pub sized : (k : ℕ) → is_sized k ≡ true → (12 ≤ k) × (k ≤ 39)
sized k e = let r = both (leb 12 k) (leb k 39) e in (leb-true 12 k r.0, leb-true k 39 r.1)

-- a window that fits: its size, and its base and target
pub fits : (base target k : ℕ) → is_fit base target k ≡ true → ((12 ≤ k) × (k ≤ 39)) × (base % 2 ^ k ≡ 0) × (target % 2 ^ k ≡ 0)
unfolding is_fit aligned
fits base target k e =
    let a = both (is_sized k) (aligned base k && aligned target k) e in
    let b = both (aligned base k) (aligned target k) a.1 in
    (sized k a.0, eqb-true (base % 2 ^ k) 0 b.0, eqb-true (target % 2 ^ k) 0 b.1)

-- the size of a plain row
pub plain_size : (w : Window) → is_plain w ≡ true → (12 ≤ exponent w) × (exponent w ≤ 39)
plain_size w e = sized (exponent w) (both (is_enabled w && spare_zero w) (is_sized (exponent w)) e).1

-- what a row in force tells
pub record Force (p : ℕ) (w : Window) : Type 0 where
  pub plain : is_plain w ≡ true
  pub base : w.base % 2 ^ exponent w ≡ 0
  pub target : w.target % 2 ^ exponent w ≡ 0
  pub other : destination w ≡ p → ⊥

pub force : (p : ℕ) (w : Window) → in_force p w ≡ true → Force p w
unfolding in_force aligned
force p w e =
    let a = both (is_plain w) (aligned w.base (exponent w) && aligned w.target (exponent w) && not (eqb (destination w) p)) e in
    let d = both (aligned w.base (exponent w) && aligned w.target (exponent w)) (not (eqb (destination w) p)) a.1 in
    let f = both (aligned w.base (exponent w)) (aligned w.target (exponent w)) d.0 in
    record {
      plain = a.0;
      base = eqb-true (w.base % 2 ^ exponent w) 0 f.0;
      target = eqb-true (w.target % 2 ^ exponent w) 0 f.1;
      other = eqb-false (destination w) p (not-true (eqb (destination w) p) d.1);
    }

-- the size of a row in force is below 64, so a shift by it is in range,
pub force_small : (p : ℕ) (w : Window) → in_force p w ≡ true → exponent w < 64
force_small p w e = omega (arith, plain_size w (force p w e).plain)

-- and its base is a multiple of 2^k
pub force_base : (p : ℕ) (w : Window) → in_force p w ≡ true → w.base % 2 ^ exponent w ≡ 0
force_base p w e = (force p w e).base

-- what a row that leads somewhere tells
pub led : (p q : ℕ) (marked : Bool) (w : Window) → leads p q marked w ≡ true
    → ((in_force p w && eqb (destination w) q) ≡ true) × (in_force p w ≡ true) × (admits marked w ≡ true)
led p q marked w e =
    let way = in_force p w && eqb (destination w) q in
    let r = both way (admits marked w) e in
    (r.0, (both (in_force p w) (eqb (destination w) q) r.0).0, r.1)

-- and that it does so for unmarked packets too
pub leads_unmarked : (p q : ℕ) (marked : Bool) (w : Window) → leads p q marked w ≡ true → leads p q false w ≡ true
leads_unmarked p q marked w e = sym (and_yes (in_force p w && eqb (destination w) q) (admits false w) true (led p q marked w e).0 refl)

-- an address that a span holds
pub spanned : (base k a : ℕ) → spans base k a ≡ true → (base ≤ a) × (a - base < 2 ^ k)
unfolding spans
spanned base k a e = let r = both (leb base a) (ltb (a - base) (2 ^ k)) e in (leb-true base a r.0, ltb-true (a - base) (2 ^ k) r.1)

-- a power below 2^64 is made by a shift, and nothing is shifted out
pub shifted : (k : ℕ) → k < 64 → 1 * 2 ^ k % 2 ^ 64 ≡ 2 ^ k
shifted k h = shl_exact 1 k 64 (omega arith) (omega arith) ∙ one-mul (2 ^ k)

-- a multiple of 2^k below 2^64 leaves room for an offset below 2^k
room : (t o k : ℕ) → k ≤ 64 → t < 2 ^ 64 → t % 2 ^ k ≡ 0 → o < 2 ^ k → o + t < 2 ^ 64
room t o k h b z l =
    let e : 64 ≡ 64 - k + k = omega arith in
    let b' : t < 2 ^ (64 - k + k) = rw (← e) b in
    let top : t / 2 ^ k * 2 ^ k + o < 2 ^ (64 - k) * 2 ^ k = digits_lt (shr_lt (64 - k) k b') l in
    let whole : 2 ^ (64 - k) * 2 ^ k ≡ 2 ^ 64 = sym (pow-add 2 (64 - k) k) ∙ ap (λ (n : ℕ). 2 ^ n) (sym e) in
    omega (arith, split t k, top, whole, z)

-- a covered address is not below the base, and what it becomes fits 64 bits
pub covered_fits : (p a : ℕ) (w : Window) → w.target < 2 ^ 64 → covers p a w ≡ true → (w.base ≤ a) × (a - w.base + w.target < 2 ^ 64)
covered_fits p a w b e =
    let r = both (in_force p w) (spans w.base (exponent w) a) e in
    let f = force p w r.0 in
    let s = spanned w.base (exponent w) a r.1 in
    let k = plain_size w f.plain in
    (s.0, room w.target (a - w.base) (exponent w) (omega arith) b f.target s.1)

-- a multiple of 2^k is one of each smaller power
pub smaller : (n i k : ℕ) → i ≤ k → n % 2 ^ k ≡ 0 → n % 2 ^ i ≡ 0
smaller n i k h z =
    let e : k ≡ k - i + i = omega arith in
    let z' : n % 2 ^ (k - i + i) ≡ 0 = rw (← e) z in
    sym (mod-mod-pow n (k - i) i) ∙ ap (λ (m : ℕ). m % 2 ^ i) z' ∙ zero-mod (2 ^ i)

-- "moved by whole 4 KiB pages": the low twelve bits of a covered address stay
pub covered_pages : (p a : ℕ) (w : Window) → covers p a w ≡ true → (a - w.base + w.target) % 2 ^ 12 ≡ a % 2 ^ 12
covered_pages p a w e =
    let r = both (in_force p w) (spans w.base (exponent w) a) e in
    let f = force p w r.0 in
    let s = spanned w.base (exponent w) a r.1 in
    let k = plain_size w f.plain in
    moved a w.base w.target s.0 (smaller w.base 12 (exponent w) k.0 f.base) (smaller w.target 12 (exponent w) k.0 f.target)
  where
    moved : (a b t : ℕ) → b ≤ a → b % 2 ^ 12 ≡ 0 → t % 2 ^ 12 ≡ 0 → (a - b + t) % 2 ^ 12 ≡ a % 2 ^ 12
    moved a b t l p q = omega arith
