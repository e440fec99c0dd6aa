-- The laws of `pick`: a test that holds gives its answer, one that fails is passed over, and what holds of each answer
-- holds of the choice. They are stated from the answer to the choice, as a contract has them. Assumes nothing.
use mathlib.Core.Bool.{Bool, true, false}
use mathlib.Core.Path.{◌≡◌, refl, sym, ◌∙◌}
use borrow.Author.Tests.{lt-ltb, le-ltb, le-leb, lt-leb, eq-eqb, ne_eqb}
use Rattle.ground.specs.Pick.{pick}

-- a test that holds gives its answer
pub hit : {A : Type 0} (t : Bool) (a b : A) {z : A} → t ≡ true → z ≡ a → z ≡ pick t a b
unfolding pick
hit t a b e p = rw e p

-- a test that fails is passed over
pub pass : {A : Type 0} (t : Bool) (a b : A) {z : A} → t ≡ false → z ≡ b → z ≡ pick t a b
unfolding pick
pass t a b e p = rw e p

-- a test that was made in code, and what it told
pub told : {r t v : Bool} → r ≡ t → r ≡ v → t ≡ v
told p q = sym p ∙ q

-- what holds of each answer under its test holds of the choice
pub either : {A : Type 0} (P : A → Type 0) (t : Bool) {a b : A} → (t ≡ true → P a) → (t ≡ false → P b) → P (pick t a b)
unfolding pick
either P true f g = f refl
either P false f g = g refl

-- a decision list, test by test
pub ruleset decide = (hit, pass, told, lt-ltb, le-ltb, le-leb, lt-leb, eq-eqb, ne_eqb)
