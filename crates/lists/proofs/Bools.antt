-- Choices by a Boolean. Assumes nothing.
use mathlib.Core.Path.{◌≡◌, refl, sym, ◌∙◌}
use mathlib.Core.Bool.{Bool, true, false, cond, ◌&&◌, ◌||◌}
use Prim.Native.Nat.{ℕ}
use native.Mathlib.Omega.{arith}
use lib.Dec.{leb, eqb}
use borrow.Author.Tests.{lt-ltb, le-ltb, le-leb, lt-leb, eq-eqb, ne_eqb, leb-true, eqb-true, eqb-false}
use Rattle.lists.specs.Lists.{bit}

-- what holds of both sides of a choice, each where it is taken
pub split {ℓ} : {A : Type 0} (P : A → Type ℓ) (b : Bool) {x y : A} → (b ≡ true → P x) → (b ≡ false → P y) → P (cond b x y)
split P true f g = f refl
split P false f g = g refl

pub either {ℓ} : {A : Type 0} (P : A → Type ℓ) (b : Bool) {x y : A} → P x → P y → P (cond b x y)
either P true f g = f
either P false f g = g

pub cases {ℓ} : {P : Type ℓ} (b : Bool) → (b ≡ true → P) → (b ≡ false → P) → P
cases true f g = f refl
cases false f g = g refl

pub and_left : (a b : Bool) → a && b ≡ true → a ≡ true
and_left true b e = refl
and_left false b e = e

pub and_right : (a b : Bool) → a && b ≡ true → b ≡ true
and_right true b e = e
and_right false b e = let z : ◌≡◌ {A = Bool} false true = e in cc

pub or-true : (a b : Bool) → a || b ≡ false → (a ≡ false) × (b ≡ false)
or-true false b e = (refl, e)
or-true true b e = let z : ◌≡◌ {A = Bool} true false = e in (z, cc)

-- what a test `if !t` shows of the definition that t equals
pub denied : (t : Bool) {b : Bool} → t ≡ b → t ≡ false → b ≡ false
denied t q f = sym q ∙ f

pub granted : (t : Bool) {b : Bool} → t ≡ b → t ≡ true → b ≡ true
granted t q f = sym q ∙ f

-- a Boolean as a number, and back
pub bit_le : (b : Bool) → leb (bit b) 1 ≡ true
bit_le true = refl
bit_le false = refl

pub bit-back : (b : Bool) → eqb (bit b) 1 ≡ b
bit-back true = refl
bit-back false = refl

pub bit-forth : (n : ℕ) → leb n 1 ≡ true → bit (eqb n 1) ≡ n
bit-forth n h =
    let l = leb-true n 1 h in
    split (λ x. x ≡ n) (eqb n 1) (λ e. sym (eqb-true n 1 e)) (λ e. let q = eqb-false n 1 e in omega arith)

-- the tests of a definition, from the facts of a branch
pub ruleset tests = (eq-eqb, ne_eqb, lt-ltb, le-ltb, le-leb, lt-leb)
