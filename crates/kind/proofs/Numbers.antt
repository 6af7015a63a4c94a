-- A kind and its number give each other back. Assumes nothing.
use mathlib.Core.Path.{◌≡◌, refl, sym}
use mathlib.Core.Bool.{true}
use Prim.Native.Nat.{ℕ, ◌<◌}
use native.Mathlib.Omega.{arith}
use lib.Dec.{leb, eqb}
use borrow.Author.Tests.{leb-true, eqb-true, eqb-false}
use Rattle.lists.proofs.Bools.{split}
use Rattle.kind.specs.declared.SaveType.{SaveType}
use Rattle.kind.specs.declared.SaveType.TheVariants.{None, Sram, Flash64, Flash128, Eeprom512, Eeprom8k}
use Rattle.kind.specs.Kind.{by_kind, kind_number, kind_of}

pub kind-le : (k : SaveType) → leb (kind_number k) 5 ≡ true
kind-le None = refl
kind-le Sram = refl
kind-le Flash64 = refl
kind-le Flash128 = refl
kind-le Eeprom512 = refl
kind-le Eeprom8k = refl

pub kind-back : (k : SaveType) → kind_of (kind_number k) ≡ k
unfolding kind_of
kind-back None = refl
kind-back Sram = refl
kind-back Flash64 = refl
kind-back Flash128 = refl
kind-back Eeprom512 = refl
kind-back Eeprom8k = refl

pub kind-forth : (n : ℕ) → leb n 5 ≡ true → kind_number (kind_of n) ≡ n
unfolding kind_of
kind-forth n h =
    let P : SaveType → Type 0 = λ k. by_kind k 0 1 2 3 4 5 ≡ n in
    split P (eqb n 0) (λ e. sym (eqb-true n 0 e))
    (λ e0. split P (eqb n 1) (λ e. sym (eqb-true n 1 e))
    (λ e1. split P (eqb n 2) (λ e. sym (eqb-true n 2 e))
    (λ e2. split P (eqb n 3) (λ e. sym (eqb-true n 3 e))
    (λ e3. split P (eqb n 4) (λ e. sym (eqb-true n 4 e))
    (λ e4. omega (arith, leb-true n 5 h, eqb-false n 0 e0, eqb-false n 1 e1, eqb-false n 2 e2, eqb-false n 3 e3, eqb-false n 4 e4))))))

-- a kind's number is a byte
pub kind-lt : (k : SaveType) {n : ℕ} → n ≡ kind_number k → n < 256
kind-lt k e = rw e (omega (arith, leb-true (kind_number k) 5 (kind-le k)))
