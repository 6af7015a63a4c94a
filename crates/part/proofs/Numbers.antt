-- A part and its number give each other back. Assumes nothing.
use mathlib.Core.Path.{◌≡◌, refl, sym}
use mathlib.Core.Bool.{true}
use Prim.Native.Nat.{ℕ, ◌<◌}
use native.Mathlib.Omega.{arith}
use lib.Dec.{leb, eqb}
use borrow.Author.Tests.{leb-true, eqb-true, eqb-false}
use Rattle.lists.proofs.Bools.{split}
use Rattle.part.specs.declared.Part.{Part}
use Rattle.part.specs.declared.Part.TheVariants.{Usual, Sst64, Macronix64, Panasonic64, Sanyo128, Macronix128}
use Rattle.part.specs.Part.{by_part, part_number, part_of}

pub part-le : (p : Part) → leb (part_number p) 5 ≡ true
part-le Usual = refl
part-le Sst64 = refl
part-le Macronix64 = refl
part-le Panasonic64 = refl
part-le Sanyo128 = refl
part-le Macronix128 = refl

pub part-back : (p : Part) → part_of (part_number p) ≡ p
unfolding part_of
part-back Usual = refl
part-back Sst64 = refl
part-back Macronix64 = refl
part-back Panasonic64 = refl
part-back Sanyo128 = refl
part-back Macronix128 = refl

pub part-forth : (n : ℕ) → leb n 5 ≡ true → part_number (part_of n) ≡ n
unfolding part_of
part-forth n h =
    let P : Part → Type 0 = λ p. by_part p 0 1 2 3 4 5 ≡ n in
    split P (eqb n 0) (λ e. sym (eqb-true n 0 e))
    (λ e0. split P (eqb n 1) (λ e. sym (eqb-true n 1 e))
    (λ e1. split P (eqb n 2) (λ e. sym (eqb-true n 2 e))
    (λ e2. split P (eqb n 3) (λ e. sym (eqb-true n 3 e))
    (λ e3. split P (eqb n 4) (λ e. sym (eqb-true n 4 e))
    (λ e4. omega (arith, leb-true n 5 h, eqb-false n 0 e0, eqb-false n 1 e1, eqb-false n 2 e2, eqb-false n 3 e3, eqb-false n 4 e4))))))

-- a part's number is an index of a table of six
pub part-lt : (p : Part) → part_number p < 6
part-lt p = omega (arith, leb-true (part_number p) 5 (part-le p))
