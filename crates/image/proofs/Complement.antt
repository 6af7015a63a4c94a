-- GBATEK's complement check. Assumes nothing.
use Rattle.std.proofs.Common.{◌≡◌, ℕ, ◌+◌, ◌%◌, ◌<◌, true, ltb, List, [], ◌∷◌, take, refl, ◌∙◌, arith, ltb-true}
use lib.Seq.{slice}
use lib.Pow.{are_bytes}
use Rattle.lists.specs.Lists.{fold}
use Rattle.lists.proofs.Bools.{and_left, and_right}
use Rattle.lists.proofs.Digits.{bytes_take, bytes_drop}
use Rattle.image.specs.Image.{less, header_sum}
use Rattle.image.specs.Gbatek.{HeaderComplement}

-- what is taken off one sum is added to the other
balance : (l : List ℕ) (x y : ℕ) → are_bytes l ≡ true → (fold less x l + fold ◌+◌ y l) % 256 ≡ (x + y) % 256
unfolding fold less
balance [] x y h = refl
balance (b ∷ l) x y h =
    let p : b < 256 = ltb-true b 256 (and_left (ltb b 256) (are_bytes l) h) in
    balance l (less x b) (y + b) (and_right (ltb b 256) (are_bytes l) h) ∙ omega arith

pub header-complement : HeaderComplement
unfolding header_sum less
header-complement image h =
    let l : List ℕ = slice 0xa0 0xbd image in
    let e = balance l 0 0x19 (bytes_drop 0xa0 (take 0xbd image) (bytes_take 0xbd image h)) in
    (omega arith, omega arith)
