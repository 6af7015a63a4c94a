-- The register by its digits: each digit that is 1 leaves its own number, and the numbers are added without carries.
-- Assumes nothing.
use mathlib.Core.Path.{◌≡◌, refl, sym, ap, ◌∙◌}
use mathlib.Core.List.{List}
use Prim.Native.Nat.{ℕ, zero, suc, ◌+◌, ◌*◌, ◌/◌, ◌%◌, ◌^◌, ◌<◌}
use native.Mathlib.Nat.{pow-suc, mul_assoc, mul_comm, add-mul, div-add-mod'}
use native.Mathlib.Numerals.{add-one}
use native.Mathlib.Omega.{arith}
use lib.Bits.{bit_xor, xor_comm, xor_shifted, xor_zero_r}
use lib.ListN.{length, drop, get_or}
use lib.Pow.{pow_pos}
use lib.Seq.{drop-cons, drop-length}
use Rattle.crc.specs.Crc.{crc_bits}
use Rattle.crc.specs.Operator.{advanced, picked}
use Rattle.crc.proofs.Polynomial.{bit-cases, low-lt, xor_assoc, bits-xor, bits-zero}

bits_none : (n : ℕ) → crc_bits n 0 ≡ 0
bits_none n = let e : 0 * 2 ^ n ≡ 0 = omega arith in rw e at (bits-zero n 0)

scaled : (n x b : ℕ) → b < 2 → crc_bits n x * b ≡ crc_bits n (x * b)
scaled n x b h =
    let z : x * 0 ≡ 0 = omega arith in
    let o : x * 1 ≡ x = omega arith in
    bit-cases (λ (u : ℕ). crc_bits n x * u ≡ crc_bits n (x * u)) b h
    (rw (z, bits_none n) (omega arith)) (rw o (omega arith))

-- the lowest digit and the others are the number
whole : (c p t : ℕ) → t ≡ p * 2 → c / 2 * t + p * (c % 2) ≡ c * p
whole c p t e =
    rw (e, mul_comm p (c % 2), mul_comm p 2, ← mul_assoc (c / 2) 2 p, ← add-mul (c / 2 * 2) (c % 2) p, div-add-mod' c 2)

digit_lt : (i b : ℕ) → b < 2 → 2 ^ i * b < 2 ^ suc i
digit_lt i b h =
    rw (pow-suc 2 i)
    (bit-cases (λ (u : ℕ). 2 ^ i * u < 2 ^ i * 2) b h (omega (arith, pow_pos i)) (omega (arith, pow_pos i)))

picks : (n k i c : ℕ) → c < 2 ^ k → picked (advanced n k i) c ≡ crc_bits n (c * 2 ^ i)
unfolding picked advanced
picks n zero i c h =
    let e : c * 2 ^ i ≡ 0 * 2 ^ i = ap (λ (x : ℕ). x * 2 ^ i) (omega arith) in
    let z : 0 * 2 ^ i ≡ 0 = omega arith in
    sym (rw (e, z) (bits_none n))
picks n (suc k) i c h =
    let g : c < 2 ^ k * 2 = rw (pow-suc 2 k) at h in
    let l : c / 2 < 2 ^ k = omega arith in
    let low = 2 ^ i * (c % 2) in
    let high = c / 2 * 2 ^ suc i in
    let low_fits = digit_lt i (c % 2) (low-lt c) in
    rw (scaled n (2 ^ i) (c % 2) (low-lt c), picks n k (suc i) (c / 2) l)
    (sym (bits-xor n low high)
    ∙ ap (crc_bits n)
    (xor_comm low high
    ∙ xor_shifted (c / 2) (suc i) low low_fits
    ∙ whole c (2 ^ i) (2 ^ suc i) (pow-suc 2 i)))

-- a register of 32 digits, n bits later
pub later : (n c : ℕ) → c < 2 ^ 32 → picked (advanced n 32 0) c ≡ crc_bits n c
later n c h = let o : c * 2 ^ 0 ≡ c = omega arith in rw (picks n 32 0 c h, o)

pub advanced-length : (n k i : ℕ) → length (advanced n k i) ≡ k
unfolding advanced
advanced-length n zero i = refl
advanced-length n (suc k) i = ap suc (advanced-length n k (suc i))

-- picking, one digit more, and none left
pub pick-on : (op : List ℕ) (i r v : ℕ) → i < length op
    → bit_xor (bit_xor r (get_or op i 0 * (v % 2))) (picked (drop (i + 1) op) (v / 2)) ≡ bit_xor r (picked (drop i op) v)
unfolding picked
pick-on op i r v h =
    rw (add-one i, drop-cons op i 0 h) (xor_assoc r (get_or op i 0 * (v % 2)) (picked (drop (suc i) op) (v / 2)))

pub pick_end : (op : List ℕ) (i r v : ℕ) → i ≡ length op → bit_xor r (picked (drop i op) v) ≡ r
unfolding picked
pick_end op i r v e = rw (e, drop-length op) (xor_zero_r r)

pub times-digit : (x v : ℕ) → x < 2 ^ 32 → x * (v % 2) < 2 ^ 32
times-digit x v h = bit-cases (λ (b : ℕ). x * b < 2 ^ 32) (v % 2) (low-lt v) (omega arith) (omega arith)
