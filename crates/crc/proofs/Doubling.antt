-- An operator applied to its own numbers is that of twice the bits. So the operator of a lane is that of 32 bits,
-- doubled ten times: a computed test. Assumes nothing.
use mathlib.Core.Path.{◌≡◌, refl, sym, ap, ◌∙◌}
use mathlib.Core.Bool.{cond}
use mathlib.Core.List.{List, [], ◌∷◌}
use Prim.Native.Nat.{ℕ, zero, suc, ◌+◌, ◌*◌, ◌/◌, ◌%◌, ◌^◌, ◌<◌, ◌≤◌}
use native.Mathlib.Nat.{pow-suc, zero-add, suc-add, mul_assoc}
use native.Mathlib.Omega.{arith}
use lib.Bits.{bit_xor, xor_lt}
use lib.Dec.{eqb}
use lib.Pow.{pow_pos}
use Rattle.crc.specs.Crc.{crc_bit, crc_bits}
use Rattle.crc.specs.Operator.{advanced, lane_operator, picked}
use Rattle.crc.proofs.Polynomial.{bit-cases, low-lt}
use Rattle.crc.proofs.Digits.{later}

-- bits, and then more bits
pub bits-add : (n m c : ℕ) → crc_bits (n + m) c ≡ crc_bits m (crc_bits n c)
unfolding crc_bits
bits-add zero m c = rw zero-add
bits-add (suc n) m c = rw suc-add (bits-add n m (crc_bit c))

bit-lt : (c : ℕ) → c < 2 ^ 32 → crc_bit c < 2 ^ 32
bit-lt c h =
    let l : c / 2 < 2 ^ 32 = omega arith in
    bit-cases (λ (u : ℕ). cond (eqb u 1) (bit_xor 0xedb88320 (c / 2)) (c / 2) < 2 ^ 32)
    (c % 2) (low-lt c) l (xor_lt 32 0xedb88320 (c / 2) (omega arith) l)

bits-lt : (n c : ℕ) → c < 2 ^ 32 → crc_bits n c < 2 ^ 32
unfolding crc_bits
bits-lt zero c h = h
bits-lt (suc n) c h = bits-lt n (crc_bit c) (bit-lt c h)

pow-lt : (i k : ℕ) → i < k → 2 ^ i < 2 ^ k
pow-lt i zero h = absurd (omega arith)
pow-lt zero (suc k) h = rw (pow-suc 2 k) (omega (arith, pow_pos k))
pow-lt (suc i) (suc k) h = rw (pow-suc 2 k, pow-suc 2 i) (omega (arith, pow-lt i k (omega arith)))

-- the operator applied to each number of a list
unfoldable pub applied : List ℕ → List ℕ → List ℕ
applied op [] = []
applied op (x ∷ xs) = picked op x ∷ applied op xs

applies : (n m k i : ℕ) → i + k ≤ 32 → applied (advanced n 32 0) (advanced m k i) ≡ advanced (m + n) k i
unfolding advanced applied
applies n m zero i h = refl
applies n m (suc k) i h =
    let l : crc_bits m (2 ^ i) < 2 ^ 32 = bits-lt m (2 ^ i) (pow-lt i 32 (omega arith)) in
    let p = later n (crc_bits m (2 ^ i)) l ∙ sym (bits-add m n (2 ^ i)) in
    rw (p, applies n m k (suc i) (omega arith))

unfoldable pub doubled : ℕ → List ℕ → List ℕ
doubled zero op = op
doubled (suc j) op = doubled j (applied op op)

doubles : (j n : ℕ) → doubled j (advanced n 32 0) ≡ advanced (2 ^ j * n) 32 0
unfolding doubled
doubles zero n = let o : 2 ^ 0 * n ≡ n = omega arith in rw o
doubles (suc j) n =
    let e : 2 ^ j * (n + n) ≡ 2 ^ suc j * n
    = rw (pow-suc 2 j, mul_assoc (2 ^ j) 2 n) (ap (λ (x : ℕ). 2 ^ j * x) (omega arith)) in
    rw (applies n n 32 0 (omega arith), doubles j (n + n), e)

pub lane-doubled : {op : List ℕ} → op ≡ doubled 10 (advanced 32 32 0) → op ≡ lane_operator
lane-doubled e = e ∙ doubles 10 32
