-- The register of a CRC: bits of a sum without carries, and eight bits by the table. Assumes nothing.
use mathlib.Core.Path.{◌≡◌, refl, sym, ap, ◌∙◌}
use mathlib.Core.Bool.{true, cond}
use mathlib.Core.List.{List, [], ◌∷◌}
use Prim.Native.Nat.{ℕ, zero, suc, ◌+◌, ◌*◌, ◌/◌, ◌%◌, ◌^◌, ◌<◌}
use native.Mathlib.Nat.{mod-lt, pow-suc, add-zero, zero-add, add-suc, suc-add}
use native.Mathlib.Omega.{arith}
use lib.Arith.{bin_ind}
use lib.Bits.{bit_xor, differ, xor_step, xor_comm, xor_shr, xor_shifted}
use lib.Dec.{eqb}
use lib.ListN.{get_or}
use borrow.Author.Tests.{eqb-true}
use Rattle.lists.proofs.Bools.{and_left, and_right}
use Rattle.crc.specs.Crc.{crc_bit, crc_bits, is_table}

-- a binary digit
pub bit-cases {ℓ} : (P : ℕ → Type ℓ) (x : ℕ) → x < 2 → P 0 → P 1 → P x
bit-cases P zero h a b = a
bit-cases P (suc zero) h a b = b
bit-cases P (suc (suc x)) h a b = absurd (omega arith)

differ-assoc : (x y z : ℕ) → x < 2 → y < 2 → z < 2 → differ (differ x y) z ≡ differ x (differ y z)
differ-assoc x y z hx hy hz =
    bit-cases (λ (u : ℕ). differ (differ u y) z ≡ differ u (differ y z)) x hx refl
    (bit-cases (λ (u : ℕ). differ (differ 1 u) z ≡ differ 1 (differ u z)) y hy refl
    (bit-cases (λ (u : ℕ). differ 0 u ≡ differ 1 (differ 1 u)) z hz refl refl))

pub low-lt : (x : ℕ) → x % 2 < 2
low-lt x = mod-lt x (omega arith)

differ-lt : (x y : ℕ) → x < 2 → y < 2 → differ x y < 2
differ-lt x y hx hy =
    bit-cases (λ (u : ℕ). differ u y < 2) x hx hy (bit-cases (λ (u : ℕ). differ 1 u < 2) y hy (omega arith) (omega arith))

-- the lowest digit of a sum without carries, and the others
xor_low : (a b : ℕ) → bit_xor a b % 2 ≡ differ (a % 2) (b % 2)
xor_low a b =
    let d = differ-lt (a % 2) (b % 2) (low-lt a) (low-lt b) in
    ap (λ (x : ℕ). x % 2) (xor_step a b) ∙ omega arith

xor-half : (a b : ℕ) → bit_xor a b / 2 ≡ bit_xor (a / 2) (b / 2)
xor-half a b = xor_shr a b 1

pub xor_assoc : (a b c : ℕ) → bit_xor (bit_xor a b) c ≡ bit_xor a (bit_xor b c)
xor_assoc =
    bin_ind (λ (a : ℕ). (b c : ℕ) → bit_xor (bit_xor a b) c ≡ bit_xor a (bit_xor b c)) (λ b c. refl)
    (λ a ih b c.
    xor_step (bit_xor a b) c
    ∙ rw (xor-half a b, xor_low a b, ih (b / 2) (c / 2), differ-assoc (a % 2) (b % 2) (c % 2) (low-lt a) (low-lt b) (low-lt c), ← xor-half b c, ← xor_low b c)
    (sym (xor_step a (bit_xor b c))))

-- a bit that leaves: the polynomial is added for each 1, so the bits of a sum leave as the sum of what they leave
crc-xor : (u v : ℕ) → crc_bit (bit_xor u v) ≡ bit_xor (crc_bit u) (crc_bit v)
crc-xor u v =
    rw (xor_low u v, xor-half u v)
    (bit-cases
    (λ (x : ℕ).
    cond (eqb (differ x (v % 2)) 1) (bit_xor 0xedb88320 (bit_xor (u / 2) (v / 2))) (bit_xor (u / 2) (v / 2))
    ≡ bit_xor (cond (eqb x 1) (bit_xor 0xedb88320 (u / 2)) (u / 2)) (crc_bit v))
    (u % 2) (low-lt u)
    (bit-cases
    (λ (y : ℕ).
    cond (eqb y 1) (bit_xor 0xedb88320 (bit_xor (u / 2) (v / 2))) (bit_xor (u / 2) (v / 2))
    ≡ bit_xor (u / 2) (cond (eqb y 1) (bit_xor 0xedb88320 (v / 2)) (v / 2)))
    (v % 2) (low-lt v) refl (swap (u / 2) (v / 2)))
    (bit-cases
    (λ (y : ℕ).
    cond (eqb (differ 1 y) 1) (bit_xor 0xedb88320 (bit_xor (u / 2) (v / 2))) (bit_xor (u / 2) (v / 2))
    ≡ bit_xor (bit_xor 0xedb88320 (u / 2)) (cond (eqb y 1) (bit_xor 0xedb88320 (v / 2)) (v / 2)))
    (v % 2) (low-lt v) (sym (xor_assoc 0xedb88320 (u / 2) (v / 2))) (twice (u / 2) (v / 2))))
  where
    swap : (x y : ℕ) → bit_xor 0xedb88320 (bit_xor x y) ≡ bit_xor x (bit_xor 0xedb88320 y)
    swap x y = sym (xor_assoc 0xedb88320 x y) ∙ rw (xor_comm 0xedb88320 x) (xor_assoc x 0xedb88320 y)

    twice : (x y : ℕ) → bit_xor x y ≡ bit_xor (bit_xor 0xedb88320 x) (bit_xor 0xedb88320 y)
    twice x y =
        sym
        (rw (xor_comm 0xedb88320 x) (xor_assoc x 0xedb88320 (bit_xor 0xedb88320 y))
        ∙ ap (bit_xor x) (sym (xor_assoc 0xedb88320 0xedb88320 y)))

pub bits-xor : (n u v : ℕ) → crc_bits n (bit_xor u v) ≡ bit_xor (crc_bits n u) (crc_bits n v)
unfolding crc_bits
bits-xor zero u v = refl
bits-xor (suc n) u v = rw (crc-xor u v) (bits-xor n (crc_bit u) (crc_bit v))

-- zeros leave nothing behind
pub bits-zero : (n q : ℕ) → crc_bits n (q * 2 ^ n) ≡ q
unfolding crc_bits
bits-zero zero q = omega arith
bits-zero (suc n) q =
    let e : q * 2 ^ suc n ≡ q * 2 ^ n * 2 = rw (pow-suc 2 n) (omega arith) in
    let l : q * 2 ^ n * 2 % 2 ≡ 0 = omega arith in
    let h : q * 2 ^ n * 2 / 2 ≡ q * 2 ^ n = omega arith in
    rw (e, l, h) (bits-zero n q)

-- so the eight bits of a number above a byte are the byte's own, and the rest is added
eight-bits : (x : ℕ) → crc_bits 8 x ≡ bit_xor (crc_bits 8 (x % 256)) (x / 256)
eight-bits x =
    let e : x ≡ bit_xor (x / 256 * 2 ^ 8) (x % 256) = sym (xor_shifted (x / 256) 8 (x % 256) (mod-lt x {m = 256} (omega arith)) ∙ omega arith) in
    ap (crc_bits 8) e ∙ bits-xor 8 (x / 256 * 2 ^ 8) (x % 256) ∙ rw (bits-zero 8 (x / 256)) (xor_comm (x / 256) (crc_bits 8 (x % 256)))

-- a table's number, where the test passes at each
entry : (table : List ℕ) (i k : ℕ) → is_table i table ≡ true → i + k < 256 → get_or table k 0 ≡ crc_bits 8 (i + k)
unfolding is_table
entry [] i k t h = let e = eqb-true i 256 t in absurd (omega arith)
entry (x ∷ table) i zero t h = rw add-zero (eqb-true x (crc_bits 8 i) (and_left (eqb x (crc_bits 8 i)) (is_table (suc i) table) t))
entry (x ∷ table) i (suc k) t h =
    rw (add-suc, ← suc-add) (entry table (suc i) k (and_right (eqb x (crc_bits 8 i)) (is_table (suc i) table) t) (omega arith))

-- eight bits by the table
pub by-table : (table : List ℕ) (v : ℕ) → is_table 0 table ≡ true
    → bit_xor (get_or table (v % 256) 0) (v / 256) ≡ crc_bits 8 v
by-table table v t = sym (eight-bits v ∙ rw (entry table 0 (v % 256) t (omega arith), zero-add))
