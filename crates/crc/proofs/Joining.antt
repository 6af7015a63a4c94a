-- Lanes joined: the register after bytes is the sum without carries of what its start and the bytes leave. Assumes
-- nothing.
use mathlib.Core.Path.{◌≡◌, refl, sym, ap, ◌∙◌}
use mathlib.Core.Bool.{true}
use mathlib.Core.List.{List, [], ◌∷◌}
use Prim.Native.Nat.{ℕ, suc, ◌+◌, ◌*◌}
use native.Mathlib.Omega.{arith}
use lib.Bits.{bit_xor, xor_zero_r}
use lib.Dec.{leb}
use lib.ListN.{length, take, drop, get_or, length-drop}
use lib.Seq.{length-take-le, take_all}
use borrow.Author.Tests.{leb-true}
use Rattle.lists.specs.Lists.{fold}
use Rattle.crc.specs.Crc.{crc_bits, crc_byte}
use Rattle.crc.specs.Lanes.{lane, lane_ends}
use Rattle.crc.proofs.Polynomial.{xor_assoc, bits-xor}
use Rattle.crc.proofs.Doubling.{bits-add}
use Rattle.crc.proofs.Folds.{fold-take}

no_bits : (c : ℕ) → crc_bits 0 c ≡ c
unfolding crc_bits
no_bits c = refl

byte-xor : (a z b : ℕ) → crc_byte (bit_xor a z) b ≡ bit_xor (crc_bits 8 a) (crc_byte z b)
unfolding crc_byte
byte-xor a z b = rw (xor_assoc a z b) (bits-xor 8 a (bit_xor z b))

fold-xor : (s : List ℕ) (a z : ℕ)
    → fold crc_byte (bit_xor a z) s ≡ bit_xor (crc_bits (8 * length s) a) (fold crc_byte z s)
unfolding fold
fold-xor [] a z = ap (λ (x : ℕ). bit_xor x z) (sym (no_bits a))
fold-xor (b ∷ s) a z =
    let e : 8 * suc (length s) ≡ 8 + 8 * length s = omega arith in
    ap (λ (x : ℕ). fold crc_byte x s) (byte-xor a z b)
    ∙ fold-xor s (crc_bits 8 a) (crc_byte z b)
    ∙ ap (λ (x : ℕ). bit_xor x (fold crc_byte (crc_byte z b) s))
    (sym (ap (λ (n : ℕ). crc_bits n a) e ∙ bits-add 8 (8 * length s) a))

fold-apart : (c : ℕ) (s : List ℕ) → fold crc_byte c s ≡ bit_xor (crc_bits (8 * length s) c) (fold crc_byte 0 s)
fold-apart c s = ap (λ (x : ℕ). fold crc_byte x s) (sym (xor_zero_r c)) ∙ fold-xor s c 0

-- a lane of 4,096 bytes of a block, joined to the a bytes before it
lane-joined : (c : ℕ) (s : List ℕ) (a x y r : ℕ) → length s ≡ 32768 → leb a 28672 ≡ true
    → x ≡ fold crc_byte c (take a s) → y ≡ lane 0 s a 4096 → r ≡ bit_xor (crc_bits 32768 x) y
    → r ≡ fold crc_byte c (take (a + 4096) s)
unfolding lane
lane-joined c s a x y r e h ex ey er =
    let t = take 4096 (drop a s) in
    let l : length t ≡ 4096
    = length-take-le 4096 (drop a s) (omega (arith, length-drop a s, leb-true a 28672 h)) in
    er
    ∙ ap (λ (v : ℕ). bit_xor (crc_bits 32768 x) v) ey
    ∙ sym (fold-apart x t ∙ ap (λ (n : ℕ). bit_xor (crc_bits (8 * n) x) (fold crc_byte 0 t)) l)
    ∙ ap (λ (v : ℕ). fold crc_byte v t) ex
    ∙ fold-take crc_byte c s a 4096

whole-block : (c : ℕ) (s : List ℕ) → length s ≡ 32768 → fold crc_byte c (take 32768 s) ≡ fold crc_byte c s
whole-block c s e = ap (fold crc_byte c) (take_all 32768 s (omega arith))

-- the register a, and what the next lane leaves
abbrev pub with_lane : ℕ → ℕ → ℕ
with_lane a b = bit_xor (crc_bits 32768 a) b

first_lane : (c : ℕ) (s : List ℕ) → lane c s 0 4096 ≡ fold crc_byte c (take 4096 s)
unfolding lane
first_lane c s = refl

-- a whole block: its lanes, one after the other
pub joined : (c : ℕ) (s v : List ℕ) → length s ≡ 32768 → v ≡ lane_ends c s 4096
    → fold with_lane (get_or v 0 0) (drop 1 v) ≡ fold crc_byte c s
unfolding lane_ends fold
joined c s v l e =
    let r₁ = lane c s 0 4096 in
    let r₂ = with_lane r₁ (lane 0 s 4096 4096) in
    let r₃ = with_lane r₂ (lane 0 s 8192 4096) in
    let r₄ = with_lane r₃ (lane 0 s 12288 4096) in
    let r₅ = with_lane r₄ (lane 0 s 16384 4096) in
    let r₆ = with_lane r₅ (lane 0 s 20480 4096) in
    let r₇ = with_lane r₆ (lane 0 s 24576 4096) in
    let r₈ = with_lane r₇ (lane 0 s 28672 4096) in
    let j₁ = first_lane c s in
    let j₂ = lane-joined c s 4096 r₁ (lane 0 s 4096 4096) r₂ l refl j₁ refl refl in
    let j₃ = lane-joined c s 8192 r₂ (lane 0 s 8192 4096) r₃ l refl j₂ refl refl in
    let j₄ = lane-joined c s 12288 r₃ (lane 0 s 12288 4096) r₄ l refl j₃ refl refl in
    let j₅ = lane-joined c s 16384 r₄ (lane 0 s 16384 4096) r₅ l refl j₄ refl refl in
    let j₆ = lane-joined c s 20480 r₅ (lane 0 s 20480 4096) r₆ l refl j₅ refl refl in
    let j₇ = lane-joined c s 24576 r₆ (lane 0 s 24576 4096) r₇ l refl j₆ refl refl in
    let j₈ = lane-joined c s 28672 r₇ (lane 0 s 28672 4096) r₈ l refl j₇ refl refl in
    ap (λ (v : List ℕ). fold with_lane (get_or v 0 0) (drop 1 v)) e ∙ j₈ ∙ whole-block c s l
