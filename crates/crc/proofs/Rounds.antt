-- A round: four bytes of each lane, added as one number and taken out by four bytes of bits. Assumes nothing.
use mathlib.Core.Path.{◌≡◌, refl, sym, ap, ◌∙◌}
use mathlib.Core.List.{List, [], ◌∷◌}
use Prim.Native.Nat.{ℕ, zero, suc, ◌+◌, ◌*◌, ◌^◌, ◌-◌, ◌<◌, ◌≤◌}
use native.Mathlib.Omega.{arith}
use lib.Bits.{bit_xor, xor_comm, xor_shifted}
use lib.ListN.{length, take, drop, get_or}
use lib.Seq.{drop-drop}
use Rattle.lists.specs.Lists.{fold}
use Rattle.lists.proofs.Parts.{spells}
use Rattle.crc.specs.Crc.{crc_bits, crc_byte}
use Rattle.crc.specs.Lanes.{started, lane, lane_ends, word_at, words_in, bytes_out}
use Rattle.crc.proofs.Folds.{fold-take}
use Rattle.crc.proofs.Polynomial.{xor_assoc, bits-xor, bits-zero}

-- a byte below others: its eight bits leave, and the others move to its place
byte-below : (c b x : ℕ) → b < 256 → crc_bits 8 (bit_xor c (b + 256 * x)) ≡ bit_xor (crc_byte c b) x
unfolding crc_byte
byte-below c b x h =
    let e : b + 256 * x ≡ bit_xor b (x * 2 ^ 8) = sym (xor_comm b (x * 2 ^ 8) ∙ xor_shifted x 8 b h ∙ omega arith) in
    ap (λ (y : ℕ). crc_bits 8 (bit_xor c y)) e
    ∙ ap (crc_bits 8) (sym (xor_assoc c b (x * 2 ^ 8)))
    ∙ bits-xor 8 (bit_xor c b) (x * 2 ^ 8)
    ∙ rw (bits-zero 8 x)

abbrev four_out : ℕ → ℕ
four_out c = crc_bits 8 (crc_bits 8 (crc_bits 8 (crc_bits 8 c)))

word_below : (c a b d e : ℕ) → a < 256 → b < 256 → d < 256
    → four_out (bit_xor c (a + 256 * (b + 256 * (d + 256 * e)))) ≡ fold crc_byte c (a ∷ b ∷ d ∷ e ∷ [])
unfolding crc_byte fold
word_below c a b d e ha hb hd =
    rw (
      byte-below c a (b + 256 * (d + 256 * e)) ha,
      byte-below (crc_byte c a) b (d + 256 * e) hb,
      byte-below (crc_byte (crc_byte c a) b) d e hd,
    )

-- a lane by four bytes more
lane-on : (x : ℕ) (s : List ℕ) (a i : ℕ) → ((j : ℕ) → get_or s j 0 < 256) → a + i + 4 ≤ length s
    → four_out (bit_xor (lane x s a i) (word_at s (a + i))) ≡ lane x s a (i + 4)
unfolding lane word_at
lane-on x s a i b h =
    let p = a + i in
    let z : p + 0 ≡ p = omega arith in
    let t : take 4 (drop p s) ≡ get_or s p 0 ∷ get_or s (p + 1) 0 ∷ get_or s (p + 2) 0 ∷ get_or s (p + 3) 0 ∷ []
    = rw z at (spells s p 4 0 (omega arith)) in
    let v = fold crc_byte x (take i (drop a s)) in
    word_below v (get_or s p 0) (get_or s (p + 1) 0) (get_or s (p + 2) 0) (get_or s (p + 3) 0) (b p) (b (p + 1)) (b (p + 2))
    ∙ ap (λ (l : List ℕ). fold crc_byte v l) (sym (ap (take 4) (drop-drop i a s) ∙ t))
    ∙ fold-take crc_byte x (drop a s) i 4

-- the bytes of a round that are still to leave
unfoldable pub leaves : ℕ → List ℕ → List ℕ
leaves zero v = v
leaves (suc n) v = leaves n (bytes_out v)

pub leave-one : (k : ℕ) (v : List ℕ) → k < 4 → leaves (4 - (k + 1)) (bytes_out v) ≡ leaves (4 - k) v
unfolding leaves
leave-one k v h = let e : 4 - k ≡ suc (4 - (k + 1)) = omega arith in rw e

pub all_left : (k : ℕ) (v : List ℕ) → k ≡ 4 → leaves (4 - k) v ≡ v
unfolding leaves
all_left k v e = rw e

pub none_yet : (c : ℕ) (s : List ℕ) → started c ≡ lane_ends c s 0
unfolding lane_ends lane fold
none_yet c s = refl

room : (a i : ℕ) (s : List ℕ) → a ≤ 28672 → length s ≡ 32768 → i + 4 ≤ 4096 → a + i + 4 ≤ length s
room a i s h l k = omega arith

-- all lanes by four bytes more
pub round : (c : ℕ) (s : List ℕ) (i : ℕ) → ((j : ℕ) → get_or s j 0 < 256) → length s ≡ 32768 → i + 4 ≤ 4096
    → leaves 4 (words_in s i (lane_ends c s i)) ≡ lane_ends c s (i + 4)
unfolding leaves lane_ends
round c s i b l h =
    rw (
      lane-on c s 0 i b (room 0 i s (omega arith) l h),
      lane-on 0 s 4096 i b (room 4096 i s (omega arith) l h),
      lane-on 0 s 8192 i b (room 8192 i s (omega arith) l h),
      lane-on 0 s 12288 i b (room 12288 i s (omega arith) l h),
      lane-on 0 s 16384 i b (room 16384 i s (omega arith) l h),
      lane-on 0 s 20480 i b (room 20480 i s (omega arith) l h),
      lane-on 0 s 24576 i b (room 24576 i s (omega arith) l h),
      lane-on 0 s 28672 i b (room 28672 i s (omega arith) l h),
    )
