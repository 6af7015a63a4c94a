-- Eight registers, each over 4,096 bytes of a block of its own.
use Rattle.std.specs.Prelude.{List, [], ◌∷◌, ℕ, ◌+◌, ◌*◌, get_or, take, drop, replicate}
use Rattle.std.specs.Int.Bits.{bit_xor}
use Rattle.lists.specs.Lists.{fold}
use Rattle.crc.specs.Crc.{crc_bits, crc_byte}

-- four bytes, the lowest first, as one number
unfoldable pub word_at : List ℕ → ℕ → ℕ
word_at s i = get_or s i 0 + 256 * (get_or s (i + 1) 0 + 256 * (get_or s (i + 2) 0 + 256 * get_or s (i + 3) 0))

-- each register by its lane's place and its value; the first lane is at place a
abbrev pub each : (ℕ → ℕ → ℕ) → ℕ → List ℕ → List ℕ
each f a [] = []
each f a (c ∷ registers) = f a c ∷ each f (a + 4096) registers

-- four bytes added to each register, and eight bits gone from each
abbrev pub words_in : List ℕ → ℕ → List ℕ → List ℕ
words_in s i registers = each (λ a c. bit_xor c (word_at s (a + i))) 0 registers

abbrev pub bytes_out : List ℕ → List ℕ
bytes_out registers = each (λ a c. crc_bits 8 c) 0 registers

-- the register c after the i bytes from place a on
unfoldable pub lane : ℕ → List ℕ → ℕ → ℕ → ℕ
lane c s a i = fold crc_byte c (take i (drop a s))

-- the first lane continues from c, the others begin at 0
abbrev pub started : ℕ → List ℕ
started c = c ∷ replicate 7 0

-- each lane after its first i bytes
unfoldable pub lane_ends : ℕ → List ℕ → ℕ → List ℕ
lane_ends c s i = each (λ a x. lane x s a i) 0 (started c)
