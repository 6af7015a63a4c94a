-- The operator that joins lanes: the register by its digits, some bits later.
use Rattle.std.specs.Prelude.{List, [], ◌∷◌, ℕ, zero, suc, ◌*◌, ◌/◌, ◌%◌, ◌^◌}
use Rattle.std.specs.Int.Bits.{bit_xor}
use Rattle.crc.specs.Crc.{crc_bits}

-- the k digits from digit i on, each after n bits have left the register
unfoldable pub advanced : ℕ → ℕ → ℕ → List ℕ
advanced n zero i = []
advanced n (suc k) i = crc_bits n (2 ^ i) ∷ advanced n k (suc i)

-- all 32 digits after the 4,096 bytes of a lane
abbrev pub lane_operator : List ℕ
lane_operator = advanced 32768 32 0

-- the numbers at the digits of c that are 1, added without carries
unfoldable pub picked : List ℕ → ℕ → ℕ
picked [] c = 0
picked (x ∷ op) c = bit_xor (x * (c % 2)) (picked op (c / 2))
