-- `crc::lanes::words_in` meets its contract. Assumes nothing.
use mathlib.Core.Path.{◌≡◌}
use mathlib.Core.List.{◌++◌}
use Prim.Native.Nat.{◌+◌, ◌*◌}
use lib.Bits.{bit_xor}
use lib.ListN.{length, take, drop}
use Rattle.crc.specs.Lanes.{each, word_at, words_in}
use Rattle.crc.proofs.lanes.words_in.Given as goal

abbrev pub invariant-loop-lane : goal.invariant-loop-lane
invariant-loop-lane l =
    (length l.registers ≡ 8)
    × (take l.lane l.registers ++ each (λ a c. bit_xor c (word_at l.s (a + l.i))) (4096 * l.lane) (drop l.lane l.registers)
    ≡ words_in l.s l.i l.fn.registers)
