-- `crc::lanes::bytes_out` meets its contract. Assumes nothing.
use mathlib.Core.Path.{◌≡◌}
use mathlib.Core.List.{◌++◌}
use Prim.Native.Nat.{◌*◌}
use lib.ListN.{length, take, drop}
use Rattle.crc.specs.Crc.{crc_bits}
use Rattle.crc.specs.Lanes.{each, bytes_out}
use Rattle.crc.proofs.lanes.bytes_out.Given as goal

abbrev pub invariant-loop-register : goal.invariant-loop-register
invariant-loop-register l =
    (length l.registers ≡ 8)
    × (take l.register-index l.registers ++ each (λ a c. crc_bits 8 c) (4096 * l.register-index) (drop l.register-index l.registers)
    ≡ bytes_out l.fn.registers)
