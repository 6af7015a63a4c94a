-- `crc::blocks::over_bytes` meets its contract: the bytes that are left, from the register as it is. Assumes nothing.
use mathlib.Core.Path.{◌≡◌}
use Prim.Native.Nat.{◌-◌, ◌%◌}
use lib.ListN.{length, drop}
use Rattle.lists.specs.Lists.{fold}
use Rattle.crc.specs.Crc.{crc_byte}
use Rattle.crc.proofs.blocks.over_bytes.Given as goal

abbrev pub invariant-loop-block : goal.invariant-loop-block
invariant-loop-block l =
    let left = l.block-iterator.rest.now in
    (l.block-iterator.size ≡ 32768)
    × (l.rest ≡ drop (length left - length left % 32768) left)
    × (fold crc_byte l.c left ≡ fold crc_byte l.start l.s)

abbrev pub invariant-loop-byte : goal.invariant-loop-byte
invariant-loop-byte l = fold crc_byte l.c (drop l.byte-index l.rest) ≡ fold crc_byte l.start l.s
