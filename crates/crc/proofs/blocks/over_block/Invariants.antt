-- `crc::blocks::over_block` meets its contract: the lanes that are left, from the register as it is. Assumes nothing.
use mathlib.Core.Path.{◌≡◌}
use lib.ListN.{drop}
use Rattle.lists.specs.Lists.{fold}
use Rattle.crc.specs.Crc.{crc_byte}
use Rattle.crc.proofs.Joining.{with_lane}
use Rattle.crc.proofs.blocks.over_block.Given as goal

abbrev pub invariant-loop-end : goal.invariant-loop-end
invariant-loop-end l = fold with_lane l.c (drop l.end-index l.end-items) ≡ fold crc_byte l.start l.s
