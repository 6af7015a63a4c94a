-- `crc::crc32` meets its contract. Assumes nothing.
use mathlib.Core.Path.{ap, ◌∙◌}
use Prim.Native.Nat.{ℕ, ◌-◌}
use Rattle.lists.specs.Lists.{fold}
use Rattle.crc.specs.Crc.{crc_byte, crc32}
use Rattle.crc.specs.Pieces.{crc_feed, crc_finish}
use Rattle.crc.proofs.crc32.Goals as goal

pub returns : goal.returns
unfolding crc32 crc_feed crc_finish
returns c =
    let s = c.args.s.now in
    c.crc_finish.ensures
    ∙ ap (λ (x : ℕ). 0xffffffff - x)
    (c.crc_feed.ensures ∙ ap (λ (x : ℕ). fold crc_byte x s) c.crc_start.ensures)
