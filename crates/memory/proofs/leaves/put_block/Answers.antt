-- `memory::leaves::put_block` meets its contract. Assumes nothing.
use Prim.Native.Nat.{◌+◌, ◌*◌, ◌/◌}
use native.Mathlib.Omega.{arith}
use borrow.Author.Rules.{rules}
use lib.ListN.{get_or}
use Rattle.lists.specs.Lists.{digits}
use Rattle.memory.specs.Memory.{stored}
use Rattle.memory.proofs.Memory.{length-word, length-mid}
use Rattle.memory.proofs.Counts.{part-counted}
use Rattle.memory.proofs.Replaced.{replaced-noted}
use Rattle.memory.proofs.leaves.put_block.Goals as goal

pub returns : goal.returns
unfolding stored
returns c =
    let s = c in
    let w = s.args.word in
    let m = s.args.memory.now in
    let ts = s.args.tallies.now in
    let b = s.args.block in
    let a = 8 * b in
    let d = c.word_bytes-bytes.ensures in
    let r = rw d at c.replace_short-c.ensures in
    let n = replaced-noted (get_or ts (b / 512) 0) (omega (arith, length-mid m a 8 s.requires.block_in_bounds)) r.part_after r.replaced c.retally.ensures in
    part-counted m ts a (a + 8) (b / 512) (digits 256 8 w) (omega (arith, length-word w)) s.requires.block_in_bounds (omega arith) (omega (arith, length-word w))
    (λ i. search rules) n
