-- `memory::leaves::load` meets its contract, stretch by stretch. Assumes nothing.
use native.Mathlib.Omega.{arith}
use lib.ListN.{length}
use Rattle.counts.proofs.Counts.{differing-le}
use Rattle.memory.specs.Memory.{stored, filled}
use Rattle.memory.proofs.Loads.{loaded_on, loaded-all}
use borrow.Author.Rules.{rules}
use Rattle.memory.proofs.leaves.load.Goals as goal

pub overflow_add-changed : goal.overflow_add-changed
overflow_add-changed c =
    let s = c in
    let b = c.loop-k in
    let to = c.min-to.ensures in
    let from = c.min-from.ensures in
    let p = rw (to, from) at c.fill_part-n.ensures in
    let n = loaded_on s.requires.tallied (omega arith) b.invariant.1 p in
    omega (arith, s.requires.memory_len_bound, n.count, differing-le s.args.memory.now (filled (length s.args.memory.now) s.args.file.now))

pub loop-k-preserved : goal.loop-k-preserved
loop-k-preserved c =
    let s = c in
    let b = c.loop-k in
    let to = c.min-to.ensures in
    let from = c.min-from.ensures in
    let p = rw (to, from) at c.fill_part-n.ensures in
    (search rules, loaded_on s.requires.tallied (omega arith) b.invariant.1 p)

pub returns : goal.returns
unfolding stored
returns c = loaded-all c.requires.tallied (omega arith) c.loop-k.invariant.1
