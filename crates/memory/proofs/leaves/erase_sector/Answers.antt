-- `memory::leaves::erase_sector` meets its contract. Assumes nothing.
use mathlib.Core.Path.{ap, ◌∙◌}
use mathlib.Core.List.{List}
use Prim.Native.Nat.{ℕ, ◌+◌, ◌*◌, ◌-◌, ◌/◌}
use native.Mathlib.Omega.{arith}
use borrow.Author.Rules.{rules}
use lib.ListN.{length, get_or, take, drop}
use Rattle.memory.specs.Memory.{erased, stored}
use Rattle.memory.specs.Replaced.{noted}
use Rattle.memory.proofs.Memory.{length-mid, length-erased, filled_none}
use Rattle.memory.proofs.Counts.{part-counted}
use Rattle.memory.proofs.leaves.erase_sector.Goals as goal

pub returns : goal.returns
unfolding stored
returns c =
    let s = c in
    let m = s.args.memory.now in
    let ts = s.args.tallies.now in
    let k = s.args.place / 4096 in
    let a = k * 4096 in
    let l = length-erased 4096 in
    part-counted m ts a (a + 4096) k (erased 4096) (omega arith) s.requires.fits (omega arith) (omega arith)
    (λ i. search rules)
    (c.fill_part-n.ensures
    ∙ ap (λ (l : List ℕ). noted (take (a + 4096 - a) (drop a m)) l (get_or ts k 0))
    (filled_none (length (take (a + 4096 - a) (drop a m))) ∙ ap erased (length-mid m a 4096 s.requires.fits)))
