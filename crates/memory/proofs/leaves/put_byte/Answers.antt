-- `memory::leaves::put_byte` meets its contract. Assumes nothing.
use mathlib.Core.Path.{refl, sym, ap, ◌∙◌}
use Prim.Native.Nat.{ℕ, ◌/◌}
use borrow.Author.Rules.{rules}
use lib.ListN.{set}
use Rattle.counts.proofs.Counts.{differing-set}
use Rattle.counts.proofs.Retallied.{retallied-set}
use Rattle.memory.specs.Memory.{stored}
use Rattle.memory.proofs.Counts.{with-count}
use Rattle.memory.proofs.leaves.put_byte.Goals as goal

pub returns : goal.returns
unfolding stored
returns c =
    let s = c in
    let m = s.args.memory.now in
    let ts = s.args.tallies.now in
    let a = s.args.place in
    let v = s.args.value in
    let t = retallied-set ts m a v s.requires.place_in_bounds (λ i. search rules) in
    with-count (c.byte_differs-3.ensures ∙ sym (differing-set m a v s.requires.place_in_bounds)) refl
    (ap (λ (t : ℕ). set ts (a / 4096) t)
    (rw (c.byte_differs.ensures, c.byte_differs-2.ensures) at c.retally.ensures) ∙ sym t)
