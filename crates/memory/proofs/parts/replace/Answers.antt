-- `memory::parts::replace` meets its contract, short part by short part. Assumes nothing.
use mathlib.Core.Path.{◌≡◌}
use Prim.Native.Nat.{◌+◌, ◌*◌, ◌/◌}
use native.Mathlib.Omega.{arith}
use lib.ListN.{length, length-take, length-drop}
use Rattle.memory.proofs.Replaced.{below_on, plus-le, below_all}
use borrow.Author.Rules.{rules}
use Rattle.memory.proofs.parts.replace.Goals as goal

pub add-total-requires : goal.add-total-requires
add-total-requires c =
    let s = c in
    let p = plus-le c.loop-k.invariant.1 c.replace_short.ensures.replaced (simp (length-take, length-drop) (omega arith)) in
    (omega (arith, s.requires, p.0), omega (arith, s.requires, p.1), omega (arith, s.requires, p.2))

pub loop-k-preserved : goal.loop-k-preserved
loop-k-preserved c =
    let s = c in
    let b = c.loop-k in
    let r = c.replace_short.ensures in
    let e : 128 * (b.k + 1) ≡ 128 * b.k + 128 = omega arith in
    (search rules, rw (e, c.add-total.ensures) (below_on (omega arith) (omega arith) s.requires.1 b.invariant.1 r.part_after r.replaced))

pub add-requires : goal.add-requires
add-requires c =
    let s = c in
    let p = plus-le c.loop-k.invariant.1 c.replace_short-2.ensures.replaced (simp (length-take, length-drop) (omega arith)) in
    (omega (arith, s.requires, p.0), omega (arith, s.requires, p.1), omega (arith, s.requires, p.2))

pub returns-clause-part_after : goal.returns-clause-part_after
returns-clause-part_after c =
    let s = c in
    let b = c.loop-k in
    let e : length s.args.bytes.now ≡ length b.part = omega arith in
    let r = rw e at c.replace_short-2.ensures in
    let k : b.k ≡ length s.args.part.now / 128 = omega arith in
    let v = rw k at b.invariant.1 in
    (below_all b.invariant.0 s.requires.1 (below_on (omega arith) (omega arith) s.requires.1 v r.part_after r.replaced)).0
