-- `memory::parts::fill_part` meets its contract. Assumes nothing.
use native.Mathlib.Omega.{arith}
use lib.ListN.{length}
use Rattle.counts.proofs.Counts.{differing-le}
use Rattle.memory.specs.Memory.{filled}
use Rattle.memory.proofs.Replaced.{filled-changed, before-le, after-le, filled-noted}
use Rattle.memory.proofs.parts.fill_part.Goals as goal

pub overflow_add-result : goal.overflow_add-result
overflow_add-result c =
    let s = c in
    let m = s.args.part.now in
    let r = c.replace-front.ensures in
    let e = c.erase-rest.ensures in
    omega (arith, s.requires, filled-changed m s.args.bytes.now s.requires.1 r.part_after r.replaced e.value e.part_after, differing-le m (filled (length m) s.args.bytes.now))

pub overflow_add-front : goal.overflow_add-front
overflow_add-front c =
    let s = c in
    let r = c.replace-front.ensures in
    let e = c.erase-rest.ensures in
    omega (arith, s.requires, before-le s.args.part.now s.args.bytes.now s.requires.1 r.part_after r.replaced e.value e.part_after)

pub retally-requires : goal.retally-requires
retally-requires c =
    let s = c in
    let r = c.replace-front.ensures in
    let e = c.erase-rest.ensures in (
      omega (arith, s.requires, before-le s.args.part.now s.args.bytes.now s.requires.1 r.part_after r.replaced e.value e.part_after),
      omega (arith, s.requires, after-le s.args.part.now s.args.bytes.now s.requires.1 r.part_after r.replaced e.value e.part_after),
    )

pub returns : goal.returns
returns c =
    let s = c in
    let r = c.replace-front.ensures in
    let e = c.erase-rest.ensures in
    filled-noted s.args.part.now s.args.bytes.now s.requires.1 r.part_after r.replaced e.value e.part_after s.args.tally s.requires.0 c.retally.ensures
