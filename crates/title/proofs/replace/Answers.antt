-- `title::replace` meets its contract. The invariant: what is written, with the replacement of what is left, is the whole. Assumes nothing.
use Rattle.title.proofs.Texts.{used-least, used-most, len-most, behind-length, turn, none_left}
use mathlib.Core.Path.{◌∙◌}
use native.Mathlib.Omega.{arith}
use lib.ListN.{take}
use Rattle.title.proofs.replace.Goals as goal

pub slice_bounds-t-count : goal.slice_bounds-t-count
slice_bounds-t-count c =
    let b = c.loop-t in
    let s = c.show-shown in
    used-most b.out b.t.now b.n c.loop-t-test.true b.invariant.0 s.result s.new.out s.ensures

pub slice_bounds-t-start : goal.slice_bounds-t-start
slice_bounds-t-start c =
    let b = c.loop-t in
    let s = c.show-shown in
    used-most b.out b.t.now b.n c.loop-t-test.true b.invariant.0 s.result s.new.out s.ensures

pub loop-t-smaller : goal.loop-t-smaller
loop-t-smaller c =
    let b = c.loop-t in
    let s = c.show-shown in
    omega (arith, used-least b.out b.t.now b.n c.loop-t-test.true b.invariant.0 s.result s.new.out s.ensures)

pub loop-t-preserved : goal.loop-t-preserved
loop-t-preserved c =
    let b = c.loop-t in
    let s = c.show-shown in
    let h = c.loop-t-test.true in
    let m = used-most b.out b.t.now b.n h b.invariant.0 s.result s.new.out s.ensures in
    let l = len-most b.out b.t.now b.n h b.invariant.0 s.result s.new.out s.ensures in
    let k = behind-length b.out b.t.now b.n h b.invariant.0 s.result s.new.out s.ensures in
    (omega (arith, m, l, k), k ∙ b.invariant.1, turn b.out b.t.now b.n h b.invariant.0 s.result s.new.out s.ensures c.args.s.now b.invariant.2)

pub returns : goal.returns
returns c = let b = c.loop-t in (none_left (take b.n b.out) b.t.now c.loop-t-test.false ∙ b.invariant.2, omega arith)
