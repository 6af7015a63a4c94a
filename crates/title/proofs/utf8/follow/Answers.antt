-- `title::utf8::follow` meets its contract. Assumes nothing.
use native.Mathlib.Omega.{arith}
use Rattle.lists.proofs.Bools.{denied, granted}
use Rattle.title.specs.Title.{between}
use Rattle.title.proofs.Sequences.{ill-1, well-2, ill-2, well-3, ill-3, well-4}
use Rattle.title.proofs.utf8.follow.Goals as goal

pub returns-then-not-in_range : goal.returns-then-not-in_range
returns-then-not-in_range c =
    let a = c.args in
    let t = c.in_range in
    ill-1 a.s.now a.n (between a.lo a.hi) (denied t.result t.ensures c.if-not-in_range.true)

pub returns-then-n-eq1 : goal.returns-then-n-eq1
returns-then-n-eq1 c =
    let a = c.args in
    let t = c.in_range in
    well-2 a.s.now a.n (between a.lo a.hi) (granted t.result t.ensures c.if-not-in_range.false) c.if-n-eq1.true

pub returns-then-not-in_range-2 : goal.returns-then-not-in_range-2
returns-then-not-in_range-2 c =
    let a = c.args in
    let t = c.in_range in
    let u = c.in_range-2 in
    ill-2 a.s.now a.n (between a.lo a.hi) (granted t.result t.ensures c.if-not-in_range.false) (omega (arith, c.requires)) (denied u.result u.ensures c.if-not-in_range-2.true)

pub returns-then-n-eq2 : goal.returns-then-n-eq2
returns-then-n-eq2 c =
    let a = c.args in
    let t = c.in_range in
    let u = c.in_range-2 in
    well-3 a.s.now a.n (between a.lo a.hi) (granted t.result t.ensures c.if-not-in_range.false) (granted u.result u.ensures c.if-not-in_range-2.false) c.if-n-eq2.true

pub returns-then-not-in_range-3 : goal.returns-then-not-in_range-3
returns-then-not-in_range-3 c =
    let a = c.args in
    let t = c.in_range in
    let u = c.in_range-2 in
    let v = c.in_range-3 in
    ill-3 a.s.now a.n (between a.lo a.hi) (granted t.result t.ensures c.if-not-in_range.false) (granted u.result u.ensures c.if-not-in_range-2.false) (omega (arith, c.requires)) (denied v.result v.ensures c.if-not-in_range-3.true)

pub returns : goal.returns
returns c =
    let a = c.args in
    let t = c.in_range in
    let u = c.in_range-2 in
    let v = c.in_range-3 in
    well-4 a.s.now a.n (between a.lo a.hi) (granted t.result t.ensures c.if-not-in_range.false) (granted u.result u.ensures c.if-not-in_range-2.false) (omega (arith, c.requires)) (granted v.result v.ensures c.if-not-in_range-3.false)
