-- `matcher::feeding::advance` meets its contract. Assumes nothing.
use native.Mathlib.Omega.{arith}
use Prim.Native.Nat.{◌<◌, min}
use lib.ListN.{length}
use Rattle.std.proofs.Math.Nat.{le-min}
use Rattle.matcher.proofs.Reading.{advanced-run, advanced-some}
use borrow.Author.Rules.{rules}
use Rattle.matcher.proofs.feeding.advance.Goals as goal

pub returns-then-run-ne0 : goal.returns-then-run-ne0
returns-then-run-ne0 c =
    let a = c.args in
    let q = c.quiet_run-run in
    advanced-run a.m a.part.now q.result c.pass_over.result c.requires.0 (search rules) q.ensures c.if-run-ne0.true c.pass_over.ensures

pub returns : goal.returns
returns c =
    let a = c.args in
    let p = c.requires in
    let some : 0 < min (length a.part.now) 32 = le-min p.1 (omega arith) in
    advanced-some a.m a.part.now c.min.result c.over_bytes.result p.0 p.1 (omega (arith, c.min.ensures, some)) c.over_bytes.ensures
