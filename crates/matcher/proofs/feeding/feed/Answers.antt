-- `matcher::feeding::feed` meets its contract: the bytes that are left, read from the present state, give the whole. Assumes nothing.
use mathlib.Core.Path.{◌∙◌}
use native.Mathlib.Omega.{arith}
use lib.ListN.{drop}
use borrow.Author.Tests.{not-false}
use Rattle.matcher.proofs.Reading.{read-end, read-stop}
use Rattle.matcher.proofs.feeding.feed.Goals as goal

pub returns-else-not-now : goal.returns-else-not-now
returns-else-not-now c =
    let b = c.loop-n in
    read-stop b.now (drop b.n c.args.part.now) b.n (not-false b.now.sram c.if-not-now.false) ∙ b.invariant.1

pub returns-after-loop-n : goal.returns-after-loop-n
returns-after-loop-n c =
    let b = c.loop-n in
    read-end b.now c.args.part.now b.n (omega arith) ∙ b.invariant.1
