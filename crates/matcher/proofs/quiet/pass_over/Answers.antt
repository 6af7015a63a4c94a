use Prim.Native.Nat.{◌-◌}
use native.Mathlib.Omega.{arith}
use lib.ListN.{length}
use Rattle.matcher.proofs.Reading.{last-nine}
use Rattle.matcher.proofs.quiet.pass_over.Goals as goal

pub returns : goal.returns
returns c =
    let a = c.args in
    last-nine a.m a.part.now (length a.part.now - 9) (omega arith)
