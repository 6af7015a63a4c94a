-- `matcher::quiet::pair_in` meets its contract. The invariant: a pair so far or in what is left, is a pair in all. Assumes nothing.
use mathlib.Core.Path.{◌∙◌}
use Prim.Native.Nat.{◌+◌}
use native.Mathlib.Omega.{arith}
use lib.ListN.{get_or}
use Rattle.matcher.proofs.Pairs.{pairs-on, pairs_end}
use Rattle.matcher.proofs.quiet.pair_in.Goals as goal

pub loop-i-preserved : goal.loop-i-preserved
loop-i-preserved c =
    let b = c.loop-i in
    let w = c.args.w.now in
    pairs-on b.hit (get_or w b.i 0) w (b.i + 1) (omega arith) ∙ b.invariant

pub returns : goal.returns
returns c =
    let b = c.loop-i in
    let w = c.args.w.now in
    pairs_end b.hit (get_or w b.i 0) w (b.i + 1) (omega arith) ∙ b.invariant
