-- `crc::blocks::over_block` meets its contract: the lanes that are left, from the register as it is. Assumes nothing.
use mathlib.Core.Path.{sym, ap, ◌∙◌}
use Prim.Native.Nat.{ℕ, ◌+◌}
use native.Mathlib.Omega.{arith}
use lib.ListN.{get_or, take, drop, length-drop}
use lib.Seq.{take_all}
use Rattle.lists.specs.Lists.{fold}
use Rattle.crc.proofs.Folds.{fold_next, fold_end}
use Rattle.crc.proofs.Joining.{with_lane, joined}
use Rattle.crc.proofs.blocks.over_block.Goals as goal

pub loop-end-init : goal.loop-end-init
loop-end-init c =
    let ends = c.lane_ends-ends.result in
    ap (fold with_lane (get_or ends 0 0)) (take_all 7 (drop 1 ends) (omega (arith, length-drop 1 ends)))
    ∙ joined c.args.start c.args.s.now ends c.requires.s_len c.lane_ends-ends.ensures

pub loop-end-preserved : goal.loop-end-preserved
loop-end-preserved c =
    let b = c.loop-end in
    let others = take 7 (drop 1 c.lane_ends-ends.result) in
    ap (λ (x : ℕ). fold with_lane x (drop (b.end-index + 1) others)) c.join-c.ensures
    ∙ fold_next with_lane b.c others b.end-index (omega arith)
    ∙ b.invariant

pub returns : goal.returns
returns c =
    let b = c.loop-end in
    sym (fold_end with_lane b.c (take 7 (drop 1 c.lane_ends-ends.result)) b.end-index (omega arith)) ∙ b.invariant
