-- `crc::operator::Operator::pick` meets its contract: what is picked, and what the digits that are left pick, is the whole.
-- Assumes nothing.
use mathlib.Core.Path.{sym, ap, ◌∙◌}
use Prim.Native.Nat.{ℕ, ◌+◌, ◌/◌}
use native.Mathlib.Omega.{arith}
use lib.Bits.{bit_xor}
use lib.ListN.{length, drop}
use Rattle.crc.specs.Operator.{picked}
use Rattle.crc.proofs.Digits.{advanced-length, pick-on, pick_end}
use Rattle.crc.proofs.operator.Operator.pick.Goals as goal

pub loop-number-preserved : goal.loop-number-preserved
loop-number-preserved c =
    let b = c.loop-number in
    let op = c.args.self.numbers.now in
    ap (λ (x : ℕ). bit_xor (bit_xor b.sum x) (picked (drop (b.number-index + 1) op) (b.digits / 2))) c.if_one-sum.ensures
    ∙ pick-on op b.number-index b.sum b.digits (omega arith)
    ∙ b.invariant

pub returns : goal.returns
returns c =
    let b = c.loop-number in
    let op = c.args.self in
    let l = ap length op.right ∙ advanced-length 32768 32 0 in
    sym (pick_end op.numbers.now b.number-index b.sum b.digits (omega (arith, l))) ∙ b.invariant
