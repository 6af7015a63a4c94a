-- `crc::lanes::lane_ends` meets its contract: each register is the fold over its lane's bytes so far. Assumes nothing.
use mathlib.Core.Path.{◌≡◌, sym, ap, ◌∙◌}
use Prim.Native.Nat.{◌+◌, ◌-◌, ◌*◌}
use native.Mathlib.Omega.{arith}
use Rattle.crc.specs.Lanes.{lane_ends, words_in}
use Rattle.crc.proofs.Rounds.{none_yet, round, leaves, leave-one, all_left}
use Rattle.crc.proofs.lanes.lane_ends.Goals as goal

pub loop-word-init : goal.loop-word-init
loop-word-init c = none_yet c.args.c c.args.s.now

pub loop-init : goal.loop-init
loop-init c =
    let s = c.args.s.now in
    let b = c.loop-word in
    let known = c.type_inv.s in
    ap (leaves 4) (c.words_in.ensures ∙ ap (words_in s (4 * b.word)) b.invariant)
    ∙ round c.args.c s (4 * b.word) (λ j. omega (arith, known j)) c.requires.s_len (omega (arith, c.loop-word-test.true))

pub loop-preserved : goal.loop-preserved
loop-preserved c =
    let k = c.loop.counter in
    ap (leaves (4 - (k + 1))) c.bytes_out.ensures ∙ leave-one k c.loop.registers c.loop-test.true ∙ c.loop.invariant

pub loop-word-preserved : goal.loop-word-preserved
loop-word-preserved c =
    let e : 4 * c.loop-word.word + 4 ≡ 4 * (c.loop-word.word + 1) = omega arith in
    sym (all_left c.loop.counter c.loop.registers (omega (arith, c.loop-test.false, c.loop.auto.counter-end)))
    ∙ c.loop.invariant ∙ ap (lane_ends c.args.c c.args.s.now) e
