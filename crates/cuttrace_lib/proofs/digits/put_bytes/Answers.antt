use mathlib.Core.Path.{sym, ◌∙◌}
use Prim.Native.Nat.{◌+◌, ◌*◌, ◌/◌, ◌<◌}
use native.Mathlib.Omega.{arith}
use lib.ListN.{length, length-set}
use Rattle.cuttrace_lib.proofs.Unhex.{unhex-odd, unhex-more, unhex-stopped, unhex-all}
use Rattle.cuttrace_lib.proofs.digits.put_bytes.Goals as goal

pub returns-then-line-ne0 : goal.returns-then-line-ne0
returns-then-line-ne0 c = unhex-odd c.args.line.now (length c.args.line.now / 2) (omega (arith, c.if-line-ne0.true))

pub returns-in_default : goal.returns-in_default
returns-in_default c =
    let b = c.loop-i in
    unhex-stopped c.args.line.now b.room b.i 256 (omega (arith, c.loop-i-test.true)) (sym c.in_default.ensures) (omega arith) b.invariant.1

pub loop-i-preserved : goal.loop-i-preserved
loop-i-preserved c =
    let b = c.loop-i in
    let byte = c.in-Some.ensures in
    let within : 2 * b.i + 1 < length c.args.line.now = omega (arith, c.loop-i-test.true) in (
      length-set b.room b.i c.in-Some.byte ∙ b.invariant.0,
      unhex-more c.args.line.now b.room b.i c.in-Some.byte within (omega (arith, within, b.invariant.0, c.requires)) byte.0 byte.1 b.invariant.1,
    )

pub returns : goal.returns
returns c =
    let b = c.loop-i in
    unhex-all c.args.line.now b.room b.i (omega (arith, c.loop-i-test.false, b.auto.i-end, c.if-line-ne0.false)) b.invariant.1
