use mathlib.Core.Path.{refl, ◌∙◌}
use native.Mathlib.Omega.{arith}
use Rattle.frames.proofs.Printed.{status-stands, line-once, put_byte, put-end, length-line}
use Rattle.frames.proofs.print.print_line.Goals as goal

pub loop-byte-init : goal.loop-byte-init
loop-byte-init c = (refl, refl, status-stands _ c.args.out.now _ (omega (arith, c.requires)) c.put_digits.ensures.out_after)

pub loop-byte-preserved : goal.loop-byte-preserved
loop-byte-preserved c =
    let b = c.loop-byte in
    let e = c.put_digits-in-loop-byte.ensures in
    let room = c.put_digits.ensures.out_len_unchanged in (
      omega (arith, b.invariant.0),
      e.out_len_unchanged ∙ b.invariant.1,
      e.out_after ∙ rw b.invariant.2 (put_byte c.args.status c.args.bytes.now _ b.byte-index b.end (omega (arith, c.loop-byte-test)) b.invariant.0 (omega (arith, c.loop-byte-test, b.invariant.0, c.requires, room))),
    )

pub returns-clause-value : goal.returns-clause-value
returns-clause-value c =
    let b = c.loop-byte in
    omega (arith, c.loop-byte-test, b.invariant.0, b.auto.byte-index-end, length-line c.args.status c.args.bytes.now)

pub returns-clause-out_after : goal.returns-clause-out_after
returns-clause-out_after c =
    let b = c.loop-byte in
    let a = c.args in
    let room = c.put_digits.ensures.out_len_unchanged in
    rw b.invariant.2 (put-end a.status a.bytes.now _ b.byte-index b.end (omega (arith, c.loop-byte-test, b.auto.byte-index-end)) b.invariant.0 (omega (arith, c.loop-byte-test, b.auto.byte-index-end, b.invariant.0, c.requires, room)))
    ∙ line-once a.status a.bytes.now a.out.now _ (omega (arith, c.requires)) c.put_digits.ensures.out_after
