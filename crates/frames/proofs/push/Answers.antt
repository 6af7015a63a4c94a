use borrow.Author.Tests.{not-true, not-false, lt-ltb, le-ltb}
use mathlib.Core.Path.{◌∙◌}
use Prim.Native.Nat.{◌<◌}
use native.Mathlib.Omega.{arith}
use lib.Dec.{ltb}
use Rattle.lists.proofs.Bools.{cases}
use Rattle.hex_text.specs.Hex.{value_of}
use Rattle.frames.specs.Frames.{pushed}
use Rattle.frames.proofs.push.Goals as goal

pub returns-then-not-l : goal.returns-then-not-l
unfolding pushed
returns-then-not-l c = rw (not-true c.args.l.good c.if-not-l.true)

pub returns-in-Some : goal.returns-in-Some
unfolding pushed
returns-in-Some c =
    let digit = c.in-Some.ensures in
    let fits : value_of c.args.c < 16 = omega (arith, digit) in
    rw (not-false c.args.l.good c.if-not-l.false, lt-ltb _ _ c.if-l-lt12.true, lt-ltb _ _ fits, c.from.ensures ∙ digit.0)

pub returns-in_default : goal.returns-in_default
unfolding pushed
returns-in_default c = rw (not-false c.args.l.good c.if-not-l.false, le-ltb _ _ c.if-l-lt12.false)

pub returns-in_default-2 : goal.returns-in_default-2
unfolding pushed
returns-in_default-2 c =
    let good = not-false c.args.l.good c.if-not-l.false in
    let none = c.in_default.ensures in
    cases (ltb c.args.l.count 12) (λ p. rw (good, p, none)) (λ p. rw (good, p))
