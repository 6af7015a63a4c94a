use mathlib.Core.Path.{refl, ◌∙◌}
use mathlib.Core.List.{[]}
use borrow.Author.Tests.{eq-eqb, ne_eqb}
use Rattle.lists.specs.Lists.{into}
use Rattle.frames.specs.Frames.{pushed}
use Rattle.carttrace_lib.specs.Session.{buffers, session_with, took, heard}
use Rattle.carttrace_lib.proofs.Heard.{tells}
use Rattle.carttrace_lib.proofs.characters.take_in.Goals as goal

pub returns-then-c-eq10 : goal.returns-then-c-eq10
unfolding took
returns-then-c-eq10 c = rw (eq-eqb _ _ c.if-c-eq10.true) c.end_line.ensures

pub returns : goal.returns
unfolding took into
returns c =
    let a = c.args in
    rw (ne_eqb _ _ c.if-c-eq10.false)
    (tells (heard [] (session_with a.session.stage (pushed a.session.line a.c) a.session.cart) (buffers a.memory.now a.tallies.now)) a.out.now c.told_with.ensures
    (c.session_with.ensures ∙ (λ i. session_with a.session.stage (c.push.ensures i) a.session.cart)) refl refl refl)
