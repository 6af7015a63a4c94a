use mathlib.Core.Path.{◌∙◌}
use borrow.Author.Tests.{ne_eqb}
use Rattle.frames.specs.Frames.{frame_of}
use Rattle.frames.proofs.frame_of.Goals as goal

pub returns-in-10 : goal.returns-in-10
unfolding frame_of
returns-in-10 c = c.ten_digits.ensures ∙ rw c.in-10.is

pub returns-in-12 : goal.returns-in-12
unfolding frame_of
returns-in-12 c = c.twelve_digits.ensures ∙ rw c.in-12.is

pub returns-in-2 : goal.returns-in-2
unfolding frame_of
returns-in-2 c = c.two_digits.ensures ∙ rw c.in-2.is

pub returns-in-6 : goal.returns-in-6
unfolding frame_of
returns-in-6 c = c.six_digits.ensures ∙ rw c.in-6.is

pub returns-in_default : goal.returns-in_default
unfolding frame_of
returns-in_default c =
    rw (
      ne_eqb _ _ c.in_default.in_default-own.rest.0.0.0.1,
      ne_eqb _ _ c.in_default.in_default-own.rest.0.0.1,
      ne_eqb _ _ c.in_default.in_default-own.rest.0.1,
      ne_eqb _ _ c.in_default.in_default-own.rest.1,
    )
