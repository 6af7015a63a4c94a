use mathlib.Core.Path.{◌∙◌}
use Rattle.frames.proofs.first_in.Goals as goal

pub returns-then-l : goal.returns-then-l
returns-then-l c = c.first_of.ensures ∙ rw c.if-l.true
