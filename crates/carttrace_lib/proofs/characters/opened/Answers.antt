use mathlib.Core.Path.{◌∙◌}
use Rattle.carttrace_lib.specs.declared.Stage.TheVariants.{First}
use Rattle.carttrace_lib.specs.Session.{session_with, opened}
use Rattle.carttrace_lib.proofs.characters.opened.Goals as goal

pub returns : goal.returns
unfolding opened
returns c = c.session_with.ensures ∙ (λ i. session_with First (c.empty_line.ensures i) (c.fresh_cart.ensures i))
