use mathlib.Core.Path.{◌∙◌}
use Rattle.matcher.proofs.Endings.{ended}
use borrow.Author.Rules.{rules}
use Rattle.matcher.proofs.step.ends.Goals as goal

pub returns : goal.returns
returns c = let a = c.args in c.ends_with.ensures.value ∙ ended a.marker.now a.b a.l (search rules)
