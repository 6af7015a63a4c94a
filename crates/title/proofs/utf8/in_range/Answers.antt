use borrow.Author.Rules.{rules}
use Rattle.title.specs.Title.{between}
use Rattle.title.proofs.Sequences.{begins-at, begins-past}
use Rattle.title.proofs.utf8.in_range.Goals as goal

pub returns : goal.returns
unfolding between
returns c = search (rules, begins-at, begins-past)
