-- `title::utf8::sequence` meets its contract. Assumes nothing.
use mathlib.Core.Path.{sym, ◌∙◌}
use borrow.Author.Rules.{rules}
use Rattle.title.proofs.Sequences.{sequence-at, sequence-none}
use Rattle.title.proofs.utf8.sequence.Goals as goal

pub returns-then-is_empty : goal.returns-then-is_empty
returns-then-is_empty c = sym (sequence-none c.args.s.now (search rules))

pub returns : goal.returns
returns c = c.begun.ensures ∙ sym (sequence-at c.args.s.now (search rules))
