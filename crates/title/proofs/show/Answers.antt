-- `title::show` meets its contract. Assumes nothing.
use mathlib.Core.Path.{sym, ◌∙◌}
use lib.Seq.{length-take-le}
use Rattle.title.proofs.Sequences.{well-fits, shows-well}
use Rattle.title.proofs.show.Goals as goal

pub slice_bounds-copy-end : goal.slice_bounds-copy-end
slice_bounds-copy-end c =
    sym (length-take-le c.in-Ok.n c.args.s.now (well-fits c.args.s.now c.in-Ok.n c.requires.0 (sym c.sequence.ensures ∙ c.in-Ok.is)))

pub returns-in-Ok : goal.returns-in-Ok
returns-in-Ok c =
    shows-well c.args.s.now c.args.out.now c.in-Ok.n c.requires.0 (sym c.sequence.ensures ∙ c.in-Ok.is) c.copy.ensures
