use mathlib.Core.Path.{sym, ◌∙◌}
use lib.ListN.{length}
use lib.Seq.{length-take-le}
use Rattle.file_sizes.proofs.Fits.{keeps_le}
use Rattle.file_sizes.proofs.kept_part.Goals as goal

pub slice_bounds-result-end : goal.slice_bounds-result-end
slice_bounds-result-end c =
    let file = c.args.file.now in
    let n = c.in-Some.n in
    sym (length-take-le n file (keeps_le c.args.kind (length file) n (sym c.save_fit.ensures ∙ c.in-Some.is)))
