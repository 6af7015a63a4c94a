use mathlib.Core.Path.{sym}
use native.Mathlib.Omega.{arith}
use lib.Seq.{length-take-le}
use Rattle.file_sizes.proofs.doubled.blank_or_copy.Goals as goal

pub slice_bounds-lower-end : goal.slice_bounds-lower-end
slice_bounds-lower-end c = sym (length-take-le 32768 c.args.file.now (omega arith))
