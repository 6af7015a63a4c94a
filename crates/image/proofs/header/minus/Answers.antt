use Rattle.std.proofs.Common.{arith}
use Rattle.image.specs.Image.{less}
use Rattle.image.proofs.header.minus.Goals as goal

pub returns : goal.returns
unfolding less
returns c = omega arith
