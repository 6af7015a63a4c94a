-- `c_record::fields::len_in` meets its contract. Assumes nothing.
use mathlib.Core.Path.{◌∙◌}
use Rattle.c_record.specs.RecordBytes.{cart_of}
use Rattle.c_record.proofs.RecordBytes.{low-four}
use Rattle.c_record.proofs.fields.len_in.Goals as goal

pub returns : goal.returns
unfolding cart_of
returns c = c.low32.ensures ∙ low-four c.args.cart.now
