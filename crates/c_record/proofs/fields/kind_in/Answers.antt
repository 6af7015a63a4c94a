-- `c_record::fields::kind_in` meets its contract. Assumes nothing.
use Rattle.c_record.specs.RecordBytes.{cart_of}
use Rattle.c_record.proofs.fields.kind_in.Goals as goal

pub returns : goal.returns
unfolding cart_of
returns c = c.kind_of.ensures
