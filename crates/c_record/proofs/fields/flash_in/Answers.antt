-- `c_record::fields::flash_in` meets its contract. Assumes nothing.
use Rattle.c_record.proofs.FieldBytes.{flash-read}
use Rattle.c_record.proofs.fields.flash_in.Goals as goal

pub returns : goal.returns
returns c = flash-read c.args.cart.now
