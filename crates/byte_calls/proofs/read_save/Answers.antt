-- `byte_calls::read_save` meets its contract. Assumes nothing.
use Rattle.cart.specs.Calls.{read_save}
use Rattle.byte_calls.proofs.read_save.Goals as goal

pub returns : goal.returns
unfolding read_save
returns c = c.read_byte.ensures
