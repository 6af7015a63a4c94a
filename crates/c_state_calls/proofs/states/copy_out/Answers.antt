-- `c_state_calls::states::copy_out` meets its contract. Assumes nothing.
use lib.ListN.{get_or}
use Rattle.c_state_calls.proofs.StateCalls.{copied-out}
use Rattle.c_state_calls.proofs.states.copy_out.Goals as goal

pub returns : goal.returns
returns c =
    let s = c in
    let r = s.args.cart.now in
    copied-out r s.requires.0 s.args.bytes.now (get_or r 5 0) 2 s.requires.1 c.copy_file.ensures
