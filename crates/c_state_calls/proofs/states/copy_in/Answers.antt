-- `c_state_calls::states::copy_in` meets its contract. Assumes nothing.
use Rattle.c_state_calls.proofs.StateCalls.{copied-in}
use Rattle.c_state_calls.proofs.states.copy_in.Goals as goal

pub returns : goal.returns
returns c =
    let s = c in
    let r = s.args.cart.now in
    copied-in r s.requires.0 s.args.bytes.now s.requires.1 c.copy_file.ensures
