-- `c_state_calls::states::chip_state` meets its contract. Assumes nothing.
use mathlib.Core.Path.{ap}
use mathlib.Core.List.{[]}
use Rattle.lists.proofs.Bools.{denied, granted}
use Rattle.cart.specs.Calls.{chip_state, step}
use Rattle.c_record.specs.AtExit.{state_at}
use Rattle.c_record.proofs.Calls.{no_record}
use Rattle.c_state_calls.proofs.StateCalls.{state-yes}
use Rattle.c_state_calls.proofs.states.chip_state.Goals as goal

pub returns-then-not-is_record : goal.returns-then-not-is_record
returns-then-not-is_record c =
    let a = c.args in
    λ m. ap (state_at a.bytes.now) (no_record (step chip_state []) [] a.cart.now m [] (denied _ c.is_record.ensures.value c.if-not-is_record.true))

pub returns : goal.returns
returns c =
    let a = c.args in
    let i = c.is_record.ensures in
    λ m. state-yes a.cart.now (i.valid (granted _ i.value c.if-not-is_record.false)) m a.bytes.now c.copy_out.ensures
