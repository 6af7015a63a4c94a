-- `c_state_calls::values::take_save_dirty` meets its contract. Assumes nothing.
use mathlib.Core.Path.{ap}
use mathlib.Core.List.{[]}
use Rattle.lists.proofs.Bools.{denied, granted}
use Rattle.cart.specs.Calls.{take_save_dirty, step}
use Rattle.c_record.specs.AtExit.{flag_at}
use Rattle.c_record.proofs.Calls.{no_record}
use Rattle.c_state_calls.proofs.ValueCalls.{take-yes}
use Rattle.c_state_calls.proofs.values.take_save_dirty.Goals as goal

pub returns-then-not-is_record : goal.returns-then-not-is_record
returns-then-not-is_record c =
    let a = c.args in
    λ m. ap (flag_at a.flag.now) (no_record (step take_save_dirty []) [] a.cart.now m [] (denied _ c.is_record.ensures.value c.if-not-is_record.true))

pub returns : goal.returns
returns c =
    let q = c in
    let a = q.args in
    let i = q.is_record.ensures in
    λ m. take-yes a.cart.now (i.valid (granted _ i.value q.if-not-is_record.false)) m a.flag.now
