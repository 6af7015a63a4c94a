-- `c_state_calls::states::restore_chip_state` meets its contract. Assumes nothing.
use mathlib.Core.Path.{sym, ap, ◌∙◌}
use mathlib.Core.List.{[]}
use Prim.Native.Nat.{ℕ}
use Rattle.refusal.specs.Refusals.{refusal_number, number_of}
use Rattle.refusal.proofs.Passed.{not-0}
use native.Mathlib.Omega.{arith}
use Rattle.lists.proofs.Bools.{denied, granted}
use Rattle.cart.specs.Calls.{restore}
use Rattle.c_record.specs.AtExit.{plain}
use Rattle.c_record.proofs.RecordBytes.{are-bytes}
use Rattle.c_record.proofs.Calls.{no_record}
use Rattle.c_state_calls.proofs.StateCalls.{restore-no, restore-yes}
use Rattle.c_state_calls.proofs.states.restore_chip_state.Goals as goal

pub returns-then-not-is_record : goal.returns-then-not-is_record
returns-then-not-is_record c =
    let a = c.args in
    λ m. ap plain (no_record (restore a.bytes.now) [] a.cart.now m [] (denied _ c.is_record.ensures.value c.if-not-is_record.true))

pub returns-in-Err : goal.returns-in-Err
returns-in-Err c =
    let a = c.args in
    let i = c.is_record.ensures in
    let e = c.in-Err.refusal in
    λ m.
    ap (λ (n : ℕ). (n, a.cart.now, m)) (c.from.ensures ∙ c.number.ensures)
    ∙ restore-no a.cart.now (i.valid (granted _ i.value c.if-not-is_record.false)) a.bytes.now m (refusal_number e) (sym (ap number_of c.in-Err.is) ∙ c.state_questions.ensures) (not-0 e)

pub returns : goal.returns
returns c =
    let a = c.args in
    let i = c.is_record.ensures in
    let k = are-bytes a.bytes.now (λ j. omega (arith, c.type_inv.bytes j)) in
    λ m.
    restore-yes a.cart.now (i.valid (granted _ i.value c.if-not-is_record.false)) a.bytes.now m _ c.state_questions.ensures (ap number_of c.in_default.is) k
    c.copy_in.ensures c.put_flag.ensures
