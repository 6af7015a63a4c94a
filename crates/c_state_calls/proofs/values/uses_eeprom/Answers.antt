-- `c_state_calls::values::uses_eeprom` meets its contract. Assumes nothing.
use mathlib.Core.Path.{ap, ◌∙◌}
use Rattle.lists.proofs.Bools.{denied, granted}
use Rattle.kind.specs.Kind.{uses_eeprom}
use Rattle.lists.specs.Lists.{bit}
use Rattle.cart.specs.Calls.{uses_eeprom_of}
use Rattle.c_state_calls.proofs.ValueCalls.{asked-no, uses-yes}
use Rattle.c_state_calls.proofs.values.uses_eeprom.Goals as goal

pub returns-then-not-is_record : goal.returns-then-not-is_record
returns-then-not-is_record c =
    let a = c.args in
    asked-no uses_eeprom_of a.cart.now a.answer.now (denied _ c.is_record.ensures.value c.if-not-is_record.true)

pub returns : goal.returns
returns c =
    let q = c in
    let a = q.args in
    let i = q.is_record.ensures in
    uses-yes a.cart.now (i.valid (granted _ i.value q.if-not-is_record.false)) a.answer.now
    (c.bit.ensures ∙ ap bit (c.uses_eeprom.ensures ∙ ap uses_eeprom c.kind_in.ensures))
