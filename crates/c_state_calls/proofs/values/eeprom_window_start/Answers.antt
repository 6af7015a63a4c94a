-- `c_state_calls::values::eeprom_window_start` meets its contract. Assumes nothing.
use mathlib.Core.Path.{ap, ◌∙◌}
use Rattle.lists.proofs.Bools.{denied, granted}
use Rattle.kind.specs.Kind.{window_start}
use Rattle.cart.specs.Calls.{eeprom_window_start}
use Rattle.c_state_calls.proofs.ValueCalls.{asked-no, window-yes}
use Rattle.c_state_calls.proofs.values.eeprom_window_start.Goals as goal

pub returns-then-not-is_record : goal.returns-then-not-is_record
returns-then-not-is_record c =
    let a = c.args in
    asked-no eeprom_window_start a.cart.now a.start.now (denied _ c.is_record.ensures.value c.if-not-is_record.true)

pub returns : goal.returns
returns c =
    let q = c in
    let a = q.args in
    let i = q.is_record.ensures in
    window-yes a.cart.now (i.valid (granted _ i.value q.if-not-is_record.false)) a.start.now (c.window_start.ensures ∙ ap window_start c.len_in.ensures)
