-- `c_state_calls::values::is_blank` meets its contract. Assumes nothing.
use mathlib.Core.Path.{sym, ap, ◌∙◌}
use Rattle.lists.proofs.Bools.{denied, granted}
use Rattle.lists.specs.Lists.{bit}
use Rattle.kind.specs.Kind.{tally_count}
use Rattle.cart.specs.declared.Cartridge.{Cartridge}
use Rattle.cart.specs.Calls.{is_blank}
use Rattle.c_state_calls.proofs.ValueCalls.{asked-no, blank-16, blank-yes}
use Rattle.c_state_calls.proofs.values.is_blank.Goals as goal

pub returns-then-not-is_record : goal.returns-then-not-is_record
returns-then-not-is_record c =
    let a = c.args in
    asked-no (λ (x : Cartridge). is_blank x a.tallies.now) a.cart.now a.blank.now (denied _ c.is_record.ensures.value c.if-not-is_record.true)

pub returns-then-tallies-tally_count : goal.returns-then-tallies-tally_count
returns-then-tallies-tally_count c =
    let a = c.args in
    let i = c.is_record.ensures in
    let e = c.tally_count.ensures ∙ ap tally_count c.kind_in.ensures in
    blank-16 a.cart.now (i.valid (granted _ i.value c.if-not-is_record.false)) a.tallies.now a.blank.now (λ z. c.if-tallies-tally_count.true (z ∙ sym e))

pub returns : goal.returns
returns c =
    let a = c.args in
    let i = c.is_record.ensures in
    blank-yes a.cart.now (i.valid (granted _ i.value c.if-not-is_record.false)) a.tallies.now a.blank.now (c.if-tallies-tally_count.false ∙ c.tally_count.ensures ∙ ap tally_count c.kind_in.ensures) (c.bit.ensures ∙ ap bit c.is_blank.ensures)
