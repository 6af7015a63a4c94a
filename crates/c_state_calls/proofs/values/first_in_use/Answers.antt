-- `c_state_calls::values::first_in_use` meets its contract. Assumes nothing.
use mathlib.Core.Path.{sym, ap, ◌∙◌}
use Rattle.lists.proofs.Bools.{denied, granted}
use Rattle.kind.specs.Kind.{tally_count}
use Rattle.cart.specs.declared.Cartridge.{Cartridge}
use Rattle.cart.specs.Calls.{in_use}
use Rattle.c_state_calls.proofs.ValueCalls.{asked-no, in-use-16, in-use-yes}
use Rattle.c_state_calls.proofs.values.first_in_use.Goals as goal

pub returns-then-not-is_record : goal.returns-then-not-is_record
returns-then-not-is_record c =
    let a = c.args in
    asked-no (λ (x : Cartridge). in_use x a.tallies.now) a.cart.now a.stretch.now (denied _ c.is_record.ensures.value c.if-not-is_record.true)

pub returns-then-tallies-tally_count : goal.returns-then-tallies-tally_count
returns-then-tallies-tally_count c =
    let a = c.args in
    let i = c.is_record.ensures in
    let e = c.tally_count.ensures ∙ ap tally_count c.kind_in.ensures in
    in-use-16 a.cart.now (i.valid (granted _ i.value c.if-not-is_record.false)) a.tallies.now a.stretch.now (λ z. c.if-tallies-tally_count.true (z ∙ sym e))

pub returns : goal.returns
returns c =
    let a = c.args in
    let i = c.is_record.ensures in
    in-use-yes a.cart.now (i.valid (granted _ i.value c.if-not-is_record.false)) a.tallies.now a.stretch.now (c.if-tallies-tally_count.false ∙ c.tally_count.ensures ∙ ap tally_count c.kind_in.ensures) c.first_in_use.ensures
