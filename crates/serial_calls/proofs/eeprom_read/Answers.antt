-- `serial_calls::eeprom_read` meets its contract. Assumes nothing.
use mathlib.Core.Path.{refl, sym, ap, ap₂, ◌∙◌}
use mathlib.Core.List.{[]}
use lib.ListN.{length}
use Rattle.refusal.specs.Refusals.{refusal_number}
use Rattle.refusal.proofs.Passed.{not-0}
use Rattle.cart.proofs.Replies.{passed-reply}
use Rattle.cart.specs.Replies.{Reply}
use native.Mathlib.Omega.{arith}
use Rattle.eeprom.specs.declared.Eeprom.{Eeprom}
use Rattle.cart.specs.Calls.{eeprom_read, questions, accepted}
use Rattle.cart.specs.Counts.{store_of}
use Rattle.cart.specs.Replies.{state, chip_record, cart_with, done, replied}
use Rattle.cart.proofs.Replies.{step-no, step_kept, door-yes}
use Rattle.cart.proofs.Bounds.{allowed-bounds}
use Rattle.cart.proofs.Sound.{eeprom-size}
use Rattle.eeprom.specs.Eeprom.{read_bit}
use Rattle.serial_calls.proofs.eeprom_read.Goals as goal

pub returns-in_err-door : goal.returns-in_err-door
unfolding questions
returns-in_err-door c =
    let a = c.args in
    ap (λ (r : Reply). (r, a.memory.now)) (passed-reply a.cart c.from_residual.result c.in_err-door.field-0.0 c.from_residual.ensures.1)
    ∙ ap replied (sym (step-no eeprom_read [] (state a.cart a.memory.now) (refusal_number c.in_err-door.field-0.0) c.in_err-door.ensures (not-0 c.in_err-door.field-0.0)))

pub read_bit-value-requires : goal.read_bit-value-requires
read_bit-value-requires c =
    let a = c.args in
    let y = door-yes a.cart (length a.memory.now) 0 c.in_ok-door.ensures refl in
    let b = allowed-bounds a.cart y.0 in
    (b.place_ok, λ t. let size = y.1 ∙ eeprom-size a.cart.kind (sym c.uses_eeprom.ensures ∙ t) in omega (arith, b.block_ok))

pub after_read-requires : goal.after_read-requires
after_read-requires c =
    let a = c.args in
    (allowed-bounds a.cart (door-yes a.cart (length a.memory.now) 0 c.in_ok-door.ensures refl).0).place_ok

pub returns : goal.returns
unfolding questions accepted store_of
returns c =
    let a = c.args in
    let m = a.memory.now in
    let v = c.from.ensures ∙ c.read_bit-value.ensures ∙ ap (λ k. read_bit k a.cart.chip.eeprom m) c.uses_eeprom.ensures in
    let e = c.with_eeprom.ensures ∙ ap (λ (x : Eeprom). cart_with a.cart a.cart.dirty (chip_record a.cart.chip.flash x)) c.after_read.ensures in
    ap (λ (r : Reply). (r, m)) (c.done.ensures ∙ ap₂ done v e)
    ∙ ap replied (sym (step_kept eeprom_read [] (state a.cart m) 0 c.in_ok-door.ensures refl refl))
