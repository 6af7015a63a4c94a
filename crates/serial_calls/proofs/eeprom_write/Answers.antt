-- `serial_calls::eeprom_write` meets its contract. Assumes nothing.
use mathlib.Core.Path.{refl, sym, ap, ◌∙◌}
use mathlib.Core.List.{[], ◌∷◌}
use Rattle.refusal.specs.Refusals.{refusal_number}
use Rattle.refusal.proofs.Passed.{not-0}
use Rattle.cart.proofs.Replies.{passed-reply}
use Rattle.lists.specs.Questions.{◌else◌}
use Rattle.kind.specs.Kind.{uses_eeprom}
use Rattle.cart.proofs.Replies.{step-no, step-yes, store-door-no, store-door-more}
use native.Mathlib.Omega.{arith}
use lib.ListN.{length}
use Rattle.cart.specs.Replies.{Reply}
use Rattle.lists.proofs.Bools.{denied, granted}
use Rattle.cart.specs.Calls.{eeprom_write, questions}
use Rattle.cart.specs.Replies.{tallied, store_replied}
use Rattle.serial_calls.proofs.eeprom_write.Goals as goal

pub returns-in_err-store_door : goal.returns-in_err-store_door
unfolding questions
returns-in_err-store_door c =
    let a = c.args in
    let n = length a.memory.now in
    let k = length a.tallies.now in
    let s = tallied a.cart a.memory.now a.tallies.now in
    let e = store-door-no a.cart n k (uses_eeprom a.cart.kind else 4 ∷ []) (refusal_number c.in_err-store_door.field-0.0) c.in_err-store_door.ensures (not-0 c.in_err-store_door.field-0.0) in
    ap (λ (r : Reply). (r, a.memory.now, a.tallies.now)) (passed-reply a.cart c.from_residual.result c.in_err-store_door.field-0.0 c.from_residual.ensures.1)
    ∙ ap store_replied (sym (step-no (eeprom_write a.value) [] s (refusal_number c.in_err-store_door.field-0.0) e (not-0 c.in_err-store_door.field-0.0)))

pub returns-then-not-uses_eeprom : goal.returns-then-not-uses_eeprom
unfolding questions
returns-then-not-uses_eeprom c =
    let a = c.args in
    let n = length a.memory.now in
    let k = length a.tallies.now in
    let s = tallied a.cart a.memory.now a.tallies.now in
    let e = store-door-more a.cart n k (uses_eeprom a.cart.kind else 4 ∷ []) 0 c.in_ok-store_door.ensures refl in
    ap store_replied (sym (step-no (eeprom_write a.value) [] s 4 (sym (e ∙ rw (denied _ c.uses_eeprom.ensures c.if-not-uses_eeprom.true))) (λ z. omega arith)))

pub returns : goal.returns
unfolding questions
returns c =
    let a = c.args in
    let n = length a.memory.now in
    let k = length a.tallies.now in
    let s = tallied a.cart a.memory.now a.tallies.now in
    let e = store-door-more a.cart n k (uses_eeprom a.cart.kind else 4 ∷ []) 0 c.in_ok-store_door.ensures refl in
    c.bit_in.ensures
    ∙ ap store_replied (sym (step-yes (eeprom_write a.value) [] s 0 (sym (e ∙ rw (granted _ c.uses_eeprom.ensures c.if-not-uses_eeprom.false))) refl))
