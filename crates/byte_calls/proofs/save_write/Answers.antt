-- `byte_calls::save_write` meets its contract. Assumes nothing.
use mathlib.Core.Path.{refl, sym, ap, ◌∙◌}
use mathlib.Core.List.{[]}
use Rattle.refusal.specs.Refusals.{refusal_number}
use Rattle.refusal.proofs.Passed.{not-0}
use Rattle.cart.proofs.Replies.{passed-reply}
use Rattle.cart.specs.Replies.{Reply}
use Rattle.cart.specs.Calls.{save_write, questions}
use Rattle.cart.specs.Replies.{tallied, store_replied}
use Rattle.cart.proofs.Replies.{step-no, step-yes}
use Rattle.byte_calls.proofs.save_write.Goals as goal

pub returns-in_err-store_door : goal.returns-in_err-store_door
unfolding questions
returns-in_err-store_door c =
    let a = c.args in
    let s = tallied a.cart a.memory.now a.tallies.now in
    ap (λ (r : Reply). (r, a.memory.now, a.tallies.now)) (passed-reply a.cart c.from_residual.result c.in_err-store_door.field-0.0 c.from_residual.ensures.1)
    ∙ ap store_replied (sym (step-no (save_write a.address a.value) [] s (refusal_number c.in_err-store_door.field-0.0) c.in_err-store_door.ensures (not-0 c.in_err-store_door.field-0.0)))

pub returns : goal.returns
unfolding questions
returns c =
    let a = c.args in
    let s = tallied a.cart a.memory.now a.tallies.now in
    c.write_save.ensures
    ∙ ap store_replied (sym (step-yes (save_write a.address a.value) [] s 0 c.in_ok-store_door.ensures refl))
