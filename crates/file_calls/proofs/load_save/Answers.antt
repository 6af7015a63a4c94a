-- `file_calls::load_save` meets its contract. Assumes nothing.
use mathlib.Core.Path.{refl, sym, ap, ◌∙◌}
use mathlib.Core.List.{[]}
use Rattle.refusal.specs.Refusals.{refusal_number}
use Rattle.refusal.proofs.Passed.{not-0}
use Rattle.cart.proofs.Replies.{passed-reply}
use Rattle.cart.specs.Replies.{Reply}
use Rattle.cart.specs.Calls.{load_save, questions}
use Rattle.cart.specs.Replies.{tallied, store_replied}
use Rattle.cart.proofs.Replies.{step-no, step-yes}
use Rattle.file_calls.proofs.load_save.Goals as goal

pub returns-in_err-store_door : goal.returns-in_err-store_door
unfolding questions
returns-in_err-store_door c =
    let a = c.args in
    let s = tallied a.cart a.memory.now a.tallies.now in
    ap (λ (r : Reply). (r, a.memory.now, a.tallies.now)) (passed-reply a.cart c.from_residual.result c.in_err-store_door.field-0.0 c.from_residual.ensures.1)
    ∙ ap store_replied (sym (step-no (load_save a.file.now) [] s (refusal_number c.in_err-store_door.field-0.0) c.in_err-store_door.ensures (not-0 c.in_err-store_door.field-0.0)))

pub returns : goal.returns
unfolding questions
returns c =
    let a = c.args in
    let s = tallied a.cart a.memory.now a.tallies.now in
    c.load.ensures
    ∙ ap store_replied (sym (step-yes (load_save a.file.now) [] s 0 c.in_ok-store_door.ensures refl))
