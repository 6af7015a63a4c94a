-- `byte_calls::save_read` meets its contract. Assumes nothing.
use Rattle.refusal.specs.Refusals.{refusal_number}
use Rattle.refusal.proofs.Passed.{not-0}
use Rattle.cart.proofs.Replies.{passed-reply}
use Rattle.cart.specs.Replies.{Reply}
use Rattle.cart.specs.Replies.{replied}
use Rattle.cart.proofs.Replies.{step-no, step_kept}
use mathlib.Core.Path.{refl, sym, ap, ◌∙◌}
use mathlib.Core.List.{[]}
use Prim.Native.Nat.{ℕ}
use Rattle.cart.specs.Calls.{save_read, questions, accepted}
use Rattle.cart.specs.Counts.{store_of}
use Rattle.cart.specs.Replies.{state, done}
use Rattle.byte_calls.proofs.save_read.Goals as goal

pub returns-in_err-door : goal.returns-in_err-door
unfolding questions
returns-in_err-door c =
    let a = c.args in
    ap (λ (r : Reply). (r, a.memory.now)) (passed-reply a.cart c.from_residual.result c.in_err-door.field-0.0 c.from_residual.ensures.1)
    ∙ ap replied (sym (step-no (save_read a.address) [] (state a.cart a.memory.now) (refusal_number c.in_err-door.field-0.0) c.in_err-door.ensures (not-0 c.in_err-door.field-0.0)))

pub returns : goal.returns
unfolding questions accepted store_of
returns c =
    let a = c.args in
    ap (λ (r : Reply). (r, a.memory.now)) (c.done.ensures ∙ ap (λ (v : ℕ). done v a.cart) (c.from.ensures ∙ c.read_save.ensures))
    ∙ ap replied (sym (step_kept (save_read a.address) [] (state a.cart a.memory.now) 0 c.in_ok-door.ensures refl refl))
