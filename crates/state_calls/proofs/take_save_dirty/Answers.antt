-- `state_calls::take_save_dirty` meets its contract. Assumes nothing.
use mathlib.Core.Path.{refl, sym, ap, ap₂, ◌∙◌}
use mathlib.Core.List.{[]}
use Rattle.refusal.specs.Refusals.{refusal_number}
use Rattle.refusal.proofs.Passed.{not-0}
use Rattle.cart.specs.Replies.{Reply}
use Rattle.cart.specs.Calls.{take_save_dirty, questions, accepted}
use Rattle.cart.specs.Counts.{store_of}
use Rattle.cart.specs.Replies.{state, done, flag_replied}
use Rattle.cart.proofs.Replies.{passed-reply, step-no, step_kept}
use Rattle.state_calls.proofs.take_save_dirty.Goals as goal

pub returns-in_err-ask_record : goal.returns-in_err-ask_record
unfolding questions
returns-in_err-ask_record c =
    let k = c.args.cart in
    let e = c.in_err-ask_record.field-0.0 in
    λ m.
    ap (λ (r : Reply). (r, m)) (passed-reply k c.from_residual.result e c.from_residual.ensures.1)
    ∙ ap flag_replied (sym (step-no take_save_dirty [] (state k m) (refusal_number e) c.in_err-ask_record.ensures (not-0 e)))

pub returns : goal.returns
unfolding questions accepted store_of
returns c =
    let k = c.args.cart in
    λ m.
    ap (λ (r : Reply). (r, m)) (c.done.ensures ∙ ap₂ done (c.from.ensures ∙ c.bit.ensures) c.cart_with.ensures)
    ∙ ap flag_replied (sym (step_kept take_save_dirty [] (state k m) 0 c.in_ok-ask_record.ensures refl refl))
