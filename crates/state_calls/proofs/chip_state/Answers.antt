-- `state_calls::chip_state` meets its contract. Assumes nothing.
use mathlib.Core.Path.{refl, sym, ap, ◌∙◌}
use mathlib.Core.List.{List, []}
use Prim.Native.Nat.{ℕ}
use Rattle.refusal.specs.Refusals.{refusal_number}
use Rattle.refusal.proofs.Passed.{not-0}
use Rattle.chip_record.specs.ChipState.{chip_bytes}
use Rattle.chip_record.specs.States.{state_bytes}
use Rattle.cart.specs.Calls.{chip_state, questions, accepted}
use Rattle.cart.specs.Replies.{state}
use Rattle.cart.proofs.Replies.{step-no, step-yes}
use Rattle.state_calls.specs.StateAnswer.{StateAnswer, state_answer, state_answered}
use Rattle.state_calls.proofs.Passed.{passed-state}
use Rattle.state_calls.proofs.chip_state.Goals as goal

pub returns-in_err-ask_record : goal.returns-in_err-ask_record
unfolding questions
returns-in_err-ask_record c =
    let k = c.args.cart in
    let e = c.in_err-ask_record.field-0.0 in
    λ m.
    ap (λ (r : StateAnswer). (r, state k m)) (passed-state c.from_residual.result e c.from_residual.ensures.1)
    ∙ ap state_answered (sym (step-no chip_state [] (state k m) (refusal_number e) c.in_err-ask_record.ensures (not-0 e)))

pub returns : goal.returns
unfolding questions accepted state_bytes chip_bytes
returns c =
    let k = c.args.cart in
    λ m.
    ap (λ (b : List ℕ). (state_answer 0 b, state k m)) c.state_of.ensures
    ∙ ap state_answered (sym (step-yes chip_state [] (state k m) 0 c.in_ok-ask_record.ensures refl))
