-- `state_calls::restore_chip_state` meets its contract. Assumes nothing.
use mathlib.Core.Path.{refl, sym, ap, ap₂, ◌∙◌}
use mathlib.Core.Bool.{Bool}
use mathlib.Core.List.{[]}
use Rattle.refusal.specs.Refusals.{refusal_number}
use Rattle.refusal.proofs.Passed.{not-0}
use Rattle.cart.specs.Replies.{Reply}
use Rattle.chip_record.specs.declared.ChipRecord.{ChipRecord}
use Rattle.cart.specs.Record.{outcome}
use Rattle.cart.specs.Calls.{restore_questions, restore}
use Rattle.cart.specs.Replies.{state, cart_with, done, replied}
use Rattle.chip_record.specs.States.{state_questions}
use Rattle.cart.proofs.Restore.{restoring}
use Rattle.cart.proofs.Replies.{passed-reply, record-no, record-yes, guarded-no, guarded-yes}
use Rattle.state_calls.proofs.restore_chip_state.Goals as goal

pub returns-in_err-ask_record : goal.returns-in_err-ask_record
unfolding restore
returns-in_err-ask_record c =
    let a = c.args in
    let b = a.bytes.now in
    let e = c.in_err-ask_record.field-0.0 in
    λ m.
    let s = state a.cart m in
    ap (λ (r : Reply). (r, m)) (passed-reply a.cart c.from_residual.result e c.from_residual.ensures.1)
    ∙ ap replied (sym (guarded-no (restore_questions b s) [] s (outcome [] (restoring b s) []) (refusal_number e)
    (record-no a.cart (state_questions b) (refusal_number e) c.in_err-ask_record.ensures (not-0 e)) (not-0 e)))

pub returns-in_err-state_questions : goal.returns-in_err-state_questions
unfolding restore
returns-in_err-state_questions c =
    let a = c.args in
    let b = a.bytes.now in
    let y = record-yes a.cart c.in_ok-ask_record.ensures in
    let e = c.in_err-state_questions.field-0.0 in
    λ m.
    let s = state a.cart m in
    ap (λ (r : Reply). (r, m)) (passed-reply a.cart c.from_residual-in_err-state_questions.result e c.from_residual-in_err-state_questions.ensures.1)
    ∙ ap replied (sym (guarded-no (restore_questions b s) [] s (outcome [] (restoring b s) []) (refusal_number e) (rw y c.in_err-state_questions.ensures) (not-0 e)))

pub returns : goal.returns
unfolding restore
returns c =
    let a = c.args in
    let b = a.bytes.now in
    let y = record-yes a.cart c.in_ok-ask_record.ensures in
    λ m.
    let s = state a.cart m in
    ap (λ (r : Reply). (r, m)) (c.done.ensures ∙ ap (done 0) (c.cart_with.ensures ∙ ap₂ (λ (f : Bool) (k : ChipRecord). cart_with a.cart f k) c.flag_from-dirty.ensures c.chip_in.ensures))
    ∙ ap replied (sym (guarded-yes (restore_questions b s) [] s (outcome [] (restoring b s) []) 0 (rw y c.in_ok-state_questions.ensures) refl))
