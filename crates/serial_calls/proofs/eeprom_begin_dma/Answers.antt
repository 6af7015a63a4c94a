-- `serial_calls::eeprom_begin_dma` meets its contract. Assumes nothing.
use mathlib.Core.Path.{refl, sym, ap, ◌∙◌}
use mathlib.Core.List.{[], ◌∷◌}
use native.Mathlib.Omega.{arith}
use Rattle.lists.proofs.Bools.{denied, granted}
use Rattle.eeprom.specs.declared.Eeprom.{Eeprom}
use Rattle.eeprom.specs.Eeprom.{dma_question}
use Rattle.cart.specs.Replies.{Reply}
use Rattle.cart.specs.Calls.{eeprom_begin_dma, questions, accepted}
use Rattle.cart.specs.Counts.{store_of}
use Rattle.cart.specs.Replies.{state, chip_record, cart_with, done, replied}
use Rattle.refusal.specs.Refusals.{refusal_number}
use Rattle.refusal.proofs.Passed.{not-0}
use Rattle.cart.proofs.Replies.{passed-reply, record-no, record-yes, step-no, step_kept}
use Rattle.serial_calls.proofs.eeprom_begin_dma.Goals as goal

pub returns-in_err-ask_record : goal.returns-in_err-ask_record
unfolding questions
returns-in_err-ask_record c =
    let a = c.args in
    let e = c.in_err-ask_record.field-0.0 in
    λ m.
    ap (λ (r : Reply). (r, m)) (passed-reply a.cart c.from_residual.result e c.from_residual.ensures.1)
    ∙ ap replied (sym (step-no (eeprom_begin_dma a.words) [] (state a.cart m) (refusal_number e)
    (record-no a.cart (dma_question a.words a.cart.chip.eeprom ∷ []) (refusal_number e) c.in_err-ask_record.ensures (not-0 e)) (not-0 e)))

pub returns-then-not-dma_allowed : goal.returns-then-not-dma_allowed
unfolding questions dma_question
returns-then-not-dma_allowed c =
    let a = c.args in
    let f = denied _ c.dma_allowed.ensures c.if-not-dma_allowed.true in
    λ m.
    ap replied (sym (step-no (eeprom_begin_dma a.words) [] (state a.cart m) 5 (rw (record-yes a.cart c.in_ok-ask_record.ensures, f)) (λ z. omega arith)))

pub returns : goal.returns
unfolding questions dma_question accepted store_of
returns c =
    let a = c.args in
    let f = granted _ c.dma_allowed.ensures c.if-not-dma_allowed.false in
    let g = c.with_eeprom.ensures ∙ ap (λ (x : Eeprom). cart_with a.cart a.cart.dirty (chip_record a.cart.chip.flash x)) c.begin_dma.ensures in
    λ m.
    ap (λ (r : Reply). (r, m)) (c.done.ensures ∙ ap (done 0) g)
    ∙ ap replied (sym (step_kept (eeprom_begin_dma a.words) [] (state a.cart m) 0 (rw (record-yes a.cart c.in_ok-ask_record.ensures, f)) refl refl))
