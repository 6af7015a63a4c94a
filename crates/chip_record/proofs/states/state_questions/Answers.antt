-- `chip_record::states::state_questions` meets its contract. Assumes nothing.
use mathlib.Core.Path.{sym, ap, ◌∙◌}
use Rattle.refusal.proofs.Passed.{passed, not-0}
use Rattle.refusal.specs.Refusals.{number_of}
use borrow.Author.Tests.{le-leb, lt-leb}
use Rattle.chip_record.proofs.Layouts.{old-asked, new-asked, new-18}
use Rattle.chip_record.proofs.states.state_questions.Goals as goal

pub returns-then-b-eq-CHIP_SIZE : goal.returns-then-b-eq-CHIP_SIZE
returns-then-b-eq-CHIP_SIZE c = old-asked c.args.b.now _ c.if-b-eq-CHIP_SIZE.true c.field_questions.ensures

pub returns-in_err-field_questions : goal.returns-in_err-field_questions
returns-in_err-field_questions c =
    let e = passed c.from_residual.result c.in_err-field_questions.field-0.0 c.from_residual.ensures.1 in
    new-asked c.args.b.now c.if-b-ne-STATE_SIZE.false c.if-b-ne-LAYOUT_2.false _ (e ∙ c.in_err-field_questions.ensures)
    (λ z. absurd (not-0 c.in_err-field_questions.field-0.0 (sym e ∙ z)))

pub returns-then-b-gt1 : goal.returns-then-b-gt1
returns-then-b-gt1 c =
    new-18 c.args.b.now c.if-b-ne-STATE_SIZE.false c.if-b-ne-LAYOUT_2.false
    (sym c.field_questions-2.ensures ∙ ap number_of c.in_ok-field_questions.was) (lt-leb _ _ c.if-b-gt1.true)

pub returns : goal.returns
returns c =
    new-asked c.args.b.now c.if-b-ne-STATE_SIZE.false c.if-b-ne-LAYOUT_2.false 0
    (sym (ap number_of c.in_ok-field_questions.was) ∙ c.field_questions-2.ensures) (λ z. le-leb _ _ c.if-b-gt1.false)
